-- What is told by the values of the state and of the inputs.
use Rattle.std.proofs.Common.{[], refl}
use Rattle.bit_conditions.specs.Told.{inputs_under, state_under}
use Rattle.bit_conditions.proofs.OfTold.{table_told}
use Rattle.bit_conditions.proofs.told.told_moment.Goals as goal

pub returns-clause-told : goal.returns-clause-told
returns-clause-told c =
    let typed = c.args.typed.now in
    let p = typed.scope.program in
    let state = c.args.state.now in
    let inputs = c.args.inputs.now in
    let nowhere = c.args.nowhere.now in
    let made = c.in_ok-told.ensures in
    record {
      stand = made.stand;
      told = λ v h is are.
          let before = made.extends.kept v h in
          table_told typed v c.as_slice.result.now c.as_slice-2.result.now c.as_slice.ensures c.as_slice-2.ensures state.values inputs.values c.as_slice-3.result.now c.as_slice-4.result.now
          nowhere nowhere c.in_ok-told.told c.as_slice-3.ensures c.as_slice-4.ensures refl (λ s u t ds du later. made.told v s u t h ds du later)
          (state_under p v state.bits) (inputs_under p v inputs.bits) [] (c.requires.state.values v before is) (c.requires.inputs.values v before are) (c.requires.nowhere.told v before);
    }
