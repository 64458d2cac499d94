-- What is told by the values of both states and of the inputs.
use Rattle.bit_conditions.specs.Told.{inputs_under, state_under}
use Rattle.bit_conditions.proofs.OfTold.{table_told}
use Rattle.bit_conditions.proofs.told.told_step.Goals as goal

pub returns-clause-told : goal.returns-clause-told
returns-clause-told c =
    let typed = c.args.typed.now in
    let p = typed.scope.program in
    let from = c.args.from.now in
    let inputs = c.args.inputs.now in
    let to = c.args.to.now in
    let made = c.in_ok-told.ensures in
    record {
      stand = made.stand;
      told = λ v h is are next.
          let before = made.extends.kept v h in
          table_told typed v c.as_slice.result.now c.as_slice-2.result.now c.as_slice.ensures c.as_slice-2.ensures from.values inputs.values c.as_slice-3.result.now c.as_slice-4.result.now
          to.told c.as_slice-5.result.now c.in_ok-told.told c.as_slice-3.ensures c.as_slice-4.ensures c.as_slice-5.ensures (λ s u t ds du later. made.told v s u t h ds du later)
          (state_under p v from.bits) (inputs_under p v inputs.bits) (state_under p v to.bits) (c.requires.from.values v before is) (c.requires.inputs.values v before are)
          (c.requires.to.told v before next);
    }
