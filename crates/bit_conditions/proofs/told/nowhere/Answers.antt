-- Nothing of each node, so of whatever outcomes.
use Rattle.std.proofs.Common.{◌∙◌, [], ap, length, sym}
use Rattle.smv_slots.specs.Slots.{slots_of}
use Rattle.smv_meaning.specs.Tables.{outcomes_of}
use Rattle.bit_outcomes.proofs.OfNodes.{outcomes_long}
use Rattle.bit_conditions.proofs.told.nowhere.Goals as goal

pub returns : goal.returns
returns c =
    let typed = c.args.typed.now in
    let slots = slots_of typed.scope.program in
    let told = c.in_ok-told.ensures in
    λ g. record {
      stand = told.stand g;
      told = λ v h. told.told v (outcomes_of slots [] [] [] typed.nodes) (outcomes_long slots [] [] [] typed.nodes ∙ ap length (sym c.as_slice.ensures));
    }
