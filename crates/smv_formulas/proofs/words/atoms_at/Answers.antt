-- The truth of one atom more.
use Rattle.std.proofs.Common.{◌≡◌, ◌∙◌, Bool, List, [], ◌∷◌, ◌++◌, ap}
use Rattle.smv_slots.specs.declared.slot.Slot.{Slot}
use Rattle.smv_slots.specs.Slots.{slots_of}
use Rattle.smv_value.specs.declared.value.Value.{Value}
use Rattle.smv_meaning.specs.Tables.{outcomes_of}
use Rattle.smv_formulas.proofs.OnWords.{truths_next}
use Rattle.smv_formulas.proofs.words.atoms_at.Goals as goal

pub loop-atom-preserved : goal.loop-atom-preserved
loop-atom-preserved c =
    let slots = slots_of c.args.typed.now.scope.program in
    let nodes = c.args.typed.now.nodes in
    let told : c.as_slice-in-loop-atom.result.now ≡ outcomes_of slots c.args.state.now c.args.inputs.now [] nodes =
    c.as_slice-in-loop-atom.ensures.value
    ∙ c.in_ok-here.ensures
    ∙ ap (λ (ss : List Slot). outcomes_of ss c.as_slice.result.now c.as_slice-2.result.now [] c.as_slice-nodes.result.now) c.slots.ensures
    ∙ ap (λ (s : List Value). outcomes_of slots s c.as_slice-2.result.now [] c.as_slice-nodes.result.now) c.as_slice.ensures
    ∙ ap (λ (u : List Value). outcomes_of slots c.args.state.now u [] c.as_slice-nodes.result.now) c.as_slice-2.ensures
    ∙ ap (outcomes_of slots c.args.state.now c.args.inputs.now []) c.as_slice-nodes.ensures in
    c.in_ok-push.ensures.items
    ∙ ap (λ (l : List Bool). l ++ c.is_true_at.result ∷ []) c.loop-atom.invariant
    ∙ truths_next slots c.args.state.now c.args.inputs.now nodes c.args.atoms.now c.loop-atom.atom-index _ c.as_slice-in-loop-atom.result.now c.is_true_at.result c.loop-atom-test.true told
    c.is_true_at.ensures
