-- What the items ask by their nodes they ask as resolved items.
use Rattle.std.proofs.Common.{◌∙◌, List, [], ap}
use Rattle.std.specs.List.{list_all}
use Rattle.smv_slots.specs.Slots.{slots_of}
use Rattle.smv_meaning.specs.declared.outcome.Evaluation.{Evaluation}
use Rattle.smv_meaning.specs.Runs.{allows_always}
use Rattle.smv_meaning.specs.Tables.{always_allowed, outcomes_of}
use Rattle.smv_meaning.proofs.Items.{always_asked}
use Rattle.smv_meaning.proofs.meets.meets_inv.Goals as goal

pub returns : goal.returns
returns c =
    let slots = slots_of c.args.typed.now.scope.program in
    let here = c.as_slice-2.ensures.value ∙ c.in_ok-here.ensures ∙ ap (λ s. outcomes_of slots s [] [] c.args.typed.now.nodes) c.as_slice.ensures in
    c.always_allowed.ensures
    ∙ ap (λ (here : List Evaluation). always_allowed here c.as_slice-3.result.now) here
    ∙ ap (always_allowed _) c.as_slice-3.ensures
    ∙ always_asked slots c.args.typed.now.nodes c.args.s.now c.args.typed.now.items
    ∙ ap (list_all (allows_always slots c.args.s.now)) c.args.typed.now.resolved
