-- What the items ask by their nodes they ask as resolved items.
use Rattle.std.proofs.Common.{◌∙◌, List, ap}
use Rattle.std.specs.List.{list_all}
use Rattle.smv_slots.specs.Slots.{slots_of}
use Rattle.smv_meaning.specs.declared.outcome.Evaluation.{Evaluation}
use Rattle.smv_meaning.specs.Runs.{allows_first}
use Rattle.smv_meaning.specs.Tables.{first_allowed}
use Rattle.smv_meaning.proofs.Items.{first_asked}
use Rattle.smv_meaning.proofs.meets.all_allow_first.Goals as goal

pub returns : goal.returns
returns c =
    let slots = slots_of c.args.typed.now.scope.program in
    c.first_allowed.ensures
    ∙ ap (λ (here : List Evaluation). first_allowed here c.as_slice-2.result.now) (c.as_slice.ensures.value ∙ c.in_ok-here.ensures)
    ∙ ap (first_allowed _) c.as_slice-2.ensures
    ∙ first_asked slots c.args.typed.now.nodes c.args.s.now c.args.typed.now.items
    ∙ ap (list_all (allows_first slots c.args.s.now)) c.args.typed.now.resolved
