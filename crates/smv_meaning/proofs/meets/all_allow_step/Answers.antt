-- What the items ask by their nodes they ask as resolved items.
use Rattle.std.proofs.Common.{◌≡◌, ◌∙◌, List, [], ap}
use Rattle.std.specs.List.{list_all}
use Rattle.smv_slots.specs.Slots.{slots_of}
use Rattle.smv_meaning.specs.declared.outcome.Evaluation.{Evaluation}
use Rattle.smv_meaning.specs.Runs.{allows_step}
use Rattle.smv_meaning.specs.Tables.{outcomes_of, step_allowed}
use Rattle.smv_meaning.proofs.Items.{step_asked}
use Rattle.smv_meaning.proofs.meets.all_allow_step.Goals as goal

pub returns : goal.returns
returns c =
    let slots = slots_of c.args.typed.now.scope.program in
    let nodes = c.args.typed.now.nodes in
    let later : c.as_slice-4.result.now ≡ outcomes_of slots c.args.next.now [] [] nodes = c.as_slice-4.ensures.value ∙ c.in_ok-later.ensures in
    let here : c.as_slice-3.result.now ≡ outcomes_of slots c.args.s.now c.args.u.now c.args.next.now nodes =
    cc (c.as_slice-3.ensures.value, c.in_ok-here.ensures, c.args.typed.now.laid_out) in
    c.step_allowed.ensures
    ∙ ap (λ (here : List Evaluation). step_allowed here c.as_slice-4.result.now c.as_slice-5.result.now) here
    ∙ ap (λ (later : List Evaluation). step_allowed (outcomes_of slots c.args.s.now c.args.u.now c.args.next.now nodes) later c.as_slice-5.result.now) later
    ∙ ap (step_allowed _ _) c.as_slice-5.ensures
    ∙ step_asked slots nodes c.args.s.now c.args.u.now c.args.next.now c.args.typed.now.items
    ∙ ap (list_all (allows_step slots c.args.s.now c.args.u.now c.args.next.now)) c.args.typed.now.resolved
