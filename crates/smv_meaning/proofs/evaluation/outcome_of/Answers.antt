-- The outcome of the last node.
use Rattle.std.proofs.Common.{◌≡◌, ◌∙◌, List, IfOk, ap, subst}
use Rattle.smv_resolve.specs.Resolved.{part_of, parts_of}
use Rattle.smv_meaning.specs.declared.outcome.Evaluation.{Evaluation}
use Rattle.smv_meaning.specs.Tables.{outcome_at}
use Rattle.smv_meaning.specs.Values.{outcome}
use Rattle.smv_meaning.proofs.Tables.{outcome_at-map}
use Rattle.smv_meaning.proofs.evaluation.outcome_of.Goals as goal

pub returns : goal.returns
returns c =
    let nodes = c.args.nodes.now in
    let is : outcome_at c.as_slice.result.now c.args.root ≡ outcome c.args.slots.now c.args.s.now c.args.u.now c.args.next.now (part_of nodes c.args.root) =
    ap (λ (os : List Evaluation). outcome_at os c.args.root) (c.as_slice.ensures.value ∙ c.in_ok-outcomes.ensures)
    ∙ outcome_at-map c.args.slots.now c.args.s.now c.args.u.now c.args.next.now (parts_of nodes) c.args.root in
    subst (λ (x : Evaluation). IfOk c.copy_at.result (λ o. o ≡ x)) is c.copy_at.ensures
