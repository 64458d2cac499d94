-- The outcome of the expression as it is resolved.
use Rattle.std.proofs.Common.{◌∙◌, ap}
use Rattle.smv_slots.specs.Slots.{slots_of}
use Rattle.smv_resolve.specs.Resolved.{Resolved}
use Rattle.smv_layout.specs.Layout.{laid_expression}
use Rattle.smv_meaning.specs.Values.{outcome}
use Rattle.smv_meaning.proofs.Given.{given_where_typed}
use Rattle.smv_meaning.proofs.evaluation.eval_at.Goals as goal

pub returns-clause-evaluates : goal.returns-clause-evaluates
returns-clause-evaluates c =
    let p = c.args.typed.now.scope.program in
    c.in_ok-outcome.ensures
    ∙ ap (λ (r : Resolved). outcome (slots_of p) c.args.s.now c.args.u.now c.args.next.now (laid_expression p r)) c.in_ok-resolved.ensures

pub returns-clause-given : goal.returns-clause-given
returns-clause-given c =
    let p = c.args.typed.now.scope.program in
    given_where_typed p c.args.at c.args.e.now c.args.s.now c.args.u.now c.args.next.now c.in_ok-outcome.field-0 c.args.typed.now.known
    (c.in_ok-outcome.ensures
    ∙ ap (λ (r : Resolved). outcome (slots_of p) c.args.s.now c.args.u.now c.args.next.now (laid_expression p r)) c.in_ok-resolved.ensures)
