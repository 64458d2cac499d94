use Rattle.std.proofs.Common.{ap, ◌∙◌}
use Rattle.clause_core.specs.Assignments.{assignment_of}
use Rattle.lasso_search.specs.declared.plan.Turn.{Turn}
use Rattle.lasso_search.specs.Unrolling.{place}
use Rattle.lasso_search.proofs.Each.{each_more}
use Rattle.lasso_search.proofs.reading.row.Goals as goal

pub loop-var-preserved : goal.loop-var-preserved
loop-var-preserved c =
    let model = c.args.model.now in
    each_more (λ v. assignment_of model (place c.args.plan.now (Turn.Step c.args.time) v)) c.loop-var.values.items c.push.new.self.items c.loop-var.var c.value.result
    c.loop-var.invariant (c.value.ensures ∙ ap (assignment_of model) c.in_ok-place.ensures) c.in_ok-push.ensures.items
