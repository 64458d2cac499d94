use Rattle.std.proofs.Common.{ap, ◌∙◌, arith}
use Rattle.clause_core.specs.Assignments.{assignment_of}
use Rattle.ltl_monitor.specs.declared.layout.Space.{Space}
use Rattle.ltl_monitor.specs.Drafting.{place}
use Rattle.ltl_monitor.proofs.OwnRows.{values_more}
use Rattle.ltl_monitor.proofs.projection.values.Goals as goal

pub loop-var-preserved : goal.loop-var-preserved
loop-var-preserved c = (
  omega (arith, c.in_ok-push.ensures.len, c.loop-var.invariant.0),
  values_more c.loop-var.values.items c.push.new.self.items (λ v. assignment_of c.args.row.now (place c.args.layout.now Space.System v)) c.loop-var.var c.value.result
      c.loop-var.invariant.0 c.in_ok-push.ensures.items (c.value.ensures ∙ ap (assignment_of c.args.row.now) c.in_ok-place.ensures) c.loop-var.invariant.1,
)
