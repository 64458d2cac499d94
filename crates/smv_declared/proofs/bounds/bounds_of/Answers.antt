-- The bounds of one dimension more.
use Rattle.smv_declared.specs.Limits.{bounds_in}
use Rattle.smv_declared.specs.Refusals.{wide_limits}
use Rattle.smv_declared.proofs.Adding.{first_further, mapped_more}
use Rattle.smv_declared.proofs.bounds.bounds_of.Goals as goal

pub loop-limits-preserved : goal.loop-limits-preserved
loop-limits-preserved c = record {
  left =
      first_further wide_limits c.args.all.now c.loop-limits.limits-index _ _ c.loop-limits-test.true c.limits-item.is c.in_ok-dimension.ensures.judged
      c.loop-limits.invariant.left;
  found =
      mapped_more bounds_in c.args.all.now c.loop-limits.bounds c.push.new.self c.loop-limits.limits-index _ c.in_ok-dimension.dimension c.loop-limits-test.true
      c.limits-item.is c.loop-limits.invariant.found c.in_ok-dimension.ensures.bounds c.in_ok-push.ensures.ok;
}
