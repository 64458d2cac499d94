-- One dimension more.
use Rattle.std.proofs.Common.{arith}
use Rattle.smv_declared.proofs.Sizes.{size_more}
use Rattle.smv_declared.proofs.tally.size_of.Goals as goal

pub loop-bounds-preserved : goal.loop-bounds-preserved
loop-bounds-preserved c =
    size_more c.args.dimensions.now c.loop-bounds.bounds-index _ 65537 18446744073709551615 c.loop-bounds.size c.saturating_mul.result c.min-size.result (omega arith)
    c.loop-bounds-test.true c.loop-bounds.invariant c.saturating_mul.ensures c.min-size.ensures
