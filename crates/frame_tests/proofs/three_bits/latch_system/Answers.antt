use Rattle.std.proofs.Common.{rules}
use Rattle.frame_tests.specs.ThreeBits.{latch}
use Rattle.frame_tests.proofs.three_bits.latch_system.Goals as goal

pub returns : goal.returns
unfolding latch
returns c = search rules
