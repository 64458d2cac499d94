use Rattle.std.proofs.Common.{rules}
use Rattle.frame_tests.specs.ThreeBits.{register}
use Rattle.frame_tests.proofs.three_bits.register_system.Goals as goal

pub returns : goal.returns
unfolding register
returns c = search rules
