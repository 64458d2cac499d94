use Rattle.frame_tests.proofs.OfThreeBits.{latch_last_state}
use Rattle.frame_tests.proofs.three_bits.latch_last.Goals as goal

pub found-requires : goal.found-requires
found-requires c = latch_last_state c.args.system.now c.requires
