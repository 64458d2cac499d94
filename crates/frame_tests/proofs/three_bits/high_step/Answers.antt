use Rattle.frame_tests.proofs.OfThreeBits.{middle_step}
use Rattle.frame_tests.proofs.three_bits.high_step.Goals as goal

pub step_of-requires : goal.step_of-requires
step_of-requires c = middle_step c.args.system.now c.requires
