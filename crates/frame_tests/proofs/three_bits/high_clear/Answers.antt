use Rattle.frame_tests.proofs.OfThreeBits.{high_clear}
use Rattle.frame_tests.proofs.three_bits.high_clear.Goals as goal

pub new-requires : goal.new-requires
new-requires c = high_clear c.args.system.now c.args.level c.in_ok-parents.parents.items c.requires c.in_ok-parents.ensures
