use Rattle.frame_tests.proofs.OfThreeBits.{clear_level}
use Rattle.frame_tests.proofs.three_bits.clear.Goals as goal

pub new-requires : goal.new-requires
new-requires c = clear_level c.args.system.now c.args.level c.in_ok-parents.parents.items c.requires c.in_ok-parents.ensures
