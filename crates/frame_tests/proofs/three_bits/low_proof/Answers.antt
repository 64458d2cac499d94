use Rattle.frame_tests.proofs.OfThreeBits.{low_proof}
use Rattle.frame_tests.proofs.three_bits.low_proof.Goals as goal

pub new-requires : goal.new-requires
new-requires c = low_proof c.args.system.now c.in_ok-clause.clause c.in_ok-part.part c.args.level c.args.parents.items c.requires.system c.in_ok-clause.ensures c.in_ok-part.ensures c.requires.level
