use Rattle.frame_tests.proofs.OfThreeBits.{high_proof}
use Rattle.frame_tests.proofs.three_bits.high_proof.Goals as goal

pub new-requires-2 : goal.new-requires-2
new-requires-2 c = high_proof c.args.system.now c.in_ok-clause.clause c.in_ok-part.part c.new.result.items c.requires c.in_ok-clause.ensures c.in_ok-part.ensures
