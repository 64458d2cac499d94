use Rattle.std.proofs.lemmas.Slice.Eq.{slice_eq-Decides}
use Rattle.frame_core.proofs.Same.{lit_eq}
use Rattle.frame_tests.proofs.three_bits.is_same_clause.Goals as goal

pub returns : goal.returns
returns c = (slice_eq-Decides lit_eq c.args.a.now c.args.b.now c.eq.result c.eq.ensures).0
