use Rattle.std.proofs.Common.{◌≡◌, List, subst, true, arith}
use Rattle.clause_core.specs.declared.literal.Lit.{Lit}
use Rattle.frame_core.specs.Facts.{IsPart}
use Rattle.frame_tests.proofs.OfThreeBits.{covers_first}
use Rattle.frame_tests.proofs.frames.is_covered.Goals as goal

pub returns-clause-covered : goal.returns-clause-covered
returns-clause-covered c = λ yes.
    let live : c.lemma-other.result.now.live ≡ true = cc in
    let part : IsPart c.lemma-other.result.now.clause c.lemma-lemma.result.now.clause =
    subst (λ (d : List Lit). IsPart d c.lemma-lemma.result.now.clause) c.as_slice.ensures
    (subst (IsPart c.as_slice.result.now) c.as_slice-2.ensures (c.is_part_of.ensures.0 yes)) in
    covers_first c.args.frames.now c.lemma-lemma.result.now c.lemma-other.result.now (omega arith) c.lemma-lemma.ensures c.lemma-other.ensures live c.if-lemma-other.false part
