use Rattle.frame_core.specs.Looking.{AreCoveredBy}
use Rattle.frame_core.proofs.lemma_list.Lemmas.covered_by.Given as goal

abbrev pub invariant-loop-n : goal.invariant-loop-n
invariant-loop-n l = AreCoveredBy l.self l.clause l.level l.n l.numbers.items
