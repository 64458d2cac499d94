-- The records so far are those of the first specifications.
use Rattle.smv_recheck.proofs.Recording.{SoFar}
use Rattle.smv_recheck.proofs.checking.records_of.Given as goal

abbrev pub invariant-loop-j : goal.invariant-loop-j
invariant-loop-j l = SoFar l.flat.typed.scope.program l.built l.soundness l.again l.beside.traces l.beside.certificates.items l.j l.records.items
