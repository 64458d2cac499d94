use Rattle.sat_prop.specs.Covers.{Retired}
use Rattle.sat_prop.proofs.cover.retire_candidates.Given as goal

abbrev pub invariant-candidates : goal.invariant-candidates
invariant-candidates l = Retired l.clauses l.fn.rows l.rows
