use Rattle.std.proofs.Common.{◌≡◌, take}
use Rattle.sat_core.specs.Queries.{learned_of}
use Rattle.sat_core.proofs.query.log_of.Given as goal

abbrev pub invariant-loop-k : goal.invariant-loop-k
invariant-loop-k g l = l.log ≡ learned_of l.marks (take l.k (g.P.Propagator.clauses l.inner))
