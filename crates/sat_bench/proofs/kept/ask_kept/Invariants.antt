use Rattle.std.proofs.Common.{◌≡◌}
use Rattle.sat_bench.specs.Kept.{answers}
use Rattle.sat_bench.proofs.kept.ask_kept.Given as goal

abbrev pub invariant-queries : goal.invariant-queries
invariant-queries l = (l.solver.vars ≡ l.fn.vars) × (answers l.tally ≡ l.counter)
