-- How many queries a tally counts.
use Rattle.std.specs.Prelude.{ℕ, ◌+◌}
use Rattle.sat_bench.specs.declared.kept.Tally.{Tally}

-- the answers of all kinds
abbrev pub answers : Tally → ℕ
answers t = t.satisfiable + t.unsatisfiable + t.unknown
