-- A run of more than one integer.
use Rattle.std.proofs.Common.{arith}
use Rattle.std.proofs.lemmas.Int.{ints, to_z-of_z}
use Rattle.value_sets.proofs.Runs.{run_long}
use Rattle.value_sets.proofs.spans.number_between.Goals as goal

pub returns-then-low-high : goal.returns-then-low-high
returns-then-low-high c = run_long c.args.low c.args.high (first_of (omega (arith, ints), grind (arith, ints, to_z-of_z)))
