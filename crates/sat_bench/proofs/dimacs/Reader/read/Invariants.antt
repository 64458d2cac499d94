use Rattle.std.proofs.Common.{◌-◌, ◌≤◌, length}
use Rattle.sat_bench.proofs.dimacs.Reader.read.Given as goal

abbrev pub invariant-text : goal.invariant-text
invariant-text l = l.at ≤ length l.text

abbrev pub decreases-text : goal.decreases-text
decreases-text l = length l.text - l.at
