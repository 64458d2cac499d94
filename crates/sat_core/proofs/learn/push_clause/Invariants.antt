use Rattle.std.proofs.Common.{◌≡◌, take}
use Rattle.sat_core.specs.Searching.{learned_clause}
use Rattle.sat_core.proofs.learn.push_clause.Given as goal

abbrev pub invariant-loop-x : goal.invariant-loop-x
invariant-loop-x l = l.c.items ≡ learned_clause l.literals l.p (take l.x-index l.low)
