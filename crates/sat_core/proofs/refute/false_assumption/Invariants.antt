use Rattle.std.proofs.Common.{◌≡◌, take, false}
use Rattle.std.specs.List.{All}
use Rattle.clause_core.specs.Literals.{negate}
use Rattle.sat_prop.specs.Trails.{among}
use Rattle.sat_core.proofs.refute.false_assumption.Given as goal

abbrev pub invariant-loop-j : goal.invariant-loop-j
invariant-loop-j l = All (λ a. among l.trail.literals.items (negate a) ≡ false) (take l.j l.assumptions)
