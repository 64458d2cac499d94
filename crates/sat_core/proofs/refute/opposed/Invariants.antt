use Rattle.std.proofs.Common.{◌≡◌, ◌<◌, ℕ, get_or}
use Rattle.clause_core.specs.Literals.{at}
use Rattle.sat_core.proofs.refute.opposed.Given as goal

-- the number of the variable of each assumption so far is that of an equal one
abbrev pub invariant-loop-j : goal.invariant-loop-j
invariant-loop-j l =
    (i : ℕ) → i < l.j →
    (get_or l.numbers (at l.assumptions i).var 0 < l.j)
    × (at l.assumptions (get_or l.numbers (at l.assumptions i).var 0) ≡ at l.assumptions i)
