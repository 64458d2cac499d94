use Rattle.std.proofs.Common.{◌≡◌, ◌<◌, ℕ, true}
use Rattle.clause_core.specs.Literals.{at}
use Rattle.sat_prop.specs.Trails.{is_literal}
use Rattle.sat_prop.proofs.attach.pair_of.Given as goal

abbrev pub invariant-loop-i : goal.invariant-loop-i
invariant-loop-i l = (j : ℕ) → j < l.i → is_literal (at l.c j) (at l.c 0) ≡ true
