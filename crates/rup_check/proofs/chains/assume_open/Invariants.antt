use Rattle.std.proofs.Common.{◌≡◌, ◌⊎◌, ℕ, take, map, get_or}
use Rattle.clause_core.specs.Literals.{negate}
use Rattle.rup_check.specs.Chains.{Matches, HasVar}
use Rattle.rup_check.proofs.chains.assume_open.Given as goal

abbrev pub invariant-loop-x : goal.invariant-loop-x
invariant-loop-x l =
    record {
      matches : Matches l.values (map negate (take l.x-index l.c));
      touched : (k : ℕ) → (get_or l.values k 0 ≡ 0) ⊎ HasVar l.c k;
    }
