use Rattle.std.proofs.Common.{◌≡◌, ℕ, take, get_or}
use Rattle.std.specs.List.{All}
use Rattle.rup_check.proofs.chains.clear.Given as goal

abbrev pub invariant-loop-x : goal.invariant-loop-x
invariant-loop-x l =
    record {
      zeroed : All (λ m. get_or l.values m.var 0 ≡ 0) (take l.x-index l.c);
      kept : (k : ℕ) → get_or l.initial.values k 0 ≡ 0 → get_or l.values k 0 ≡ 0;
    }
