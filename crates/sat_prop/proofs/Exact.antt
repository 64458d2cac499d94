use Rattle.std.proofs.Common.{◌≡◌, ℕ, ◌<◌, ◌+◌, Bool, false, List, ◌∷◌, [], ◌++◌, length, get_or, arith, set, length-append}
use Rattle.std.proofs.lemmas.List.Sums.{sum_by-set}
use Rattle.clause_core.specs.declared.literal.Lit.{Lit}
use Rattle.clause_core.specs.Literals.{negate}
use Rattle.clause_core.specs.Values.{code, holds, unset, unset_one}
use Rattle.clause_core.proofs.Setting.{unset_one_code, unset_one_free}

-- length literals + unset values ≡ length values, at each step
pub count_push : (v : List ℕ) (tr : List Lit) (l : Lit) → l.var < length v → holds v l ≡ false → holds v (negate l) ≡ false →
    length tr + unset v ≡ length v → length (tr ++ l ∷ []) + unset (set v l.var (code l.positive)) ≡ length v
count_push v tr l lt e f h =
    omega (
      arith,
      sum_by-set unset_one v l.var (code l.positive) 0 lt,
      unset_one_code l.positive,
      unset_one_free (get_or v l.var 0) l.positive e f,
      length-append tr (l ∷ []),
      h,
    )

pub count_clear : (v : List ℕ) (n : ℕ) (x : Bool) → n < length v → get_or v n 0 ≡ code x → unset (set v n 0) ≡ unset v + 1
count_clear v n x lt e =
    let was : unset_one (get_or v n 0) ≡ 0 = rw e (unset_one_code x) in
    omega (arith, sum_by-set unset_one v n 0 0 lt, was)
