-- Lists of numbers, by how often each number stands in them.
use Rattle.std.proofs.Common.{◌≡◌, ℕ, zero, suc, ◌+◌, ◌<◌, ◌≤◌, Bool, true, false, List, [], ◌∷◌, ◌++◌, refl, sym, ap, subst, arith}
use Rattle.std.specs.Prelude.{◌==◌}
use Rattle.std.specs.List.Sorted.{IsPermutation}
use Rattle.std.proofs.lemmas.List.Sorted.{IsPermutation-refl, IsPermutation-sym, IsPermutation-cons, IsPermutation-middle, IsPermutation-trans}
use Rattle.std.proofs.lemmas.Bool.Decides.{nat_tests}
use Rattle.effort_purse.specs.Drawing.{past, numbers_below}
use Rattle.effort_purse.specs.Rule.{times, once_below}

pub times_snoc : (x y : ℕ) (xs : List ℕ) → times x (xs ++ y ∷ []) ≡ times x xs + times x (y ∷ [])
times_snoc x y [] = omega arith
times_snoc x y (z ∷ zs) = omega (arith, times_snoc x y zs)

pub times_append : (x : ℕ) (xs ys : List ℕ) → times x (xs ++ ys) ≡ times x xs + times x ys
times_append x [] ys = omega arith
times_append x (z ∷ zs) ys = omega (arith, times_append x zs ys)

-- one number more below n + 1
pub once_more : (x n : ℕ) → once_below x (n + 1) ≡ once_below x n + times x (n ∷ [])
once_more x n = grind (arith, nat_tests)

once_none : (x : ℕ) → once_below x 0 ≡ 0
once_none x = grind (arith, nat_tests)

pub times-numbers_below : (x n : ℕ) → times x (numbers_below n) ≡ once_below x n
times-numbers_below x zero = sym (once_none x)
times-numbers_below x (suc n) =
    let e : suc n ≡ n + 1 = omega arith in
    let s : once_below x (suc n) ≡ once_below x (n + 1) = ap (once_below x) e in
    omega (arith, times_snoc x n (numbers_below n), times-numbers_below x n, once_more x n)

at_least_once : (y : ℕ) (ys : List ℕ) → 0 < times y (y ∷ ys)
at_least_once y ys = grind (arith, nat_tests)

once_below_lt : (x m : ℕ) → 0 < once_below x m → x < m
once_below_lt x m h = grind (arith, nat_tests)

-- a list whose numbers are below m is past no more than m
pub past_below : (xs : List ℕ) (m : ℕ) → ((x : ℕ) → times x xs ≤ once_below x m) → past xs ≤ m
past_below [] m h = omega arith
past_below (y ∷ ys) m h =
    let here = h y in
    let first = at_least_once y ys in
    let below : y < m = once_below_lt y m (omega arith) in
    let rest = past_below ys m (λ x. let k = h x in omega arith) in
    omega arith

none_held : (ys : List ℕ) → ((x : ℕ) → times x ys ≡ 0) → ys ≡ []
none_held [] h = refl
none_held (y ∷ ys) h = let some = at_least_once y ys in let none = h y in absurd (omega arith)

-- where y stands in a list
record Place (y : ℕ) (zs : List ℕ) : Type 0 where
  front : List ℕ
  back : List ℕ
  is : zs ≡ front ++ y ∷ back

behind_other : (y z : ℕ) (zs : List ℕ) → (z == y) ≡ false → 0 < times y (z ∷ zs) → 0 < times y zs
behind_other y z zs e h = grind (arith, nat_tests)

place_first : (y z : ℕ) (zs : List ℕ) (b : Bool) → (z == y) ≡ b → (0 < times y zs → Place y zs) → 0 < times y (z ∷ zs) → Place y (z ∷ zs)
place_first y z zs true e later h = let same : z ≡ y = grind (arith, nat_tests) in record { front = []; back = zs; is = ap (λ (n : ℕ). n ∷ zs) same }
place_first y z zs false e later h =
    let p = later (behind_other y z zs e h) in
    record { front = z ∷ p.front; back = p.back; is = ap (λ (l : List ℕ). z ∷ l) p.is }

-- a number that is held stands somewhere
place : (y : ℕ) (zs : List ℕ) → 0 < times y zs → Place y zs
place y [] h = absurd (omega arith)
place y (z ∷ zs) h = place_first y z zs (z == y) refl (λ later. place y zs later) h

-- two lists that hold each number equally often are the same in another order
pub permutation_of_times : (xs ys : List ℕ) → ((x : ℕ) → times x xs ≡ times x ys) → IsPermutation xs ys
permutation_of_times [] ys h = subst (IsPermutation []) (sym (none_held ys (λ x. sym (h x)))) (IsPermutation-refl [])
permutation_of_times (y ∷ ys) zs h =
    let here = h y in
    let first = at_least_once y ys in
    let p = place y zs (omega arith) in
    let counts : (x : ℕ) → times x ys ≡ times x (p.front ++ p.back) = λ x.
    let both = h x in
    let is : times x zs ≡ times x (p.front ++ y ∷ p.back) = ap (times x) p.is in
    let long = times_append x p.front (y ∷ p.back) in
    let short = times_append x p.front p.back in
    omega arith in
    let rest : IsPermutation (y ∷ ys) (y ∷ (p.front ++ p.back)) = IsPermutation-cons y ys (p.front ++ p.back) (permutation_of_times ys (p.front ++ p.back) counts) in
    let moved : IsPermutation (y ∷ (p.front ++ p.back)) (p.front ++ y ∷ p.back) = IsPermutation-sym (p.front ++ y ∷ p.back) (y ∷ (p.front ++ p.back)) (IsPermutation-middle p.front y p.back) in
    subst (IsPermutation (y ∷ ys)) (sym p.is) (IsPermutation-trans (y ∷ ys) (y ∷ (p.front ++ p.back)) (p.front ++ y ∷ p.back) rest moved)
