-- Parts of lists of clauses, and of literals.
use Rattle.std.proofs.Common.{◌≡◌, ℕ, ◌<◌, ◌≤◌, ◌++◌, Bool, true, false, not, List, [], length, take, get_or, zero, suc, refl, arith, add-one}
use Rattle.std.specs.List.{All}
use Rattle.std.proofs.lemmas.List.Elements.{All-more, All-contains, Contains-append_left, Contains-append_right, Contains-get_or}
use Rattle.clause_core.specs.declared.literal.Lit.{Lit}
use Rattle.clause_core.specs.Literals.{negate, Within}
use Rattle.clause_core.specs.Propagation.{UnitIn, Closed}

pub lit_same : (m l : Lit) → m.var ≡ l.var → m.positive ≡ l.positive → m ≡ l
lit_same m l e f = λ i. record { var = e i; positive = f i }

pub not_not : (x : Bool) → not (not x) ≡ x
not_not true = refl
not_not false = refl

pub negate_negate : (l : Lit) → negate (negate l) ≡ l
negate_negate l = λ i. record { var = l.var; positive = not_not l.positive i }

pub All-left : {X : Type 0} (P : X → Type 0) (xs ys : List X) → All P (xs ++ ys) → All P xs
All-left P xs ys all k d lt =
    All-contains P (xs ++ ys) (get_or xs k d) all (Contains-append_left xs ys (get_or xs k d) (Contains-get_or xs k d lt))

pub All-right : {X : Type 0} (P : X → Type 0) (xs ys : List X) → All P (xs ++ ys) → All P ys
All-right P xs ys all k d lt =
    All-contains P (xs ++ ys) (get_or ys k d) all (Contains-append_right xs ys (get_or ys k d) (Contains-get_or ys k d lt))

pub Closed-left : (t : Lit → Bool) (cs bs : List (List Lit)) → Closed t (cs ++ bs) → Closed t cs
Closed-left t cs bs h = All-left (λ c. (l : Lit) → UnitIn t c l → t l ≡ true) cs bs h

pub Closed-right : (t : Lit → Bool) (cs bs : List (List Lit)) → Closed t (cs ++ bs) → Closed t bs
Closed-right t cs bs h = All-right (λ c. (l : Lit) → UnitIn t c l → t l ≡ true) cs bs h

-- the first n clauses of a list, each of which is within
pub within_take : (vars : ℕ) (log : List (List Lit)) (n : ℕ) → n ≤ length log → ((k : ℕ) → k < n → Within vars (get_or log k [])) →
    All (Within vars) (take n log)
within_take vars log zero h f = λ k x lt. absurd (omega (arith, lt))
within_take vars log (suc n) h f =
    let lt : n < length log = omega arith in
    let before : All (Within vars) (take n log) = within_take vars log n (omega arith) (λ k l. f k (omega arith)) in
    rw (← add-one) (All-more (Within vars) log n [] lt before (f n (omega arith)))
