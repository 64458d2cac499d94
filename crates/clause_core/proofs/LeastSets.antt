-- The least set that holds some literals and is closed under unit propagation.
use Rattle.std.proofs.Common.{◌≡◌, ℕ, ◌<◌, ◌≤◌, ◌+◌, ◌⊎◌, ◌++◌, Bool, true, false, List, [], ◌∷◌, length, get_or, zero, suc, refl, sym, subst, ap, ◌∙◌, inl, inr, arith}
use Rattle.std.specs.List.{All, Any, Contains}
use Rattle.std.proofs.lemmas.Bool.{cases_Bool, cases_eq, both_ways}
use Rattle.std.proofs.lemmas.List.Elements.{All-nil, All-cons, All-contains, Contains-append_left, Contains-append_right}
use Rattle.clause_core.specs.declared.literal.Lit.{Lit}
use Rattle.clause_core.specs.Literals.{negate}
use Rattle.clause_core.specs.Propagation.{UnitIn, Closed, Holds, Reaches}
use Rattle.clause_core.proofs.Lists.{lit_same}

-- whether two literals are the same
signs_cases : (x y : Bool) → (x ≡ y) ⊎ (x ≡ y → ⊥)
signs_cases true true = inl refl
signs_cases true false = inr (λ e. let f : true ≡ false = e in cc)
signs_cases false true = inr (λ e. let f : false ≡ true = e in cc)
signs_cases false false = inl refl

pub lit_cases : (l m : Lit) → (l ≡ m) ⊎ (l ≡ m → ⊥)
lit_cases l m = elim (cases_eq l.var m.var) [
  | inl v ↦ elim (signs_cases l.positive m.positive) [
    | inl p ↦ inl (lit_same l m v p)
    | inr n ↦ inr (λ e. n (ap (λ (x : Lit). x.positive) e))
  ]
  | inr n ↦ inr (λ e. n (ap (λ (x : Lit). x.var) e))
]

-- each of a list, or one of the others
pub each_or_some : {X : Type 0} (P Q : X → Type 0) → ((x : X) → P x ⊎ Q x) → (xs : List X) → All P xs ⊎ Any Q xs
each_or_some P Q f [] = inl (All-nil P)
each_or_some P Q f (x ∷ xs) = elim (f x) [
  | inr q ↦ inr (0, x, omega arith, refl, q)
  | inl p ↦ elim (each_or_some P Q f xs) [
    | inl ps ↦ inl (All-cons P x xs p ps)
    | inr h ↦ (let i = Contains-append_right (x ∷ []) xs h.1 (h.0, h.2, h.3) in inr (i.0, h.1, i.1, i.2, h.4))
  ]
]

-- the test with one literal more
pick : {A B : Type 0} → A ⊎ B → Bool → Bool
pick (inl a) b = true
pick (inr n) b = b

unfoldable put : (Lit → Bool) → Lit → Lit → Bool
put t l x = pick (lit_cases x l) (t x)

put_itself : (t : Lit → Bool) (l : Lit) → put t l l ≡ true
unfolding put pick
put_itself t l = by_cases (lit_cases l l)
  where
    by_cases : (d : (l ≡ l) ⊎ (l ≡ l → ⊥)) → pick d (t l) ≡ true
    by_cases (inl e) = refl
    by_cases (inr n) = absurd (n refl)

put_more : (t : Lit → Bool) (l x : Lit) → t x ≡ true → put t l x ≡ true
unfolding put pick
put_more t l x on = by_cases (lit_cases x l)
  where
    by_cases : (d : (x ≡ l) ⊎ (x ≡ l → ⊥)) → pick d (t x) ≡ true
    by_cases (inl e) = refl
    by_cases (inr n) = on

put_from : (t : Lit → Bool) (l x : Lit) → put t l x ≡ true → (x ≡ l) ⊎ (t x ≡ true)
unfolding put pick
put_from t l x on = by_cases (lit_cases x l) on
  where
    by_cases : (d : (x ≡ l) ⊎ (x ≡ l → ⊥)) → pick d (t x) ≡ true → (x ≡ l) ⊎ (t x ≡ true)
    by_cases (inl e) o = inl e
    by_cases (inr n) o = inr o

-- how many of some literals a set lacks
missing_one : Bool → ℕ
missing_one true = 0
missing_one false = 1

missing : (Lit → Bool) → List Lit → ℕ
missing t [] = 0
missing t (x ∷ xs) = missing_one (t x) + missing t xs

one_le : (a b : Bool) → (a ≡ true → b ≡ true) → missing_one b ≤ missing_one a
unfolding missing_one
one_le true true f = omega arith
one_le true false f = (let e : false ≡ true = f refl in cc)
one_le false true f = omega arith
one_le false false f = omega arith

one_lt : (a b : Bool) → a ≡ false → b ≡ true → missing_one b < missing_one a
unfolding missing_one
one_lt true b e f = cc
one_lt false true e f = omega arith
one_lt false false e f = cc

missing_le : (t s : Lit → Bool) → ((l : Lit) → t l ≡ true → s l ≡ true) → (xs : List Lit) → missing s xs ≤ missing t xs
unfolding missing
missing_le t s up [] = omega arith
missing_le t s up (x ∷ xs) = omega (arith, one_le (t x) (s x) (up x), missing_le t s up xs)

missing_lt : (t s : Lit → Bool) → ((l : Lit) → t l ≡ true → s l ≡ true) → (xs : List Lit) (k : ℕ) (l : Lit) → k < length xs → get_or xs k l ≡ l →
    t l ≡ false → s l ≡ true → missing s xs < missing t xs
unfolding missing
missing_lt t s up [] k l lt e off on = absurd (omega (arith, lt))
missing_lt t s up (x ∷ xs) zero l lt e off on =
    let here : x ≡ l = e in
    omega (arith, one_lt (t x) (s x) (ap t here ∙ off) (ap s here ∙ on), missing_le t s up xs)
missing_lt t s up (x ∷ xs) (suc k) l lt e off on =
    omega (arith, one_le (t x) (s x) (up x), missing_lt t s up xs k l (omega (arith, lt)) e off on)

-- the literals of all clauses
literals_in : List (List Lit) → List Lit
literals_in [] = []
literals_in (c ∷ cs) = c ++ literals_in cs

in_literals : (cs : List (List Lit)) (k : ℕ) (c : List Lit) (l : Lit) → k < length cs → get_or cs k c ≡ c → Contains c l → Contains (literals_in cs) l
unfolding literals_in
in_literals [] k c l lt e has = absurd (omega (arith, lt))
in_literals (d ∷ cs) zero c l lt e has =
    let P : List Lit → Type 0 = λ x. Contains x l in
    let here : c ≡ d = sym e in
    Contains-append_left d (literals_in cs) l (subst P here has)
in_literals (d ∷ cs) (suc k) c l lt e has =
    Contains-append_right d (literals_in cs) l (in_literals cs k c l (omega (arith, lt)) e has)

-- a set is closed, or a clause is unit on a literal that it lacks
module _ (t : Lit → Bool) where
  lacks : (c : List Lit) → ((l : Lit) → UnitIn t c l → t l ≡ true) ⊎ ((l : Lit) × UnitIn t c l × (t l ≡ false))
  lacks c =
      let rest : Lit → Lit → Type 0 = λ l m. (m ≡ l → ⊥) → t (negate m) ≡ true in
      let left : Lit → Lit → Type 0 = λ l m. (m ≡ l → ⊥) × (t (negate m) ≡ false) in
      let P : Lit → Type 0 = λ l. UnitIn t c l → t l ≡ true in
      let Q : Lit → Type 0 = λ l. All (rest l) c × (t l ≡ false) in
      let other : (l m : Lit) → rest l m ⊎ left l m = λ l m. elim (lit_cases m l) [
        | inl e ↦ inl (λ n. absurd (n e))
        | inr n ↦ elim (cases_Bool (t (negate m))) [
          | inl on ↦ inl (λ _. on)
          | inr off ↦ inr (n, off)
        ]
      ] in
      let one : (l : Lit) → P l ⊎ Q l = λ l. elim (cases_Bool (t l)) [
        | inl on ↦ inl (λ u. on)
        | inr off ↦ elim (each_or_some (rest l) (left l) (other l) c) [
          | inl all ↦ inr (all, off)
          | inr some ↦ inl (λ u. absurd (both_ways (t (negate some.1)) some.4.1 (All-contains (rest l) c some.1 u.1 (some.0, some.2, some.3) some.4.0)))
        ]
      ] in
      elim (each_or_some P Q one c) [
        | inl all ↦ inl (λ l u. All-contains P c l all u.0 u)
        | inr h ↦ inr (h.1, ((h.0, h.2, h.3), h.4.0), h.4.1)
      ]

  closed_or_lacks : (cs : List (List Lit)) → Closed t cs ⊎ Any (λ c. (l : Lit) × UnitIn t c l × (t l ≡ false)) cs
  closed_or_lacks cs =
      each_or_some (λ c. (l : Lit) → UnitIn t c l → t l ≡ true) (λ c. (l : Lit) × UnitIn t c l × (t l ≡ false)) lacks cs

-- a closed set that holds the literals, and each of it is reached from them
pub record Least (cs : List (List Lit)) (ds : List Lit) : Type 0 where
  pub set : Lit → Bool
  pub holds : Holds set ds
  pub closed : Closed set cs
  pub least : (l : Lit) → set l ≡ true → Reaches cs ds l

-- a unit literal of a reached set is reached
next_reached : (cs : List (List Lit)) (ds : List Lit) (t : Lit → Bool) → ((l : Lit) → t l ≡ true → Reaches cs ds l) → (c : List Lit) (l : Lit) →
    Contains cs c → UnitIn t c l → Reaches cs ds l
next_reached cs ds t reach c l has unit s holds closed =
    All-contains (λ x. (m : Lit) → UnitIn s x m → s m ≡ true) cs c closed has l (unit.0, λ k d lt ne. reach (negate (get_or c k d)) (unit.1 k d lt ne) s holds closed)

grow : (cs : List (List Lit)) (ds : List Lit) (n : ℕ) (t : Lit → Bool) → missing t (literals_in cs) ≤ n → Holds t ds →
    ((l : Lit) → t l ≡ true → Reaches cs ds l) → Least cs ds
grow cs ds zero t le holds reach = elim (closed_or_lacks t cs) [
  | inl closed ↦ record { set = t; holds = holds; closed = closed; least = reach }
  | inr h ↦
      let l = h.4.0 in
      let at = in_literals cs h.0 h.1 l h.2 h.3 h.4.1.0 in
      absurd (omega (arith, le, missing_lt t (put t l) (put_more t l) (literals_in cs) at.0 l at.1 at.2 h.4.2 (put_itself t l)))
]
grow cs ds (suc n) t le holds reach = elim (closed_or_lacks t cs) [
  | inl closed ↦ record { set = t; holds = holds; closed = closed; least = reach }
  | inr h ↦
      let l = h.4.0 in
      let at = in_literals cs h.0 h.1 l h.2 h.3 h.4.1.0 in
      let less = missing_lt t (put t l) (put_more t l) (literals_in cs) at.0 l at.1 at.2 h.4.2 (put_itself t l) in
      grow cs ds n (put t l) (omega (arith, le, less)) (λ k d lt. put_more t l (get_or ds k d) (holds k d lt))
      (λ x on. elim (put_from t l x on) [
        | inl e ↦ (let P : Lit → Type 0 = Reaches cs ds in subst P (sym e) (next_reached cs ds t reach h.1 l (h.0, h.2, h.3) h.4.1))
        | inr old ↦ reach x old
      ])
]

-- the set of some literals
set_of : List Lit → Lit → Bool
set_of [] = λ x. false
set_of (d ∷ ds) = put (set_of ds) d

set_holds : (ds : List Lit) → Holds (set_of ds) ds
unfolding set_of
set_holds [] = All-nil (λ d. false ≡ true)
set_holds (d ∷ ds) =
    All-cons (λ x. put (set_of ds) d x ≡ true) d ds (put_itself (set_of ds) d) (λ k x lt. put_more (set_of ds) d (get_or ds k x) (set_holds ds k x lt))

set_from : (ds : List Lit) (x : Lit) → set_of ds x ≡ true → Contains ds x
unfolding set_of
set_from [] x e = cc
set_from (d ∷ ds) x e = elim (put_from (set_of ds) d x e) [
  | inl same ↦ (let P : Lit → Type 0 = Contains (d ∷ ds) in subst P (sym same) (0, omega arith, refl))
  | inr rest ↦ Contains-append_right (d ∷ []) ds x (set_from ds x rest)
]

pub least_set : (cs : List (List Lit)) (ds : List Lit) → Least cs ds
least_set cs ds =
    grow cs ds (missing (set_of ds) (literals_in cs)) (set_of ds) (omega arith) (set_holds ds)
    (λ l on s holds closed. All-contains (λ d. s d ≡ true) ds l holds (set_from ds l on))
