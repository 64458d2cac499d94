-- Clauses of literals that clauses define decide what the literals' values say.
use Rattle.std.proofs.Common.{◌≡◌, ◌∙◌, ℕ, ◌↔◌, Bool, true, false, not, ◌&&◌, ◌||◌, List, [], ◌∷◌, ◌++◌, map, length, refl, sym, ap, subst, arith, inl, inr}
use Rattle.std.specs.Bool.{beq}
use Rattle.std.specs.List.{All, Any, list_all, list_any}
use Rattle.std.proofs.lemmas.Bool.{and_cases, and_from, and_parts, both_ways, cases_Bool, not-true, or_cases, or_left, or_parts, or_right}
use Rattle.std.proofs.lemmas.List.Elements.{All-nil, All-cons, All-append, All-head, All-tail}
use Rattle.clause_core.specs.declared.literal.Lit.{Lit}
use Rattle.clause_core.specs.Literals.{negate}
use Rattle.clause_core.specs.Assignments.{ClauseTrue, Agrees}
use Rattle.clause_core.specs.Propagation.{AllFalse, Closed, UnitIn}
use Rattle.clause_core.specs.Systems.{Gives, Meets, Opposed}
use Rattle.clause_core.proofs.Sound.{agrees_from, agrees_not_both, closed_truths, not_both, truths}
use Rattle.cnf_build.proofs.NodeClauses.{any_head, any_tail, any_split}
use Rattle.bit_clauses.specs.Deciding.{Decides, Defines, Refuted, Sets, signed}
use Rattle.bit_clauses.specs.Nodes.{literals_in}

-- the parts of an appended list
pub all_left : {X : Type 0} (P : X → Type 0) (xs ys : List X) → All P (xs ++ ys) → All P xs
all_left P [] ys all = All-nil P
all_left P (x ∷ xs) ys all = All-cons P x xs (All-head P x (xs ++ ys) all) (all_left P xs ys (All-tail P x (xs ++ ys) all))

pub all_right : {X : Type 0} (P : X → Type 0) (xs ys : List X) → All P (xs ++ ys) → All P ys
all_right P [] ys all = all
all_right P (x ∷ xs) ys all = all_right P xs ys (All-tail P x (xs ++ ys) all)

any_right : {X : Type 0} (P : X → Type 0) (xs ys : List X) → Any P ys → Any P (xs ++ ys)
any_right P [] ys any = any
any_right P (x ∷ xs) ys any = any_tail P x (xs ++ ys) (any_right P xs ys any)

none : {X : Type 0} (P : X → Type 0) → Any P [] → ⊥
none P any = omega (arith, any.2)

beq_true : (a b : Bool) → beq a b ≡ true → a ≡ b
beq_true true true h = refl
beq_true false false h = refl
beq_true true false h = cc
beq_true false true h = cc

beq_same : (a b : Bool) → a ≡ b → beq a b ≡ true
beq_same true true h = refl
beq_same false false h = refl
beq_same true false h = cc
beq_same false true h = cc

-- the set has what the clause is unit on
abbrev Settles : (Lit → Bool) → List Lit → Type 0
Settles t c = (l : Lit) → UnitIn t c l → t l ≡ true

-- clauses that can be met are not refuted
module _ (n : ℕ) where
  met_not_refuted : (x : ℕ → Bool) (cs : List (List Lit)) → Meets n x cs → Refuted n x cs → ⊥
  met_not_refuted x cs met refuted =
      let a : ℕ → Bool = met.0 in
      elim (refuted (truths a) (λ k lt. agrees_from (a k) (x k) (met.1 k lt)) (closed_truths a cs met.2)) [
        | inl any ↦ not_both a any.1 (subst (ClauseTrue a) any.3 (met.2 any.0 any.1 any.2)) any.4
        | inr both ↦ agrees_not_both (a both.0.var) both.0.positive both.1 both.2
      ]

  refuted_just : (x : ℕ → Bool) (cs : List (List Lit)) (b : Bool) → (b ≡ true → Meets n x cs) → (b ≡ false → Refuted n x cs) → Refuted n x cs ↔ (b ≡ false)
  refuted_just x cs b meets refuted = (
    λ r. elim (cases_Bool b) [ inl on ↦ absurd (met_not_refuted x cs (meets on) r) | inr off ↦ off ],
    refuted,
  )

module _ (n : ℕ) (cs : List (List Lit)) (gives : Gives n [] cs) (to : Lit → Lit) (f : (ℕ → Bool) → Lit → Bool) where
  -- the clauses define the literal that stands for l
  abbrev Given : Lit → Type 0
  Given l = Defines n cs (to l) (λ x. f x l)

  abbrev value : (ℕ → Bool) → List (List Lit) → Bool
  value x ds = list_all (λ c. list_any (f x) c) ds

  -- under values that the gates' clauses allow
  module _ (x a : ℕ → Bool) (agrees : Agrees n a x) (met : All (ClauseTrue a) cs) where
    abbrev True : Lit → Type 0
    True l = a l.var ≡ l.positive

    any_of : (c : List Lit) → All Given c → ClauseTrue a (map to c) → list_any (f x) c ≡ true
    any_of [] given any = absurd (none True any)
    any_of (l ∷ c) given any = elim (any_split True (to l) (map to c) any) [
      | inl here ↦
          or_left (f x l) (list_any (f x) c) (sym ((All-head Given l c given).gives x a agrees met) ∙ beq_same (a (to l).var) (to l).positive here)
      | inr there ↦ or_right (f x l) (list_any (f x) c) (any_of c (All-tail Given l c given) there)
    ]

    any_to : (c : List Lit) → All Given c → list_any (f x) c ≡ true → ClauseTrue a (map to c)
    any_to [] given on = cc
    any_to (l ∷ c) given on = elim (or_cases (f x l) (list_any (f x) c) on) [
      | inl here ↦ any_head True (to l) (map to c) (beq_true (a (to l).var) (to l).positive ((All-head Given l c given).gives x a agrees met ∙ here))
      | inr there ↦ any_tail True (to l) (map to c) (any_to c (All-tail Given l c given) there)
    ]

    all_of : (ds : List (List Lit)) → All Given (literals_in ds) → All (ClauseTrue a) (map (map to) ds) → value x ds ≡ true
    all_of [] given all = refl
    all_of (c ∷ ds) given all =
        and_from (list_any (f x) c) (value x ds)
        (any_of c (all_left Given c (literals_in ds) given) (All-head (ClauseTrue a) (map to c) (map (map to) ds) all))
        (all_of ds (all_right Given c (literals_in ds) given) (All-tail (ClauseTrue a) (map to c) (map (map to) ds) all))

    all_to : (ds : List (List Lit)) → All Given (literals_in ds) → value x ds ≡ true → All (ClauseTrue a) (map (map to) ds)
    all_to [] given on = All-nil (ClauseTrue a)
    all_to (c ∷ ds) given on =
        let both = and_parts (list_any (f x) c) (value x ds) on in
        All-cons (ClauseTrue a) (map to c) (map (map to) ds) (any_to c (all_left Given c (literals_in ds) given) both.0) (all_to ds (all_right Given c (literals_in ds) given) both.1)

  -- where a clause's literals are all false, unit propagation makes them so
  module _ (x : ℕ → Bool) (t : Lit → Bool) (set : Sets n x t) (closed : Closed t cs) where
    abbrev Off : Lit → Type 0
    Off l = t (negate l) ≡ true

    off : (l : Lit) (b : Bool) → b ≡ false → t (signed l b) ≡ true → Off l
    off l true h on = cc
    off l false h on = on

    all_off : (c : List Lit) → All Given c → list_any (f x) c ≡ false → AllFalse t (map to c)
    all_off [] given fails = All-nil Off
    all_off (l ∷ c) given fails =
        let both = or_parts (f x l) (list_any (f x) c) fails in
        All-cons Off (to l) (map to c) (off (to l) (f x l) both.0 ((All-head Given l c given).sets x t set closed)) (all_off c (All-tail Given l c given) both.1)

    some_off : (ds : List (List Lit)) → All Given (literals_in ds) → value x ds ≡ false → Any (AllFalse t) (map (map to) ds)
    some_off [] given fails = cc
    some_off (c ∷ ds) given fails = elim (and_cases (list_any (f x) c) (value x ds) fails) [
      | inl here ↦ any_head (AllFalse t) (map to c) (map (map to) ds) (all_off c (all_left Given c (literals_in ds) given) here)
      | inr there ↦ any_tail (AllFalse t) (map to c) (map (map to) ds) (some_off ds (all_right Given c (literals_in ds) given) there)
    ]

  pub decides : (ds : List (List Lit)) → All Given (literals_in ds) → Decides n (cs ++ map (map to) ds) (λ x. value x ds)
  decides ds given = record {
    meets = λ x. (
      λ met. all_of x met.0 met.1 (all_left (ClauseTrue met.0) cs (map (map to) ds) met.2) ds given (all_right (ClauseTrue met.0) cs (map (map to) ds) met.2),
      λ on. (let ext = gives.extends x in (ext.0, ext.1, All-append (ClauseTrue ext.0) cs (map (map to) ds) ext.2 (all_to x ext.0 ext.1 ext.2 ds given on))),
    );
    refuted = λ x. refuted_just n x (cs ++ map (map to) ds) (value x ds)
        (λ on. (let ext = gives.extends x in (ext.0, ext.1, All-append (ClauseTrue ext.0) cs (map (map to) ds) ext.2 (all_to x ext.0 ext.1 ext.2 ds given on))))
        (λ fails t set closed. inl (any_right (AllFalse t) cs (map (map to) ds) (some_off x t set (all_left (Settles t) cs (map (map to) ds) closed) ds given fails)));
  }

-- and so any function of the same values
pub decides_as : (n : ℕ) (cs : List (List Lit)) (f h : (ℕ → Bool) → Bool) → ((x : ℕ → Bool) → f x ≡ h x) → Decides n cs f → Decides n cs h
decides_as n cs f h same decides = record {
  meets = λ x. (λ met. sym (same x) ∙ (decides.meets x).0 met, λ on. (decides.meets x).1 (same x ∙ on));
  refuted = λ x. (λ r. sym (same x) ∙ (decides.refuted x).0 r, λ fails. (decides.refuted x).1 (same x ∙ fails));
}

-- clauses that decide a question, and others that decide its opposite
pub opposed : (n : ℕ) (good bad : List (List Lit)) (f : (ℕ → Bool) → Bool) → Decides n good (λ x. not (f x)) → Decides n bad f → Opposed n good bad
opposed n good bad f on_good on_bad = record {
  either = λ x. elim (cases_Bool (f x)) [
    | inl on ↦ inr ((on_bad.meets x).1 on)
    | inr off ↦ inl ((on_good.meets x).1 (ap not off))
  ];
  never_both = λ x met_good met_bad. both_ways (f x) (not-true (f x) ((on_good.meets x).0 met_good)) ((on_bad.meets x).0 met_bad);
}
