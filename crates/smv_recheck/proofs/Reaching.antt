-- The steps of a part that is full by itself set the bits to all values.
use Rattle.std.proofs.Common.{◌≡◌, ◌∙◌, ◌⊎◌, ℕ, zero, suc, ◌<◌, Bool, true, false, not, ◌||◌, List, [], ◌∷◌, length, get_or, take, inl, inr, refl, sym, ap, arith}
use borrow.Author.Count.{below_more}
use Rattle.std.specs.List.{Any, list_any}
use Rattle.std.specs.Bool.{beq}
use Rattle.std.specs.Prelude.{slice_index_or}
use Rattle.std.proofs.lemmas.Bool.{cases_Bool}
use Rattle.std.proofs.lemmas.List.{get_or-take, length-take-le}
use Rattle.std.proofs.lemmas.List.Elements.{All-cons, All-contains, All-from_get_or, All-nil}
use Rattle.std.proofs.lemmas.List.Folds.{Any-from_list_any}
use Rattle.clause_core.specs.declared.literal.Lit.{Lit}
use Rattle.clause_core.specs.Assignments.{Agrees}
use Rattle.clause_core.specs.Literals.{negate}
use Rattle.clause_core.specs.Propagation.{AllFalse, Closed, UnitIn}
use Rattle.bit_clauses.specs.Deciding.{Sets}
use Rattle.smv_recheck.specs.Full.{IsFull}

-- the literals that bits make true
module _ (b : ℕ → Bool) where
  abbrev holds : Lit → Bool
  holds l = beq (b l.var) l.positive

  opposite : (x y : Bool) → beq x (not y) ≡ not (beq x y)
  opposite true true = refl
  opposite true false = refl
  opposite false true = refl
  opposite false false = refl

  other : (l : Lit) → holds (negate l) ≡ not (holds l)
  other l = opposite (b l.var) l.positive

  -- a clause of which none holds is false
  none_holds : (c : List Lit) → list_any holds c ≡ false → AllFalse holds c
  none_holds [] h = All-nil (λ (m : Lit). holds (negate m) ≡ true)
  none_holds (l ∷ c) h = by (holds l) refl h (none_holds c)
    where
      by : (x : Bool) → holds l ≡ x → (x || list_any holds c) ≡ false → (list_any holds c ≡ false → AllFalse holds c) → AllFalse holds (l ∷ c)
      by true is false_all rest = absurd cc
      by false is false_all rest = All-cons (λ (m : Lit). holds (negate m) ≡ true) l c (other l ∙ ap not is) (rest false_all)

  -- at another clause unit propagation sets nothing that does not hold
  settled : (c : List Lit) → list_any holds c ≡ true → (l : Lit) → UnitIn holds c l → holds l ≡ true
  settled c h l unit =
      let found : Any (λ (m : Lit). holds m ≡ true) c = Any-from_list_any holds c h in
      by (holds l) refl found
    where
      by : (x : Bool) → holds l ≡ x → Any (λ (m : Lit). holds m ≡ true) c → x ≡ true
      by true is found = refl
      by false is found =
          let m = found.1 in
          let apart : m ≡ l → ⊥ = λ same. different (sym is ∙ ap holds (sym same) ∙ found.4) in
          let against : holds (negate m) ≡ true = All-contains (λ (k : Lit). (k ≡ l → ⊥) → holds (negate k) ≡ true) c m unit.1 (found.0, found.2, found.3) apart in
          absurd (different (sym (other m ∙ ap not found.4) ∙ against))
        where
          different : false ≡ true → ⊥
          different e = cc

  -- the first of some clauses of which none holds
  look : (log : List (List Lit)) (m : ℕ) → ((k : ℕ) → k < m → list_any holds (slice_index_or log k []) ≡ true)
      ⊎ ((k : ℕ) × (k < m) × (list_any holds (slice_index_or log k []) ≡ false) × ((j : ℕ) → j < k → list_any holds (slice_index_or log j []) ≡ true))
  look log zero = inl (λ k lt. absurd (let never : ⊥ = omega (arith, lt) in never))
  look log (suc m) = elim (look log m) [
    | inr hit ↦ inr (hit.0, omega (arith, hit.1), hit.2, hit.3)
    | inl all ↦ elim (cases_Bool (list_any holds (slice_index_or log m []))) [
      | inl some ↦ inl (λ k lt. below_more (λ (i : ℕ). list_any holds (slice_index_or log i []) ≡ true) m all some k (omega (arith, lt)))
      | inr none ↦ inr (m, omega arith, none, all)
    ]
  ]

  same_bit : (x y : Bool) → beq x y ≡ true → x ≡ y
  same_bit true true h = refl
  same_bit true false h = cc
  same_bit false true h = cc
  same_bit false false h = refl

  -- some step sets the bits to these values
  pub reached : (n : ℕ) (log : List (List Lit)) (full : IsFull n [] log) → (k : ℕ) × (k < length log) × Agrees n b (full.values k)
  reached n log full = elim (look log (length log)) [
    | inl all ↦
        let last = full.ends.0 in
        let some : list_any holds (slice_index_or log last []) ≡ true = all last (let long = full.ends.1 in omega (arith, long)) in
        absurd (let no : false ≡ true = sym (ap (list_any holds) full.ends.2) ∙ some in let never : ⊥ = cc in never)
    | inr hit ↦
        let k = hit.0 in
        let before : Closed holds (take k log) =
        All-from_get_or (λ (c : List Lit). (l : Lit) → UnitIn holds c l → holds l ≡ true) (take k log) [] (λ j lt.
        let below : j < k = omega (arith, lt, length-take-le k log (let long = hit.1 in omega (arith, long))) in
        settled (get_or (take k log) j []) (ap (list_any holds) (get_or-take k log j [] below) ∙ hit.3 j below)) in
        let sets : Sets n (full.values k) holds = full.sets k hit.1 holds (none_holds (slice_index_or log k []) hit.2) before in
        (k, hit.1, λ i lt. same_bit (b i) (full.values k i) (sets i lt))
  ]
