-- What is asked for, step by step.
use Rattle.std.proofs.Common.{◌≡◌, ◌∙◌, ℕ, ◌<◌, ◌≤◌, ◌+◌, ◌↔◌, Bool, true, false, not, ◌&&◌, ◌||◌, List, replicate, take, length, get_or, refl, sym, ap, subst, suc, inl, inr, arith, ⊎_elim}
use Rattle.std.specs.List.{list_all}
use Rattle.std.proofs.lemmas.Bool.{and_from, and_parts, cases_lt, cases_Bool, not-true, both_ways}
use Rattle.std.proofs.lemmas.List.{get_or-replicate, get_or_past, length-replicate}
use Rattle.std.proofs.lemmas.List.Folds.{list_all_more}
use Rattle.bit_graph.specs.declared.edge.Edge.{Edge}
use Rattle.bit_graph.specs.Meaning.{edge_value}
use Rattle.clause_core.specs.declared.literal.Lit.{Lit}
use Rattle.bit_clauses.specs.declared.either.Either.{Either}
use Rattle.bit_clauses.specs.Asserted.{all_hold, holds}
use Rattle.bit_clauses.specs.Claims.{ClaimedBy, marked}
use Rattle.bit_clauses.specs.Nodes.{all_true}

or_self : (b : Bool) → (b || b) ≡ b
or_self true = refl
or_self false = refl

or_false : (b : Bool) → (b || false) ≡ b
or_false true = refl
or_false false = refl

-- one clause more is one condition more
pub by_clause : (m after h : Bool) (C : Type 0) → after ≡ (m && h) → ((after ≡ true) × C) ↔ (((m ≡ true) × C) × (h ≡ true))
by_clause m after h C is = (
  λ p. (let both = and_parts m h (sym is ∙ p.0) in ((both.0, p.1), both.1)),
  λ p. (is ∙ and_from m h p.0.0 p.1, p.0.1),
)

-- and so is one claim more
pub by_claim : (M C D H : Type 0) → D ↔ (C × H) → (M × D) ↔ ((M × C) × H)
by_claim M C D H is = (λ p. (let both = is.0 p.1 in ((p.0, both.0), both.1)), λ p. (p.0.0, is.1 (p.0.1, p.1)))

-- the same condition in other words
pub in_words : (A B : Type 0) (h e : Bool) → h ≡ e → A ↔ (B × (h ≡ true)) → A ↔ (B × (e ≡ true))
in_words A B h e is old = (λ a. ((old.0 a).0, sym is ∙ (old.0 a).1), λ b. old.1 (b.0, is ∙ b.1))

pub single : (v : ℕ → Bool) (e : Either) → e.one ≡ e.other → edge_value v e.one ≡ holds v e
single v e same = sym (or_self (edge_value v e.one)) ∙ ap (λ x. edge_value v e.one || edge_value v x) same

pub both_asked : (A B C : Type 0) (g h e : Bool) → B ↔ (A × (g ≡ true)) → C ↔ (B × (h ≡ true)) → e ≡ (g && h) → C ↔ (A × (e ≡ true))
both_asked A B C g h e first second is = (
  λ c. (let b = second.0 c in let a = first.0 b.0 in (a.0, is ∙ and_from g h a.1 b.1)),
  λ a. (let both = and_parts g h (sym is ∙ a.1) in second.1 (first.1 (a.0, both.0), both.1)),
)

and_true : (b : Bool) → (b && true) ≡ b
and_true true = refl
and_true false = refl

pub one_asked : (A B : Type 0) (h e : Bool) → A ↔ (B × (h ≡ true)) → e ≡ (h && true) → A ↔ (B × (e ≡ true))
one_asked A B h e old is = in_words A B h e (sym (and_true h) ∙ sym is) old

pub asked_for : (A B : Type 0) (on e : Bool) → on ≡ true → A ↔ (B × (e ≡ true)) → A ↔ (B × (on ≡ true → e ≡ true))
asked_for A B on e is old = (λ a. ((old.0 a).0, λ h. (old.0 a).1), λ b. old.1 (b.0, b.1 is))

pub not_asked_for : (A : Type 0) (on e : Bool) → on ≡ false → A ↔ (A × (on ≡ true → e ≡ true))
not_asked_for A on e is = (λ a. (a, λ h. absurd (both_ways on is h)), λ b. b.0)

-- the claims of one node more
module _ (v : ℕ → Bool) (on off : List Bool) (k : ℕ) where
  one_more : ClaimedBy v on off (suc k) ↔ (ClaimedBy v on off k × (marked on k ≡ true → v k ≡ true) × (marked off k ≡ true → v k ≡ false))
  one_more = (
    λ h. (λ j lt. h j (omega arith), (h k (omega arith)).0, (h k (omega arith)).1),
    λ h. λ j lt. ⊎_elim
        (λ (below : j < k). h.0 j below)
        (λ (last : k ≤ j).
        let e : k ≡ j = omega arith in
        let P : ℕ → Type 0 = λ i. (marked on i ≡ true → v i ≡ true) × (marked off i ≡ true → v i ≡ false) in
        subst P e (h.1, h.2))
        (cases_lt j k),
  )

  pub handed_down : (M A B : Type 0) (is_on is_off : Bool) → is_on ≡ marked on k → is_off ≡ marked off k →
      A ↔ ((M × ClaimedBy v on off k) × (is_on ≡ true → v k ≡ true)) → B ↔ (A × (is_off ≡ true → not (v k) ≡ true)) →
      B ↔ (M × ClaimedBy v on off (suc k))
  handed_down M A B is_on is_off on_is off_is first second = (
    λ b. (let p = second.0 b in let q = first.0 p.0 in
        (q.0.0, one_more.1 (q.0.1, λ m. q.1 (on_is ∙ m), λ m. not-true (v k) (p.1 (off_is ∙ m))))),
    λ h. (let p = one_more.0 h.1 in
        second.1 (first.1 ((h.0, p.0), λ m. p.1 (sym on_is ∙ m)), λ m. ap not (p.2 (sym off_is ∙ m)))),
  )

-- nothing is claimed at first
unmarked : (n j : ℕ) → marked (replicate n false) j ≡ false
unmarked n j = ⊎_elim
    (λ (lt : j < n). get_or-replicate n j false false lt)
    (λ (ge : n ≤ j). get_or_past (replicate n false) j false (omega (arith, length-replicate n false)))
    (cases_lt j n)

pub at_first : (v : ℕ → Bool) (on off : List Bool) (n m k : ℕ) → on ≡ replicate n false → off ≡ replicate m false → ClaimedBy v on off k
at_first v on off n m k on_is off_is j lt = (
  λ h. absurd (both_ways (marked on j) (ap (λ xs. marked xs j) on_is ∙ unmarked n j) h),
  λ h. absurd (both_ways (marked off j) (ap (λ xs. marked xs j) off_is ∙ unmarked m j) h),
)

-- one condition more
pub asked_more : (v : ℕ → Bool) (es : List Either) (i : ℕ) (d : Either) (A B : Type 0) → i < length es → A ↔ (all_hold v (take i es) ≡ true) →
    B ↔ (A × (holds v (get_or es i d) ≡ true)) → B ↔ (all_hold v (take (i + 1) es) ≡ true)
asked_more v es i d A B lt old new =
    let more = list_all_more (holds v) es i d lt in (
      λ b. (let p = new.0 b in more ∙ and_from (all_hold v (take i es)) (holds v (get_or es i d)) (old.0 p.0) p.1),
      λ h. (let p = and_parts (all_hold v (take i es)) (holds v (get_or es i d)) (sym more ∙ h) in new.1 (old.1 p.0, p.1)),
    )

-- in the end nothing is claimed
pub in_the_end : (v : ℕ → Bool) (on off : List Bool) (a b : Bool) → ((a ≡ true) × ClaimedBy v on off 0) ↔ (b ≡ true) → a ≡ b
in_the_end v on off a b is = elim (cases_Bool b) [
  | inl on_b ↦ (is.1 on_b).0 ∙ sym on_b
  | inr off_b ↦ elim (cases_Bool a) [
    | inl on_a ↦ absurd (both_ways b off_b (is.0 (on_a, λ j lt. absurd (omega arith))))
    | inr off_a ↦ off_a ∙ sym off_b
  ]
]
