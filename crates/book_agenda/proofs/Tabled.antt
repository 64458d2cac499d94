-- What tables of literals say, and what lemmas and states they show to meet.
use Rattle.std.proofs.Common.{◌≡◌, ◌⊎◌, inl, inr, ℕ, ◌+◌, ◌-◌, ◌*◌, ◌/◌, ◌%◌, ◌^◌, ◌<◌, Bool, true, false, List, [], ◌∷◌, ◌++◌, length, get_or, refl, sym, ap, subst, ◌∙◌, arith, length-append}
use Rattle.std.specs.Prelude.{bit_or}
use Rattle.std.specs.Int.{bit_at}
use Rattle.std.specs.List.{Contains}
use Rattle.std.proofs.lemmas.Nat.{div-mul-add}
use Rattle.std.proofs.lemmas.Nat.Bits.{bit_at_or, bit_at-lt, bit_at_ones}
use Rattle.std.proofs.lemmas.Bool.{cases_eq}
use Rattle.clause_core.specs.declared.literal.Lit.{Lit}
use Rattle.clause_core.specs.Assignments.{ClauseTrue, assignment_of}
use Rattle.frame_core.specs.declared.parts.Lemma.{Lemma}
use Rattle.frame_core.specs.declared.parts.Obligation.{Obligation}
use Rattle.frame_core.specs.FrameLaw.{lemma_at, obligation_at}
use Rattle.book_agenda.specs.Tables.{Table, one, place_of, IsSet, Has, HoldsClauses, HoldsStates}
use Rattle.book_agenda.proofs.Blocked.{lemma_old, obligation_old}

-- ---- Words and bits

one_same : (a b : Bool) (m n : ℕ) → 2 * m + one a ≡ 2 * n + one b → (m ≡ n) × (a ≡ b)
one_same true true m n e = (omega arith, refl)
one_same true false m n e = absurd (omega arith)
one_same false true m n e = absurd (omega arith)
one_same false false m n e = (omega arith, refl)

one_low : (b : Bool) → one b < 2
one_low true = omega arith
one_low false = omega arith

-- each literal has a word of its own
place_same : (k l : Lit) → place_of k ≡ place_of l → k ≡ l
place_same k l e =
    let s = one_same k.positive l.positive k.var l.var e in
    let f : ℕ → Lit = λ v. record { var = v; positive = k.positive } in
    let g : Bool → Lit = λ b. record { var = l.var; positive = b } in
    ap f s.0 ∙ ap g s.1

-- it is there for each of the variables
pub place_low : (l : Lit) (width : ℕ) → l.var < width / 2 → place_of l < width
place_low l width lt = let small = one_low l.positive in omega arith

-- and so have the parts
part_same : (width a b p q : ℕ) → p < width → q < width → a * width + p ≡ b * width + q → (a ≡ b) × (p ≡ q)
part_same width a b p q in_p in_q e =
    let same : a ≡ b = sym (div-mul-add a width p in_p) ∙ ap (λ (n : ℕ). n / width) e ∙ div-mul-add b width q in_q in
    let scaled : a * width ≡ b * width = ap (λ (n : ℕ). n * width) same in
    (same, omega (arith, scaled, e))

-- one bit more is set
pub set_more : (width begin row : ℕ) (ws vs : List ℕ) (l : Lit) → begin ≡ row / 64 * width → place_of l < width →
    ((b : ℕ) → (b ≡ row % 64 → ⊥) → bit_at (get_or vs (begin + place_of l) 0) b ≡ bit_at (get_or ws (begin + place_of l) 0) b) →
    ((k : ℕ) → (k ≡ begin + place_of l → ⊥) → get_or vs k 0 ≡ get_or ws k 0) →
    (r : ℕ) (k : Lit) → IsSet width vs r k → IsSet width ws r k ⊎ ((r ≡ row) × (k ≡ l))
set_more width begin row ws vs l is in' here others r k h =
    elim (cases_eq (r / 64 * width + place_of k) (begin + place_of l)) [
      | inl e ↦
          let same = part_same width (r / 64) (row / 64) (place_of k) (place_of l) h.0 in' (e ∙ ap (λ (n : ℕ). n + place_of l) is) in
          elim (cases_eq (r % 64) (row % 64)) [
            | inl bit ↦ inr (omega (arith, same.0, bit), place_same k l same.1)
            | inr other ↦
                let P : ℕ → Type 0 = λ n. bit_at (get_or vs n 0) (r % 64) ≡ bit_at (get_or ws n 0) (r % 64) in
                inl (h.0, sym (subst P (sym e) (here (r % 64) other)) ∙ h.1)
          ]
      | inr ne ↦ inl (h.0, ap (λ (w : ℕ). bit_at w (r % 64)) (sym (others (r / 64 * width + place_of k) ne)) ∙ h.1)
    ]

-- what is set is set before, or stands for one of the first n literals in this row
abbrev pub AddsFirst : ℕ → ℕ → List Lit → ℕ → List ℕ → List ℕ → Type 0
AddsFirst width row lits n ws vs =
    (r : ℕ) (m : Lit) → IsSet width vs r m → IsSet width ws r m ⊎ ((r ≡ row) × (k : ℕ) × (k < n) × (get_or lits k m ≡ m))

-- one literal more
pub adds_more : (width row : ℕ) (lits : List Lit) (n : ℕ) (l : Lit) (ws us vs : List ℕ) → get_or lits n l ≡ l → AddsFirst width row lits n ws us →
    ((r : ℕ) (m : Lit) → IsSet width vs r m → IsSet width us r m ⊎ ((r ≡ row) × (m ≡ l))) → AddsFirst width row lits (n + 1) ws vs
adds_more width row lits n l ws us vs is before set r m h = elim (set r m h) [
  | inl old ↦ elim (before r m old) [
    | inl first ↦ inl first
    | inr added ↦ inr (added.0, added.1, omega (arith, added.2), added.3)
  ]
  | inr new ↦
      let P : Lit → Type 0 = λ z. get_or lits n z ≡ z in
      inr (new.0, n, omega arith, subst P (sym new.1) is)
]

-- a bit of a word in which the bits of two are set
or_cases : (v w b : ℕ) → bit_at (bit_or v w) b ≡ 1 → (bit_at v b ≡ 1) ⊎ (bit_at w b ≡ 1)
or_cases v w b e =
    let both = bit_at_or v w b in
    let low = bit_at-lt w b in
    elim (cases_eq (bit_at v b) 1) [ inl one' ↦ inl one' | inr none ↦ inr (let small = bit_at-lt v b in omega (arith, both, e, low, small, none)) ]

-- the row's bit is set for one of the first n literals
abbrev pub HasOne : List ℕ → List Lit → ℕ → ℕ → Type 0
HasOne words lits n b =
    (k : ℕ) × (l : Lit) × (k < n) × (get_or lits k l ≡ l) × (place_of l < length words) × (bit_at (get_or words (place_of l) 0) b ≡ 1)

-- the row's bit is set for a literal that these values make true
abbrev pub HasTrue : List ℕ → List Bool → ℕ → Type 0
HasTrue words values b =
    (l : Lit) × (assignment_of values l.var ≡ l.positive) × (place_of l < length words) × (bit_at (get_or words (place_of l) 0) b ≡ 1)

module _ (words : List ℕ) (seen word : ℕ) (l : Lit)
    (here : (b : ℕ) → bit_at word b ≡ 1 → (place_of l < length words) × (bit_at (get_or words (place_of l) 0) b ≡ 1)) where
  -- one literal more is looked at
  pub one_more : (lits : List Lit) (n : ℕ) → get_or lits n l ≡ l → ((b : ℕ) → bit_at seen b ≡ 1 → HasOne words lits n b) →
      (b : ℕ) → bit_at (bit_or seen word) b ≡ 1 → HasOne words lits (n + 1) b
  one_more lits n is before b e = elim (or_cases seen word b e) [
    | inl old ↦ let h = before b old in (h.0, h.1, omega (arith, h.2), h.3, h.4, h.5)
    | inr new ↦ let h = here b new in (n, l, omega arith, is, h.0, h.1)
  ]

  -- the same where the literals are not looked at any further
  pub one_found : (lits : List Lit) (n : ℕ) → n < length lits → get_or lits n l ≡ l → ((b : ℕ) → bit_at seen b ≡ 1 → HasOne words lits n b) →
      (b : ℕ) → bit_at (bit_or seen word) b ≡ 1 →
      (m : Lit) × Contains lits m × (place_of m < length words) × (bit_at (get_or words (place_of m) 0) b ≡ 1)
  one_found lits n lt is before b e =
      let h = one_more lits n is before b e in
      (h.1, (h.0, omega (arith, h.2), h.3), h.4, h.5)

  -- a variable more is looked at
  pub true_more : (values : List Bool) → assignment_of values l.var ≡ l.positive → ((b : ℕ) → bit_at seen b ≡ 1 → HasTrue words values b) →
      (b : ℕ) → bit_at (bit_or seen word) b ≡ 1 → HasTrue words values b
  true_more values is before b e = elim (or_cases seen word b e) [
    | inl old ↦ before b old
    | inr new ↦ let h = here b new in (l, is, h.0, h.1)
  ]

-- in a word of ones each bit is set
pub all_set : (w b : ℕ) → w ≡ 2 ^ 64 - 1 → b < 64 → bit_at w b ≡ 1
all_set w b e lt = ap (λ (n : ℕ). bit_at n b) e ∙ bit_at_ones 64 b lt

-- ---- Lemmas and states

-- a clause is true by one of its literals
true_by : (x : ℕ → Bool) (c : List Lit) (l : Lit) → Contains c l → x l.var ≡ l.positive → ClauseTrue x c
true_by x c l has is = (has.0, l, has.1, has.2, is)

-- a state meets the lemmas that have a literal which it makes true
pub met_lemma : (ls : List Lemma) (t : Table) (x : ℕ → Bool) (n : ℕ) (l : Lit) → HoldsClauses ls t → x l.var ≡ l.positive → Has t n l →
    ClauseTrue x (lemma_at ls n).clause
met_lemma ls t x n l holds is has = true_by x (lemma_at ls n).clause l (holds n l has).1 is

-- the states that make one of its literals true meet a clause
pub met_state : (os : List Obligation) (t : Table) (c : List Lit) (o : ℕ) (l : Lit) → HoldsStates os t → Contains c l → Has t o l →
    ClauseTrue (assignment_of (obligation_at os o).values) c
met_state os t c o l holds in' has = true_by (assignment_of (obligation_at os o).values) c l in' (holds o l has).1

-- one lemma more
pub clauses_pushed : (ls : List Lemma) (m : Lemma) (t : Table) → HoldsClauses ls t → HoldsClauses (ls ++ m ∷ []) t
clauses_pushed ls m t holds n l has =
    let h = holds n l has in
    (omega (arith, h.0, length-append ls (m ∷ [])), subst (λ (z : Lemma). Contains z.clause l) (sym (lemma_old ls m n h.0)) h.1)

-- other levels, and other lemmas retired
pub clauses_same : (ls ms : List Lemma) (t : Table) → length ms ≡ length ls → ((n : ℕ) → (lemma_at ms n).clause ≡ (lemma_at ls n).clause) → HoldsClauses ls t →
    HoldsClauses ms t
clauses_same ls ms t many same holds n l has =
    let h = holds n l has in
    (omega (arith, h.0, many), subst (λ (c : List Lit). Contains c l) (sym (same n)) h.1)

-- one obligation more
pub states_pushed : (os : List Obligation) (m : Obligation) (t : Table) → HoldsStates os t → HoldsStates (os ++ m ∷ []) t
states_pushed os m t holds o l has =
    let h = holds o l has in (
      omega (arith, h.0, length-append os (m ∷ [])),
      subst (λ (z : Obligation). assignment_of z.values l.var ≡ l.positive) (sym (obligation_old os m o h.0)) h.1,
    )
