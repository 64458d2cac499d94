-- Lists of symbols, and codes among them.
use Rattle.std.proofs.Common.{◌≡◌, ℕ, zero, suc, ◌+◌, ◌*◌, ◌%◌, ◌^◌, ◌<◌, ◌≤◌, ◌==◌, Bool, true, false, not, ◌&&◌, ◌||◌, cond, List, [], ◌∷◌, ◌++◌, length, take, get_or, IsTrue, inl, inr, refl, sym, ap, subst, ◌∙◌, arith, eqb, nat_lt}
use Rattle.std.specs.Prelude.{Option, None, Some, position, slice_get, All}
use Rattle.std.specs.List.{list_any}
use Rattle.std.proofs.Math.Nat.{mod-eq_of_lt, pow-le-pow_right}
use Rattle.std.proofs.lemmas.Bool.{cases_Bool, cases_eq, cases_lt, eq-eqb, eqb-true, false_from_ne_true, le-ltb, lt-ltb, ltb-true, ne_eqb}
use Rattle.std.proofs.lemmas.List.Folds.{list_any-append, list_any_at}
use Rattle.std.proofs.lemmas.List.Quantifiers.{position-Some}
use Rattle.std.proofs.lemmas.Option.{get_or_from_slice_get, slice_get-get_or, slice_get_within}
use Rattle.value_types.proofs.Elements.{and_left, and_right, both_true, position_found}
use Rattle.bit_graph.specs.declared.edge.Edge.{Edge}
use Rattle.bit_graph.specs.Meaning.{edge_value}
use Rattle.bit_arith.specs.Number.{number_of, values_of}
use Rattle.bit_arith.proofs.Horner.{number_of-chosen}
use Rattle.bit_arith.proofs.Numbers.{number-lt}
use Rattle.bit_values.specs.Bits.{least_bits}
use Rattle.bit_values.proofs.Widths.{least_width}
use Rattle.bit_operators.specs.Lists.{is_distinct}
use Rattle.bit_choices.specs.Symbols.{AreIn, Begins, has, is_some_of}

some_same : {A : Type 0} (x y : A) → Some x ≡ Some y → x ≡ y
some_same x y e = cc

-- a symbol stands once

distinct_at : (x : ℕ) (xs : List ℕ) (j : ℕ) → is_distinct (x ∷ xs) ≡ true → slice_get xs j ≡ Some x → ⊥
distinct_at x xs j d h =
    let among : list_any (λ m. x == m) xs ≡ true =
    list_any_at (λ m. x == m) xs j x (slice_get_within xs j x h) (ap (λ y. x == y) (get_or_from_slice_get xs j x x h) ∙ eq-eqb x x refl) in
    let none : not (list_any (λ m. x == m) xs) ≡ true = and_left (not (list_any (λ m. x == m) xs)) (is_distinct xs) d in
    (let no : not true ≡ true = sym (ap not among) ∙ none in cc)

pub same_place : (xs : List ℕ) (i j a : ℕ) → is_distinct xs ≡ true → slice_get xs i ≡ Some a → slice_get xs j ≡ Some a → i ≡ j
same_place [] i j a d h k = absurd cc
same_place (x ∷ xs) zero zero a d h k = refl
same_place (x ∷ xs) zero (suc j) a d h k = absurd (distinct_at x xs j d (k ∙ sym h))
same_place (x ∷ xs) (suc i) zero a d h k = absurd (distinct_at x xs i d (h ∙ sym k))
same_place (x ∷ xs) (suc i) (suc j) a d h k = ap suc (same_place xs i j a (and_right (not (list_any (λ m. x == m) xs)) (is_distinct xs) d) h k)

-- the symbol at its place
pub found_at : (xs : List ℕ) (n k : ℕ) → position (λ s. s == n) xs ≡ Some k → slice_get xs k ≡ Some n
found_at xs n k h =
    let at = position-Some (λ s. s == n) xs k n h in
    slice_get-get_or xs k n at.0 ∙ ap Some (eqb-true (get_or xs k n) n at.1)

not_found : (xs : List ℕ) (n : ℕ) → position (λ s. s == n) xs ≡ None → has xs n ≡ true → ⊥
not_found xs n h among = let no : Some _ ≡ None = sym (position_found (λ s. s == n) xs among) ∙ h in cc

placed_at : (xs : List ℕ) (n k c : ℕ) (o : Option ℕ) → is_distinct xs ≡ true → slice_get xs k ≡ Some n → slice_get xs c ≡ o → eqb c k ≡ is_some_of n o
placed_at xs n k c None d h e = ne_eqb c k (λ q. (let no : None ≡ Some n = sym e ∙ ap (slice_get xs) q ∙ h in cc))
placed_at xs n k c (Some m) d h e =
    elim (cases_eq m n) [
      | inl q ↦ eq-eqb c k (same_place xs c k n d (e ∙ ap Some q) h) ∙ sym (eq-eqb m n q)
      | inr o ↦ ne_eqb c k (λ q. o (some_same m n (sym e ∙ ap (slice_get xs) q ∙ h))) ∙ sym (ne_eqb m n o)
    ]

-- a code is the symbol's where it is the symbol's place
pub placed : (xs : List ℕ) (n k c : ℕ) → is_distinct xs ≡ true → position (λ s. s == n) xs ≡ Some k → eqb c k ≡ is_some_of n (slice_get xs c)
placed xs n k c d h = placed_at xs n k c (slice_get xs c) d (found_at xs n k h) refl

unplaced_at : (xs : List ℕ) (n c : ℕ) (o : Option ℕ) → position (λ s. s == n) xs ≡ None → slice_get xs c ≡ o → false ≡ is_some_of n o
unplaced_at xs n c None h e = refl
unplaced_at xs n c (Some m) h e =
    sym (false_from_ne_true (m == n)
    (λ t. not_found xs n h (list_any_at (λ s. s == n) xs c m (slice_get_within xs c m e) (ap (λ s. s == n) (get_or_from_slice_get xs c m m e) ∙ t))))

pub unplaced : (xs : List ℕ) (n c : ℕ) → position (λ s. s == n) xs ≡ None → false ≡ is_some_of n (slice_get xs c)
unplaced xs n c h = unplaced_at xs n c (slice_get xs c) h refl

-- codes of lists of which one begins with the other
pub begun : (xs ys : List ℕ) (c k s t : ℕ) → is_distinct ys ≡ true → Begins xs ys → slice_get xs c ≡ Some s → slice_get ys k ≡ Some t → eqb c k ≡ eqb s t
begun xs ys c k s t d b h g =
    let at : slice_get ys c ≡ Some s = b c s h in
    elim (cases_eq s t) [
      | inl q ↦ eq-eqb c k (same_place ys c k t d (at ∙ ap Some q) g) ∙ sym (eq-eqb s t q)
      | inr o ↦ ne_eqb c k (λ q. o (some_same s t (sym at ∙ ap (slice_get ys) q ∙ g))) ∙ sym (ne_eqb s t o)
    ]

pub eqb_turned : (a b : ℕ) → eqb a b ≡ eqb b a
eqb_turned a b =
    elim (cases_eq a b) [
      | inl q ↦ eq-eqb a b q ∙ sym (eq-eqb b a (sym q))
      | inr o ↦ ne_eqb a b o ∙ sym (ne_eqb b a (λ q. o (sym q)))
    ]

-- one place more of a list that is gone through

past : (k j : ℕ) → j ≤ k → (k ≡ j → ⊥) → j + 1 ≤ k
past k j l o =
    elim (cases_lt j k) [
      | inl less ↦ omega arith
      | inr more ↦ absurd (o (omega arith))
    ]

pub below_other : (c j : ℕ) → c < j + 1 → (c ≡ j → ⊥) → c < j
below_other c j l o =
    elim (cases_lt c j) [
      | inl less ↦ less
      | inr more ↦ absurd (o (omega arith))
    ]

earlier : (b c : Bool) → ((true && b) || (false && c)) ≡ (true && b)
earlier true c = refl
earlier false c = refl

pub one_more : (k j : ℕ) (b c : Bool) → (k ≡ j → c ≡ b) → ((nat_lt k j && b) || (eqb k j && c)) ≡ (nat_lt k (j + 1) && b)
one_more k j b c h =
    elim (cases_lt k j) [
      | inl less ↦
          (λ i. (lt-ltb k j less i && b) || (ne_eqb k j (λ q. omega arith) i && c)) ∙ earlier b c ∙ sym (ap (λ x. x && b) (lt-ltb k (j + 1) (omega arith)))
      | inr more ↦ (elim (cases_eq k j) [
        | inl q ↦ (λ i. (le-ltb k j more i && b) || (eq-eqb k j q i && h q i)) ∙ sym (ap (λ x. x && b) (lt-ltb k (j + 1) (omega arith)))
        | inr o ↦ (λ i. (le-ltb k j more i && b) || (ne_eqb k j o i && c)) ∙ sym (ap (λ x. x && b) (le-ltb k (j + 1) (past k j more o)))
      ])
    ]

-- the whole list
pub all_gone : (k j : ℕ) (b : Bool) → k < j → (nat_lt k j && b) ≡ b
all_gone k j b l = ap (λ x. x && b) (lt-ltb k j l)

pub none_gone : (k : ℕ) (b : Bool) → false ≡ (nat_lt k 0 && b)
none_gone k b = sym (ap (λ x. x && b) (le-ltb k 0 (omega arith)))

-- one symbol more
pub matched_more : (xs ys : List ℕ) (c k j s t y : ℕ) (before here same both more : Bool) → slice_get xs c ≡ Some s → slice_get ys k ≡ Some t → slice_get ys j ≡ Some y →
    before ≡ (nat_lt k j && eqb s t) → here ≡ eqb k j → same ≡ is_some_of y (slice_get xs c) → both ≡ (here && same) → more ≡ (before || both) → more ≡ (nat_lt k (j + 1) && eqb s t)
matched_more xs ys c k j s t y before here same both more h g at eb eh es et em =
    em ∙ (λ i. eb i || (et ∙ (λ n. eh n && (es ∙ ap (is_some_of y) h) n)) i)
    ∙ one_more k j (eqb s t) (eqb s y) (λ q. ap (eqb s) (some_same y t (sym at ∙ ap (slice_get ys) (sym q) ∙ g)))

-- lists of symbols that grow

pub has_at : (xs : List ℕ) (k d : ℕ) → k < length xs → IsTrue (has xs (get_or xs k d))
has_at xs k d l = list_any_at (λ m. m == get_or xs k d) xs k d l (eq-eqb (get_or xs k d) (get_or xs k d) refl)

or_last : (b : Bool) → (b || true) ≡ true
or_last true = refl
or_last false = refl

pub has_new : (xs : List ℕ) (y : ℕ) → IsTrue (has (xs ++ y ∷ []) y)
has_new xs y = list_any-append (λ m. m == y) xs (y ∷ []) ∙ ap (λ b. has xs y || (b || false)) (eq-eqb y y refl) ∙ or_last (has xs y)

pub has_kept : (xs : List ℕ) (y n : ℕ) → IsTrue (has xs n) → IsTrue (has (xs ++ y ∷ []) n)
has_kept xs y n h = list_any-append (λ m. m == n) xs (y ∷ []) ∙ ap (λ b. b || has (y ∷ []) n) h

pub has_found : (xs : List ℕ) (n k : ℕ) → position (λ s. s == n) xs ≡ Some k → IsTrue (has xs n)
has_found xs n k h = let at = position-Some (λ s. s == n) xs k n h in list_any_at (λ s. s == n) xs k n at.0 at.1

pub has_none : (xs : List ℕ) (n : ℕ) → position (λ s. s == n) xs ≡ None → has xs n ≡ false
has_none xs n h = false_from_ne_true (has xs n) (λ t. not_found xs n h t)

or_nothing : (b : Bool) → (b || (false || false)) ≡ b
or_nothing true = refl
or_nothing false = refl

or_left : (a b : Bool) → (a || b) ≡ false → a ≡ false
or_left true b e = e
or_left false b e = refl

or_right : (a b : Bool) → (a || b) ≡ false → b ≡ false
or_right true b e = absurd cc
or_right false b e = e

pub distinct_push : (xs : List ℕ) (y : ℕ) → is_distinct xs ≡ true → has xs y ≡ false → is_distinct (xs ++ y ∷ []) ≡ true
distinct_push [] y d h = refl
distinct_push (x ∷ xs) y d h =
    let apart : (x == y) ≡ false = or_left (x == y) (has xs y) h in
    let before : not (list_any (λ m. x == m) xs) ≡ true = and_left (not (list_any (λ m. x == m) xs)) (is_distinct xs) d in
    both_true (not (list_any (λ m. x == m) (xs ++ y ∷ []))) (is_distinct (xs ++ y ∷ []))
    (ap not (list_any-append (λ m. x == m) xs (y ∷ []) ∙ ap (λ b. list_any (λ m. x == m) xs || (b || false)) apart ∙ or_nothing (list_any (λ m. x == m) xs)) ∙ before)
    (distinct_push xs y (and_right (not (list_any (λ m. x == m) xs)) (is_distinct xs) d) (or_right (x == y) (has xs y) h))

-- codes among other symbols

pub kept_code : (ms ns : List ℕ) (c w s : ℕ) → length ns ≤ 2 ^ w → Begins ms ns → slice_get ms c ≡ Some s → slice_get ns (c % 2 ^ w) ≡ Some s
kept_code ms ns c w s l b h =
    let at : slice_get ns c ≡ Some s = b c s h in
    let small : c < 2 ^ w = omega (arith, slice_get_within ns c s at) in
    ap (slice_get ns) (mod-eq_of_lt small) ∙ at

pub recoded_more : (v : ℕ → Bool) (ms ns : List ℕ) (c j y place s : ℕ) (here : Bool) (edges made next : List Edge) → c < j + 1 → slice_get ms c ≡ Some s → slice_get ms j ≡ Some y →
    slice_get ns place ≡ Some y → (c < j → slice_get ns (number_of v made) ≡ Some s) → here ≡ eqb c j → number_of v edges ≡ place →
    values_of v next ≡ cond here (values_of v edges) (values_of v made) → slice_get ns (number_of v next) ≡ Some s
recoded_more v ms ns c j y place s here edges made next l h at pl old eh ee en =
    let is : number_of v next ≡ cond here (number_of v edges) (number_of v made) = number_of-chosen v here next edges made en in
    elim (cases_eq c j) [
      | inl q ↦
          let yes : here ≡ true = eh ∙ eq-eqb c j q in
          let same : y ≡ s = some_same y s (sym at ∙ ap (slice_get ms) (sym q) ∙ h) in
          ap (slice_get ns) (is ∙ ap (λ b. cond b (number_of v edges) (number_of v made)) yes ∙ ee) ∙ pl ∙ ap Some same
      | inr o ↦
          let no : here ≡ false = eh ∙ ne_eqb c j o in
          ap (slice_get ns) (is ∙ ap (λ b. cond b (number_of v edges) (number_of v made)) no) ∙ old (below_other c j l o)
    ]

-- codes without a sign, in one width
pub equal_codes : (v : ℕ → Bool) (a b l m : List Edge) (w : ℕ) → length a ≤ w → length b ≤ w → number_of v l ≡ number_of v a % 2 ^ w → number_of v m ≡ number_of v b % 2 ^ w →
    eqb (number_of v l) (number_of v m) ≡ eqb (number_of v a) (number_of v b)
equal_codes v a b l m w ha hb el em =
    let small : (es : List Edge) → length es ≤ w → number_of v es < 2 ^ w =
    λ es h. (let more : 2 ^ length es ≤ 2 ^ w = pow-le-pow_right (omega arith) h in omega (arith, more, number-lt (edge_value v) es)) in
    λ i. eqb ((el ∙ mod-eq_of_lt (small a ha)) i) ((em ∙ mod-eq_of_lt (small b hb)) i)

-- a list whose elements another one begins with
pub begins_from : (xs ys : List ℕ) (i : ℕ) → length xs ≤ length ys → length xs ≤ i → ((k : ℕ) → k < i → get_or xs k 0 ≡ get_or ys k 0) → Begins xs ys
begins_from xs ys i l m h k n e =
    let within : k < length xs = slice_get_within xs k n e in
    slice_get-get_or ys k 0 (omega arith) ∙ ap Some (sym (h k (omega arith)) ∙ get_or_from_slice_get xs k n 0 e)

pub all_in_itself : (xs : List ℕ) → AreIn xs xs
all_in_itself xs = λ k d l. has_at xs k d l

pub no_place : (xs : List ℕ) (n : ℕ) → position (λ s. s == n) xs ≡ None → IsTrue (has xs n) → ⊥
no_place xs n h t = not_found xs n h t

pub enough_codes : (n w : ℕ) → w ≡ least_bits n → n ≤ 2 ^ w
enough_codes n w e = let P : ℕ → Type 0 = λ k. n ≤ 2 ^ k in subst P (sym e) (least_width n).fits

pub chosen_code_is : (v : ℕ → Bool) (c : Bool) (xs ys to : List ℕ) (m n s : ℕ) (left right code : List Edge) → ((t : ℕ) → slice_get xs m ≡ Some t → slice_get to (number_of v left) ≡ Some t) →
    ((t : ℕ) → slice_get ys n ≡ Some t → slice_get to (number_of v right) ≡ Some t) → values_of v code ≡ cond c (values_of v left) (values_of v right) →
    cond c (slice_get xs m) (slice_get ys n) ≡ Some s → slice_get to (number_of v code) ≡ Some s
chosen_code_is v true xs ys to m n s left right code hl hr h e = ap (slice_get to) (number_of-chosen v true code left right h) ∙ hl s e
chosen_code_is v false xs ys to m n s left right code hl hr h e = ap (slice_get to) (number_of-chosen v false code left right h) ∙ hr s e

-- the symbol at a place
pub at_place : (xs : List ℕ) (k j s : ℕ) → slice_get xs k ≡ Some s → k ≡ j → get_or xs j 0 ≡ s
at_place xs k j s e q = get_or_from_slice_get xs j s 0 (ap (slice_get xs) (sym q) ∙ e)
