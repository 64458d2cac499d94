-- Where bits of numbers begin among those of others.
use Rattle.std.proofs.Common.{◌≡◌, ◌∙◌, ℕ, zero, suc, ◌+◌, ◌<◌, ◌≤◌, ◌==◌, Bool, true, false, not, ◌||◌, cond, List, [], ◌∷◌, ◌++◌, length, map, refl, sym, ap, arith, append_assoc}
use Rattle.std.specs.List.{filter, range_with_len}
use Rattle.std.proofs.lemmas.Bool.{eq-eqb, eqb-true, ne_eqb}
use Rattle.std.proofs.lemmas.List.{get_or-append-add, length-append}
use Rattle.value_types.specs.declared.value_type.ValueType.{ValueType}
use Rattle.value_types.specs.declared.value_type.ValueType.TheVariants as type
use Rattle.bit_values.specs.Bits.{width_of}
use Rattle.bit_states.specs.Values.{width_of_all}
use Rattle.bit_formula.specs.Coding.{is_in, others, start_in, type_at, width_at}
use Rattle.bit_formula.specs.Numbers.{AreInOrder}
use Rattle.bit_formula.proofs.Numbers.{filter_next}

module _ (types : List ValueType) where
  abbrev width : ℕ → ℕ
  width k = width_of (type_at types k)

  pub width_append : (xs ys : List ℕ) → width_at types (xs ++ ys) ≡ width_at types xs + width_at types ys
  width_append [] ys = omega arith
  width_append (x ∷ xs) ys = let e = width_append xs ys in omega (arith, e)

  width_cond : (k : ℕ) (b : Bool) → width_at types (cond b (k ∷ []) []) ≡ cond b (width k) 0
  width_cond k true = omega arith
  width_cond k false = refl

  -- with one number more, if it passes
  pub width_next : (f : ℕ → Bool) (k : ℕ) → width_at types (filter f (range_with_len 0 (k + 1))) ≡ width_at types (filter f (range_with_len 0 k)) + cond (f k) (width k) 0
  width_next f k =
      ap (width_at types) (filter_next f k) ∙ width_append (filter f (range_with_len 0 k)) (cond (f k) (k ∷ []) [])
      ∙ ap (λ n. width_at types (filter f (range_with_len 0 k)) + n) (width_cond k (f k))

  both_cond : (x : ℕ) (xs ys zs : List ℕ) (b : Bool) → width_at types xs + width_at types ys ≡ width_at types zs
      → width_at types (cond b (x ∷ xs) xs) + width_at types (cond (not b) (x ∷ ys) ys) ≡ width_at types (x ∷ zs)
  both_cond x xs ys zs true e = omega (arith, e)
  both_cond x xs ys zs false e = omega (arith, e)

  -- those that pass and those that do not
  pub width_both : (f : ℕ → Bool) (xs : List ℕ) → width_at types (filter f xs) + width_at types (filter (λ k. not (f k)) xs) ≡ width_at types xs
  width_both f [] = refl
  width_both f (x ∷ xs) = both_cond x (filter f xs) (filter (λ k. not (f k)) xs) xs (f x) (width_both f xs)

  -- the bits of a number are among those of a list that has it
  inside_step : (n : ℕ) (ns : List ℕ) (k : ℕ) (b : Bool) → (n == k) ≡ b → (b || is_in ns k) ≡ true → (is_in ns k ≡ true → start_in types ns k + width k ≤ width_at types ns)
      → cond b 0 (width n + start_in types ns k) + width k ≤ width n + width_at types ns
  inside_step n ns k true e h rest = let same = ap width (eqb-true n k e) in omega (arith, same)
  inside_step n ns k false e h rest = let r = rest h in omega (arith, r)

  pub start_inside : (ns : List ℕ) (k : ℕ) → is_in ns k ≡ true → start_in types ns k + width k ≤ width_at types ns
  start_inside [] k h = cc
  start_inside (n ∷ ns) k h = inside_step n ns k (n == k) refl h (start_inside ns k)

  -- where numbers begin that pass
  module _ (f : ℕ → Bool) where
    starts_first : (a : ℕ) (xs : List ℕ) (k : ℕ) (b : Bool) → b ≡ true → a ≡ k → start_in types (cond b (a ∷ xs) xs) k ≡ 0
    starts_first a xs k false on e = cc
    starts_first a xs k true on e = ap (λ (b : Bool). cond b 0 (width a + start_in types xs k)) (eq-eqb a k e)

    starts_later : (a : ℕ) (xs rest : List ℕ) (k : ℕ) (b : Bool) → (a ≡ k → ⊥) → start_in types xs k ≡ width_at types rest
        → start_in types (cond b (a ∷ xs) xs) k ≡ width_at types (cond b (a ∷ rest) rest)
    starts_later a xs rest k false other e = e
    starts_later a xs rest k true other e =
        ap (λ (b : Bool). cond b 0 (width a + start_in types xs k)) (ne_eqb a k other) ∙ ap (λ n. width a + n) e

    pub starts : (a n j k : ℕ) → j < n → k ≡ a + j → f k ≡ true → start_in types (filter f (range_with_len a n)) k ≡ width_at types (filter f (range_with_len a j))
    starts a zero j k lt k_is on = absurd (let no : ⊥ = omega (arith, lt) in no)
    starts a (suc n) zero k lt k_is on =
        let e : a ≡ k = omega (arith, k_is) in
        starts_first a (filter f (range_with_len (a + 1) n)) k (f a) (ap f e ∙ on) e
    starts a (suc n) (suc j) k lt k_is on =
        starts_later a (filter f (range_with_len (a + 1) n)) (filter f (range_with_len (a + 1) j)) k (f a) (λ e. omega (arith, e, k_is))
        (starts (a + 1) n j k (omega (arith, lt)) (omega (arith, k_is)) on)

  -- of numbers below n in their order, and of the others
  pub start_read : (n : ℕ) (reads : List ℕ) → AreInOrder n reads → (k : ℕ) → k < n → is_in reads k ≡ true → start_in types reads k ≡ width_at types (filter (is_in reads) (range_with_len 0 k))
  start_read n reads order k lt on =
      ap (λ (ns : List ℕ). start_in types ns k) order ∙ starts (is_in reads) 0 n k k lt (omega arith) on

  pub start_other : (n : ℕ) (reads : List ℕ) (k : ℕ) → k < n → is_in reads k ≡ false → start_in types (others n reads) k ≡ width_at types (filter (λ j. not (is_in reads j)) (range_with_len 0 k))
  start_other n reads k lt off = starts (λ j. not (is_in reads j)) 0 n k k lt (omega arith) (ap not off)

-- the types of all numbers
types_from : (before after : List ValueType) (start : ℕ) → start ≡ length before → map (type_at (before ++ after)) (range_with_len start (length after)) ≡ after
types_from before [] start e = refl
types_from before (t ∷ after) start e =
    let here : type_at (before ++ t ∷ after) start ≡ t =
    ap (type_at (before ++ t ∷ after)) (let z : start ≡ length before + 0 = omega (arith, e) in z) ∙ get_or-append-add before (t ∷ after) 0 type.Boolean in
    let moved : before ++ t ∷ after ≡ (before ++ t ∷ []) ++ after = sym (append_assoc before (t ∷ []) after) in
    let rest : map (type_at (before ++ t ∷ after)) (range_with_len (start + 1) (length after)) ≡ after =
    ap (λ (ts : List ValueType). map (type_at ts) (range_with_len (start + 1) (length after))) moved
    ∙ types_from (before ++ t ∷ []) after (start + 1) (omega (arith, e, length-append before (t ∷ []))) in
    λ i. here i ∷ rest i

pub types_all : (types : List ValueType) → map (type_at types) (range_with_len 0 (length types)) ≡ types
types_all types = types_from [] types 0 refl

pub width_all : (types : List ValueType) → width_at types (range_with_len 0 (length types)) ≡ width_of_all types
width_all types = ap width_of_all (types_all types)

-- those that are read and the others have all bits
pub width_parts : (types : List ValueType) (reads : List ℕ) → AreInOrder (length types) reads
    → width_at types reads + width_at types (others (length types) reads) ≡ width_of_all types
width_parts types reads order =
    ap (λ (ns : List ℕ). width_at types ns + width_at types (others (length types) reads)) order
    ∙ width_both types (is_in reads) (range_with_len 0 (length types)) ∙ width_all types
