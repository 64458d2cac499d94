-- Where the bits of inputs begin, one after the other.
use Rattle.std.proofs.Common.{◌≡◌, ◌∙◌, ℕ, zero, suc, ◌+◌, ◌<◌, ◌≤◌, Bool, true, false, not, cond, List, [], ◌∷◌, ◌++◌, length, get_or, slice_get, refl, sym, ap, arith, append-nil}
use Rattle.std.specs.List.{filter, flat_map, range_with_len}
use Rattle.std.proofs.lemmas.Grind.{flat_map-append}
use Rattle.std.proofs.lemmas.List.{get_or_default}
use Rattle.value_types.specs.declared.value_type.ValueType.{ValueType}
use Rattle.value_types.specs.declared.value_type.ValueType.TheVariants as type
use Rattle.bit_values.specs.Bits.{width_of}
use Rattle.bit_states.specs.Values.{width_of_all}
use Rattle.bit_states.proofs.Walking.{range_more}
use Rattle.bit_formula.specs.Coding.{is_in, joined_width, others, places_by, start_by, start_in, type_at, width_at}
use Rattle.bit_formula.specs.Numbers.{AreInOrder, is_number}
use Rattle.bit_formula.proofs.Numbers.{cond_same, number_is, rank, rank_next}
use Rattle.bit_formula.proofs.Starts.{start_other, start_read, width_all, width_append, width_both, width_next}

prefix_width : (types : List ValueType) (a k n : ℕ) → k ≤ n → width_at types (range_with_len a k) ≤ width_at types (range_with_len a n)
prefix_width types a zero n le = omega arith
prefix_width types a (suc k) zero le = absurd (let no : ⊥ = omega (arith, le) in no)
prefix_width types a (suc k) (suc n) le = let rest = prefix_width types (a + 1) k n (omega (arith, le)) in omega (arith, rest)

-- of the numbers below k, those that pass and those that do not
abbrev pub bits_in : List ValueType → List ℕ → ℕ → ℕ
bits_in types reads k = width_at types (filter (is_in reads) (range_with_len 0 k))

abbrev pub bits_out : List ValueType → List ℕ → ℕ → ℕ
bits_out types reads k = width_at types (filter (λ (j : ℕ). not (is_in reads j)) (range_with_len 0 k))

-- behind k inputs: how many of them are read, and where the bits of the next one begin
pub record HasReached (types : List ValueType) (reads : List ℕ) (first second k place at_own at_other : ℕ) : Type 0 where
  pub read : place ≡ rank (is_in reads) 0 k
  pub own : at_own ≡ first + bits_in types reads k
  pub other : at_other ≡ second + bits_out types reads k

pub reached_none : (types : List ValueType) (reads : List ℕ) (own other : ℕ) → HasReached types reads own other 0 0 own other
reached_none types reads own other = record { read = refl; own = omega arith; other = omega arith }

module _ (types : List ValueType) (reads : List ℕ) (order : AreInOrder (length types) reads) (own other k : ℕ) (below : k < length types)
    (read at_own at_other : ℕ) (reached : HasReached types reads own other k read at_own at_other) where
  abbrev here : Bool
  here = is_number (slice_get reads read) k

  abbrev wide : ℕ
  wide = width_of (type_at types k)

  here_is : is_in reads k ≡ here
  here_is = number_is (length types) reads order k below ∙ ap (λ (r : ℕ). is_number (slice_get reads r) k) (sym reached.read)

  in_more : bits_in types reads (k + 1) ≡ bits_in types reads k + cond here wide 0
  in_more = width_next types (is_in reads) k ∙ ap (λ (b : Bool). bits_in types reads k + cond b wide 0) here_is

  out_more : bits_out types reads (k + 1) ≡ bits_out types reads k + cond (not here) wide 0
  out_more = width_next types (λ (j : ℕ). not (is_in reads j)) k ∙ ap (λ (b : Bool). bits_out types reads k + cond (not b) wide 0) here_is

  moved : (b : Bool) (base bits at more new : ℕ) → at ≡ base + bits → more ≡ bits + cond b wide 0 → new ≡ cond b (at + wide) at → new ≡ base + more
  moved true base bits at more new at_is more_is new_is = omega (arith, at_is, more_is, new_is)
  moved false base bits at more new at_is more_is new_is = omega (arith, at_is, more_is, new_is)

  moved_other : (b : Bool) (base bits at more new : ℕ) → at ≡ base + bits → more ≡ bits + cond (not b) wide 0 → new ≡ cond b at (at + wide) → new ≡ base + more
  moved_other true base bits at more new at_is more_is new_is = omega (arith, at_is, more_is, new_is)
  moved_other false base bits at more new at_is more_is new_is = omega (arith, at_is, more_is, new_is)

  -- with one input more
  pub reached_more : (read_new own_new other_new : ℕ) → read_new ≡ cond here (read + 1) read → own_new ≡ cond here (at_own + wide) at_own → other_new ≡ cond here at_other (at_other + wide)
      → HasReached types reads own other (k + 1) read_new own_new other_new
  reached_more read_new own_new other_new read_is own_is other_is = record {
    read =
        read_is ∙ ap (λ (r : ℕ). cond here (r + 1) r) reached.read ∙ sym (ap (λ (b : Bool). cond b (rank (is_in reads) 0 k + 1) (rank (is_in reads) 0 k)) here_is)
        ∙ sym (rank_next (is_in reads) k);
    own = moved here own (bits_in types reads k) at_own (bits_in types reads (k + 1)) own_new reached.own in_more own_is;
    other = moved_other here other (bits_out types reads k) at_other (bits_out types reads (k + 1)) other_new reached.other out_more other_is;
  }

  -- where its bits begin
  pub start_is : (slots joint start : ℕ) → own ≡ slots → joint ≡ joined_width types slots reads → other ≡ joint + joint → start ≡ cond here at_own at_other → start ≡ start_by types slots reads k
  start_is slots joint start own_is joint_is other_is is =
      is
      ∙ sym (cond_same (is_in reads k) here (slots + start_in types reads k) ((joined_width types slots reads + joined_width types slots reads) + start_in types (others (length types) reads) k) at_own at_other here_is
      (λ on. let e = start_read types (length types) reads order k below on in let a = reached.own in omega (arith, e, a, own_is))
      (λ off. let e = start_other types (length types) reads k below off in let a = reached.other in omega (arith, e, a, other_is, joint_is)))

  -- the bits so far do not pass the end
  pub in_few : bits_in types reads k + bits_out types reads k + wide ≤ width_of_all types
  in_few =
      let both = width_both types (is_in reads) (range_with_len 0 k) in
      let next = ap (width_at types) (range_more 0 k (range_with_len 0 k) k refl (sym (let e : 0 + k ≡ k = omega arith in e))) in
      let more = width_append types (range_with_len 0 k) (k ∷ []) in
      let few = prefix_width types 0 (k + 1) (length types) (omega (arith, below)) in
      omega (arith, both, next, more, few, width_all types)

pub cond_few : (b : Bool) (x y n m : ℕ) → x + n < m → y + n < m → cond b x y + n < m
cond_few true x y n m first second = first
cond_few false x y n m first second = second

-- behind all inputs

pub bits_in_all : (types : List ValueType) (reads : List ℕ) → AreInOrder (length types) reads → (k : ℕ) → k ≡ length types → bits_in types reads k ≡ width_at types reads
bits_in_all types reads order k e = ap (bits_in types reads) e ∙ ap (width_at types) (sym order)

pub bits_out_all : (types : List ValueType) (reads : List ℕ) (k : ℕ) → k ≡ length types → bits_out types reads k ≡ width_at types (others (length types) reads)
bits_out_all types reads k e = ap (bits_out types reads) e

-- the type of this number, whatever stands for one that there is not
pub wide_at : (types : List ValueType) (k n : ℕ) (t : ValueType) → k < length types → t ≡ get_or types k t → n ≡ width_of t → n ≡ width_of (type_at types k)
wide_at types k n t lt is wide = wide ∙ ap width_of (is ∙ get_or_default types k t type.Boolean lt)

-- one input more
pub places_more : (types : List ValueType) (slots : ℕ) (reads : List ℕ) (k start : ℕ) (made new : List ℕ) → made ≡ flat_map (places_by types slots reads) (range_with_len 0 k)
    → start ≡ start_by types slots reads k → new ≡ made ++ range_with_len start (width_of (type_at types k)) → new ≡ flat_map (places_by types slots reads) (range_with_len 0 (k + 1))
places_more types slots reads k start made new made_is start_is new_is =
    let f = places_by types slots reads in
    new_is ∙ ap (λ (l : List ℕ). l ++ range_with_len start (width_of (type_at types k))) made_is
    ∙ ap (λ n. flat_map f (range_with_len 0 k) ++ range_with_len n (width_of (type_at types k))) start_is
    ∙ ap (λ (l : List ℕ). flat_map f (range_with_len 0 k) ++ l) (sym (append-nil (f k)))
    ∙ sym (flat_map-append f (range_with_len 0 k) (k ∷ []))
    ∙ ap (flat_map f) (range_more 0 k (range_with_len 0 k) k refl (sym (let e : 0 + k ≡ k = omega arith in e)))
