-- What is a member of a run.
use Rattle.std.proofs.Common.{◌≡◌, ◌∙◌, ℕ, zero, suc, ◌+◌, ◌<◌, ◌≤◌, Bool, true, false, ◌&&◌, ◌||◌, List, [], ◌∷◌, length, get_or, take, ℤ, pos, negsuc, ◌+ℤ◌, ◌-ℤ◌, ◌<ℤ◌, ◌≤ℤ◌, int_lt, int_le, refl, sym, ap, arith}
use Rattle.std.specs.List.{flat_map, list_all, list_any}
use Rattle.std.proofs.lemmas.Int.{ints}
use Rattle.std.proofs.lemmas.List.Folds.{list_all-append, list_any-append}
use Rattle.std.proofs.lemmas.Bool.{and_right, or_right}
use Rattle.std.proofs.lemmas.List.{flat_map_more, take_more}
use Rattle.smv_value.specs.declared.value.Value.{Value}
use Rattle.smv_value.specs.declared.value.Value.TheVariants as value
use Rattle.smv_value.specs.Results.{natural, same}
use Rattle.value_types.specs.declared.value_type.ValueType.{ValueType}
use Rattle.value_types.specs.Types.{is_between, is_of_type}
use Rattle.value_sets.specs.Members.{counted_up, run, span_values}
use Rattle.value_sets.specs.declared.spans.Span.{Span}

none_here : (a z : ℤ) → false ≡ (int_le a z && int_lt z (a +ℤ pos 0))
none_here a z = grind (arith, ints)

one_more : (a z : ℤ) (n : ℕ) → ((int_le z a && int_le a z) || (int_le (a +ℤ pos 1) z && int_lt z ((a +ℤ pos 1) +ℤ pos n))) ≡ (int_le a z && int_lt z (a +ℤ pos (suc n)))
one_more a z n = grind (arith, ints)

-- an integer is among those that are counted up
among : (n : ℕ) (a z : ℤ) → list_any (same (value.Int z)) (counted_up a n) ≡ (int_le a z && int_lt z (a +ℤ pos n))
among zero a z = none_here a z
among (suc n) a z = ap (λ b. (int_le z a && int_le a z) || b) (among n (a +ℤ pos 1) z) ∙ one_more a z n

to_last : (low high z : ℤ) → (int_le low z && int_lt z (low +ℤ pos (natural (high +ℤ pos 1 -ℤ low)))) ≡ (int_le low z && int_le z high)
to_last low high z = by (high +ℤ pos 1 -ℤ low) refl
  where
    by : (d : ℤ) → high +ℤ pos 1 -ℤ low ≡ d → (int_le low z && int_lt z (low +ℤ pos (natural d))) ≡ (int_le low z && int_le z high)
    by (pos n) e = grind (arith, ints)
    by (negsuc n) e = grind (arith, ints)

pub in_run_is : (low high z : ℤ) → (int_le low z && int_le z high) ≡ list_any (same (value.Int z)) (run low high)
in_run_is low high z = sym (among (natural (high +ℤ pos 1 -ℤ low)) low z ∙ to_last low high z)

-- nothing else is
none_among : (v : Value) → ((z : ℤ) → same v (value.Int z) ≡ false) → (n : ℕ) (a : ℤ) → list_any (same v) (counted_up a n) ≡ false
none_among v never zero a = refl
none_among v never (suc n) a = ap (λ b. b || list_any (same v) (counted_up (a +ℤ pos 1) n)) (never a) ∙ none_among v never n (a +ℤ pos 1)

pub none_in_run : (v : Value) → ((z : ℤ) → same v (value.Int z) ≡ false) → (low high : ℤ) → list_any (same v) (run low high) ≡ false
none_in_run v never low high = none_among v never (natural (high +ℤ pos 1 -ℤ low)) low

-- members so far, and those of one span more

some_append : (v : Value) (xs : List Span) (i : ℕ) (d : Span) → i < length xs →
    list_any (same v) (flat_map span_values (take (i + 1) xs)) ≡ (list_any (same v) (flat_map span_values (take i xs)) || list_any (same v) (span_values (get_or xs i d)))
some_append v xs i d l =
    ap (λ ys. list_any (same v) (flat_map span_values ys)) (take_more xs i d l)
    ∙ ap (list_any (same v)) (sym (flat_map_more span_values [] (take i xs) (get_or xs i d)))
    ∙ list_any-append (same v) (flat_map span_values (take i xs)) (span_values (get_or xs i d))

-- no member so far, and none in this span
pub none_more : (v : Value) (xs : List Span) (i : ℕ) (d : Span) → i < length xs → list_any (same v) (flat_map span_values (take i xs)) ≡ false →
    list_any (same v) (span_values (get_or xs i d)) ≡ false → list_any (same v) (flat_map span_values (take (i + 1) xs)) ≡ false
none_more v xs i d l none here = some_append v xs i d l ∙ ap (λ b. b || list_any (same v) (span_values (get_or xs i d))) none ∙ here

-- a member of some span is one of all
pub some_here : (v : Value) (xs : List Span) (i : ℕ) (d : Span) → i < length xs → list_any (same v) (span_values (get_or xs i d)) ≡ true →
    list_any (same v) (flat_map span_values xs) ≡ true
some_here v [] i d l h = absurd (omega (arith, l))
some_here v (x ∷ xs) zero d l h = list_any-append (same v) (span_values x) (flat_map span_values xs) ∙ ap (λ b. b || list_any (same v) (flat_map span_values xs)) h
some_here v (x ∷ xs) (suc i) d l h =
    list_any-append (same v) (span_values x) (flat_map span_values xs)
    ∙ or_right (list_any (same v) (span_values x)) (list_any (same v) (flat_map span_values xs)) (some_here v xs i d (omega (arith, l)) h)

-- runs, from their first integer on

pub run_none : (low high : ℤ) → high <ℤ low → run low high ≡ []
run_none low high h = by (high +ℤ pos 1 -ℤ low) refl
  where
    by : (d : ℤ) → high +ℤ pos 1 -ℤ low ≡ d → counted_up low (natural d) ≡ []
    by (pos zero) e = refl
    by (pos (suc n)) e = absurd (omega (arith, ints))
    by (negsuc n) e = refl

pub run_more : (low high : ℤ) → low ≤ℤ high → run low high ≡ value.Int low ∷ run (low +ℤ pos 1) high
run_more low high h = by (high +ℤ pos 1 -ℤ low) refl
  where
    by : (d : ℤ) → high +ℤ pos 1 -ℤ low ≡ d → counted_up low (natural d) ≡ value.Int low ∷ run (low +ℤ pos 1) high
    by (pos zero) e = absurd (omega (arith, ints))
    by (pos (suc n)) e =
        let rest : high +ℤ pos 1 -ℤ (low +ℤ pos 1) ≡ pos n = omega (arith, ints) in
        ap (λ (k : ℕ). value.Int low ∷ counted_up (low +ℤ pos 1) k) (sym (ap natural rest))
    by (negsuc n) e = absurd (omega (arith, ints))

pub run_one : (low high : ℤ) → low ≤ℤ high → high ≤ℤ low → run low high ≡ value.Int low ∷ []
run_one low high a b =
    let past : high <ℤ (low +ℤ pos 1) = omega (arith, ints) in
    run_more low high a ∙ ap (λ (l : List Value). value.Int low ∷ l) (run_none (low +ℤ pos 1) high past)

pub run_long : (low high : ℤ) → low <ℤ high → 2 ≤ length (run low high)
run_long low high h =
    let first = run_more low high (omega (arith, ints)) in
    let second = run_more (low +ℤ pos 1) high (omega (arith, ints)) in
    omega (arith, ap length first, ap length second)

-- values of a type

abbrev no_more : ℕ → Bool
no_more zero = true
no_more (suc n) = false

one_between : (n : ℕ) (a least greatest : ℤ) →
    ((int_le least a && int_le a greatest) && (no_more n || (int_le least (a +ℤ pos 1) && int_le ((a +ℤ pos 1) +ℤ pos n -ℤ pos 1) greatest)))
    ≡ (int_le least a && int_le (a +ℤ pos (suc n) -ℤ pos 1) greatest)
one_between zero a least greatest = grind (arith, ints)
one_between (suc n) a least greatest = grind (arith, ints)

all_counted : (n : ℕ) (a least greatest : ℤ) →
    list_all (is_between least greatest) (counted_up a n) ≡ (no_more n || (int_le least a && int_le (a +ℤ pos n -ℤ pos 1) greatest))
all_counted zero a least greatest = refl
all_counted (suc n) a least greatest =
    ap (λ (b : Bool). (int_le least a && int_le a greatest) && b) (all_counted n (a +ℤ pos 1) least greatest) ∙ one_between n a least greatest

none_between : (low high least greatest : ℤ) → high <ℤ low → (int_lt high low || (int_le least low && int_le high greatest)) ≡ true
none_between low high least greatest h = grind (arith, ints)

some_between : (n : ℕ) (low high least greatest : ℤ) → high +ℤ pos 1 -ℤ low ≡ pos (suc n) →
    (int_lt high low || (int_le least low && int_le high greatest)) ≡ (int_le least low && int_le (low +ℤ pos (suc n) -ℤ pos 1) greatest)
some_between n low high least greatest e = grind (arith, ints)

pub all_between : (low high least greatest : ℤ) → (int_lt high low || (int_le least low && int_le high greatest)) ≡ list_all (is_between least greatest) (run low high)
all_between low high least greatest = by (high +ℤ pos 1 -ℤ low) refl
  where
    by : (d : ℤ) → high +ℤ pos 1 -ℤ low ≡ d → (int_lt high low || (int_le least low && int_le high greatest)) ≡ list_all (is_between least greatest) (counted_up low (natural d))
    by (pos zero) e = none_between low high least greatest (omega (arith, ints))
    by (pos (suc n)) e = some_between n low high least greatest e ∙ sym (all_counted (suc n) low least greatest)
    by (negsuc n) e = none_between low high least greatest (omega (arith, ints))

-- the first integer of a run is not of the type, or is
pub run_fails : (t : ValueType) (low high : ℤ) → low ≤ℤ high → false ≡ is_of_type (value.Int low) t → list_all (λ v. is_of_type v t) (run low high) ≡ false
run_fails t low high l h =
    ap (list_all (λ v. is_of_type v t)) (run_more low high l)
    ∙ ap (λ (b : Bool). b && list_all (λ v. is_of_type v t) (run (low +ℤ pos 1) high)) (sym h)

pub run_goes : (t : ValueType) (low high : ℤ) → low ≤ℤ high → true ≡ is_of_type (value.Int low) t →
    list_all (λ v. is_of_type v t) (run low high) ≡ list_all (λ v. is_of_type v t) (run (low +ℤ pos 1) high)
run_goes t low high l h =
    ap (list_all (λ v. is_of_type v t)) (run_more low high l)
    ∙ ap (λ (b : Bool). b && list_all (λ v. is_of_type v t) (run (low +ℤ pos 1) high)) (sym h)

-- an empty run is of each type, and one of a single integer is where that is
pub run_past : (t : ValueType) (low high : ℤ) → high <ℤ low → true ≡ list_all (λ v. is_of_type v t) (run low high)
run_past t low high past = sym (ap (list_all (λ v. is_of_type v t)) (run_none low high past))

pub run_ends : (t : ValueType) (low high : ℤ) → low ≤ℤ high → high ≤ℤ low → true ≡ is_of_type (value.Int low) t → true ≡ list_all (λ v. is_of_type v t) (run low high)
run_ends t low high a b h = sym (ap (list_all (λ v. is_of_type v t)) (run_one low high a b) ∙ ap (λ (b : Bool). b && true) (sym h))

-- a span that is not of the type, and one that is
module _ (t : ValueType) where
  abbrev of_all : List Span → Bool
  of_all xs = list_all (λ v. is_of_type v t) (flat_map span_values xs)

  pub all_more : (xs : List Span) (i : ℕ) (d : Span) → i < length xs → of_all (take i xs) ≡ true →
      list_all (λ v. is_of_type v t) (span_values (get_or xs i d)) ≡ true → of_all (take (i + 1) xs) ≡ true
  all_more xs i d l all here =
      ap of_all (take_more xs i d l)
      ∙ ap (list_all (λ v. is_of_type v t)) (sym (flat_map_more span_values [] (take i xs) (get_or xs i d)))
      ∙ list_all-append (λ v. is_of_type v t) (flat_map span_values (take i xs)) (span_values (get_or xs i d))
      ∙ ap (λ b. b && list_all (λ v. is_of_type v t) (span_values (get_or xs i d))) all
      ∙ here

  pub not_here : (xs : List Span) (i : ℕ) (d : Span) → i < length xs → list_all (λ v. is_of_type v t) (span_values (get_or xs i d)) ≡ false → of_all xs ≡ false
  not_here [] i d l h = absurd (omega (arith, l))
  not_here (x ∷ xs) zero d l h =
      list_all-append (λ v. is_of_type v t) (span_values x) (flat_map span_values xs) ∙ ap (λ b. b && of_all xs) h
  not_here (x ∷ xs) (suc i) d l h =
      list_all-append (λ v. is_of_type v t) (span_values x) (flat_map span_values xs)
      ∙ and_right (list_all (λ v. is_of_type v t) (span_values x)) (of_all xs) (not_here xs i d (omega (arith, l)) h)
