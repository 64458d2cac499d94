-- What is printed is read back.
use Rattle.std.proofs.Common.{◌≡◌, inl, inr, ℕ, zero, suc, ◌<◌, ◌^◌, Bool, true, false, not, List, [], ◌∷◌, ◌++◌, length, get_or, codes, Option, None, Some, refl, sym, ap, ◌∙◌, arith, rules, append_assoc}
use lib.Dec.{eqb}
use Rattle.std.specs.Prelude.{nat_lt, ◌&&◌}
use Rattle.std.specs.Fmt.{decimal}
use Rattle.std.specs.Char.{is_ascii_digit}
use Rattle.std.specs.List.{All, list_all}
use Rattle.std.specs.Str.Parse.{digits_value}
use Rattle.std.proofs.lemmas.Bool.{and_from, and_parts, cases_Bool, cond-false, cond-true, ltb-true, ne_eqb}
use Rattle.std.proofs.lemmas.Bool.Decides.{leb_tells, nat_tests}
use Rattle.std.proofs.lemmas.Fmt.{decimal_digit, decimal_nonempty, digits_decimal, digits_value-decimal, first_decimal}
use Rattle.std.proofs.lemmas.List.Folds.{list_all-append}
use Rattle.std.proofs.lemmas.List.Splits.{slice_split_at, slice_split_none}
use Rattle.std.proofs.lemmas.Str.Parse.{IsNumeralModel, numerals_by_value}
use Rattle.plain_text.specs.Decimals.{number_up_to}
use Rattle.trace_lines.specs.declared.entry.Binding.{Binding}
use Rattle.trace_lines.specs.declared.entry.TraceLine.{TraceLine}
use Rattle.trace_lines.specs.declared.entry.TraceLine.TheVariants as entry
use Rattle.trace_lines.specs.Lines.{begins_name, binding_of, bindings_in, bindings_of, entry_of, entry_read, in_name, in_value, is_name, is_value, long_entry, long_keyed, number_of, pieces, short_entry, short_keyed, with_binding}
use Rattle.trace_lines.specs.Printed.{binding_text, bindings_text, entry_text, in_form, is_binding}

-- Texts without a byte, which are one piece.

abbrev is_other : ℕ → ℕ → Bool
is_other c b = not (eqb b c)

abbrev free : ℕ → List ℕ → Bool
free c xs = list_all (is_other c) xs

other_at : (c b : ℕ) → is_other c b ≡ true → eqb b c ≡ false
other_at c b h = elim (cases_Bool (eqb b c)) [
  | inl hit ↦ absurd (let e : not (eqb b c) ≡ false = ap not hit in let never : ⊥ = cc in never)
  | inr miss ↦ miss
]

free-at : (c x : ℕ) (xs : List ℕ) → is_other c x ≡ true → All (λ b. eqb b c ≡ false) xs → All (λ b. eqb b c ≡ false) (x ∷ xs)
free-at c x xs h more zero d below = other_at c x h
free-at c x xs h more (suc k) d below = more k d (omega (arith, below))

free-all : (c : ℕ) (xs : List ℕ) → free c xs ≡ true → All (λ b. eqb b c ≡ false) xs
free-all c [] h = λ k d below. absurd (let never : ⊥ = omega (arith, below) in never)
free-all c (x ∷ xs) h = let both = and_parts (is_other c x) (free c xs) h in free-at c x xs both.0 (free-all c xs both.1)

free-append : (c : ℕ) (xs ys : List ℕ) → free c xs ≡ true → free c ys ≡ true → free c (xs ++ ys) ≡ true
free-append c xs ys h k = list_all-append (is_other c) xs ys ∙ and_from (free c xs) (free c ys) h k

free-from : (c : ℕ) (p : ℕ → Bool) (xs : List ℕ) → ((b : ℕ) → p b ≡ true → is_other c b ≡ true) → list_all p xs ≡ true → free c xs ≡ true
free-from c p [] without h = refl
free-from c p (x ∷ xs) without h = let both = and_parts (p x) (list_all p xs) h in and_from (is_other c x) (free c xs) (without x both.0) (free-from c p xs without both.1)

one_piece : (c : ℕ) (xs : List ℕ) → free c xs ≡ true → pieces c xs ≡ xs ∷ []
one_piece c xs h = slice_split_none (λ b. eqb b c) xs (free-all c xs h)

next_piece : (c : ℕ) (xs ys : List ℕ) → free c xs ≡ true → eqb c c ≡ true → pieces c (xs ++ c ∷ ys) ≡ xs ∷ pieces c ys
next_piece c xs ys h same = slice_split_at (λ b. eqb b c) xs c ys (free-all c xs h) same

-- Numbers.

pub own : IsNumeralModel (λ ds. list_all is_ascii_digit ds ≡ true) (digits_value 10)
own = numerals_by_value _ (search rules)

digit_no_space : (b : ℕ) → is_ascii_digit b ≡ true → is_other 32 b ≡ true
digit_no_space b h = grind (arith, nat_tests)

digit_no_colon : (b : ℕ) → is_ascii_digit b ≡ true → is_other 58 b ≡ true
digit_no_colon b h = grind (arith, nat_tests)

decimal_no_space : (n : ℕ) → n < 2 ^ 64 → free 32 (decimal n) ≡ true
decimal_no_space n small = free-from 32 is_ascii_digit (decimal n) digit_no_space (digits_decimal own n small)

decimal_no_colon : (n : ℕ) → n < 2 ^ 64 → free 58 (decimal n) ≡ true
decimal_no_colon n small = free-from 58 is_ascii_digit (decimal n) digit_no_colon (digits_decimal own n small)

number_up : (n : ℕ) → n < 2 ^ 64 → number_up_to 18446744073709551615 (decimal n) ≡ Some n
unfolding number_up_to
number_up n small =
    let digits = digits_decimal own n small in
    let value = digits_value-decimal own n small in
    let long = decimal_nonempty n small in
    grind (arith, digits, value, long, small, leb_tells)

number_back : (n : ℕ) → n < 2 ^ 64 → number_of (decimal n) ≡ Some n
number_back zero small =
    let one : decimal 0 ≡ 48 ∷ [] = decimal_digit 0 (omega arith) in
    ap number_of one ∙ ap (number_up_to 18446744073709551615) (sym one) ∙ number_up 0 small
number_back (suc n) small =
    let first : 48 < get_or (decimal (suc n)) 0 0 = first_decimal (suc n) (omega arith) small in
    let up = number_up (suc n) small in
    grind (arith, first, up, nat_tests)

-- Names and values.

begins_in : (b : ℕ) → begins_name b ≡ true → in_name b ≡ true
begins_in b h = grind (arith, nat_tests)

name_all : (name : List ℕ) → is_name name ≡ true → list_all in_name name ≡ true
name_all [] h = refl
name_all (b ∷ bs) h = let both = and_parts (begins_name b) (list_all in_name bs) h in and_from (in_name b) (list_all in_name bs) (begins_in b both.0) both.1

name_no_space : (b : ℕ) → in_name b ≡ true → is_other 32 b ≡ true
name_no_space b h = grind (arith, nat_tests)

name_no_comma : (b : ℕ) → in_name b ≡ true → is_other 44 b ≡ true
name_no_comma b h = grind (arith, nat_tests)

name_no_colon : (b : ℕ) → in_name b ≡ true → is_other 58 b ≡ true
name_no_colon b h = grind (arith, nat_tests)

value_no_space : (b : ℕ) → in_value b ≡ true → is_other 32 b ≡ true
value_no_space b h = grind (arith, nat_tests)

value_no_comma : (b : ℕ) → in_value b ≡ true → is_other 44 b ≡ true
value_no_comma b h = grind (arith, nat_tests)

value_no_colon : (b : ℕ) → in_value b ≡ true → is_other 58 b ≡ true
value_no_colon b h = grind (arith, nat_tests)

-- a byte that stands in no name and no value, nor in " = ", stands in no binding
binding_free : (c : ℕ) → ((b : ℕ) → in_name b ≡ true → is_other c b ≡ true) → ((b : ℕ) → in_value b ≡ true → is_other c b ≡ true) → free c (codes " = ") ≡ true
    → (b : Binding) → is_binding b ≡ true → free c (codes " " ++ binding_text b) ≡ true
binding_free c in_names in_values between b h =
    let both = and_parts (is_name b.name) (is_value b.value) h in
    let name = free-from c in_name b.name in_names (name_all b.name both.0) in
    let value = free-from c in_value b.value in_values (and_parts (nat_lt 0 (length b.value)) (list_all in_value b.value) both.1).1 in
    let space = (and_parts (is_other c 32) (free c (61 ∷ 32 ∷ [])) between).0 in
    and_from (is_other c 32) (free c (binding_text b)) space
    (free-append c (b.name ++ codes " = ") b.value (free-append c b.name (codes " = ") name between) value)

no_comma : (b : Binding) → is_binding b ≡ true → free 44 (codes " " ++ binding_text b) ≡ true
no_comma = binding_free 44 name_no_comma value_no_comma refl

no_colon : (b : Binding) → is_binding b ≡ true → free 58 (codes " " ++ binding_text b) ≡ true
no_colon = binding_free 58 name_no_colon value_no_colon refl

row_no_colon : (row : List Binding) → list_all is_binding row ≡ true → free 58 (bindings_text row) ≡ true
row_no_colon [] h = refl
row_no_colon (b ∷ []) h = no_colon b (and_parts (is_binding b) true h).0
row_no_colon (b ∷ c ∷ bs) h =
    let both = and_parts (is_binding b) (list_all is_binding (c ∷ bs)) h in
    free-append 58 (codes " " ++ binding_text b ++ codes ",") (bindings_text (c ∷ bs)) (free-append 58 (codes " " ++ binding_text b) (codes ",") (no_colon b both.0) refl) (row_no_colon (c ∷ bs) both.1)

-- Bindings.

binding_back : (b : Binding) → is_binding b ≡ true → binding_of (pieces 32 (codes " " ++ binding_text b)) ≡ Some b
binding_back b h =
    let both = and_parts (is_name b.name) (is_value b.value) h in
    let name = free-from 32 in_name b.name name_no_space (name_all b.name both.0) in
    let value = free-from 32 in_value b.value value_no_space (and_parts (nat_lt 0 (length b.value)) (list_all in_value b.value) both.1).1 in
    let parts : pieces 32 (binding_text b) ≡ b.name ∷ codes "=" ∷ b.value ∷ [] =
    ap (pieces 32) (append_assoc b.name (codes " = ") b.value) ∙ next_piece 32 b.name (61 ∷ 32 ∷ b.value) name refl ∙ ap (λ (l : List (List ℕ)). b.name ∷ codes "=" ∷ l) (one_piece 32 b.value value) in
    ap (λ (l : List (List ℕ)). binding_of ([] ∷ l)) parts
    ∙ cond-true (is_name b.name && is_value b.value) (Some b) None h

bindings_back : (b : Binding) (bs : List Binding) → list_all is_binding (b ∷ bs) ≡ true → bindings_of (pieces 44 (bindings_text (b ∷ bs))) ≡ Some (b ∷ bs)
bindings_back b [] h =
    let formed = (and_parts (is_binding b) true h).0 in
    ap bindings_of (one_piece 44 (codes " " ++ binding_text b) (no_comma b formed)) ∙ ap (λ (o : Option Binding). with_binding o (Some [])) (binding_back b formed)
bindings_back b (c ∷ bs) h =
    let both = and_parts (is_binding b) (list_all is_binding (c ∷ bs)) h in
    ap (λ (l : List ℕ). bindings_of (pieces 44 l)) (append_assoc (codes " " ++ binding_text b) (codes ",") (bindings_text (c ∷ bs)))
    ∙ ap bindings_of (next_piece 44 (codes " " ++ binding_text b) (bindings_text (c ∷ bs)) (no_comma b both.0) refl)
    ∙ ap (λ (o : Option Binding). with_binding o (bindings_of (pieces 44 (bindings_text (c ∷ bs))))) (binding_back b both.0)
    ∙ ap (with_binding (Some b)) (bindings_back c bs both.1)

pub in_more : (rest : List ℕ) → 0 < length rest → bindings_in rest ≡ bindings_of (pieces 44 rest)
in_more rest long = cond-false (eqb (length rest) 0) (Some []) (bindings_of (pieces 44 rest)) (ne_eqb (length rest) 0 (λ e. let never : ⊥ = omega (arith, e, long) in never))

row_back : (row : List Binding) → list_all is_binding row ≡ true → bindings_in (bindings_text row) ≡ Some row
row_back [] h = refl
row_back (b ∷ []) h = in_more (bindings_text (b ∷ [])) (omega arith) ∙ bindings_back b [] h
row_back (b ∷ c ∷ bs) h =
    let text : List ℕ = binding_text b ++ codes "," ++ bindings_text (c ∷ bs) in
    let long : 0 < length (32 ∷ text) = omega arith in
    in_more (bindings_text (b ∷ c ∷ bs)) long ∙ bindings_back b (c ∷ bs) h

-- Lines.

pub read_back : (e : TraceLine) → in_form e ≡ true → entry_read (entry_text e) ≡ Some e
unfolding entry_read
read_back (entry.Spec n) = λ h.
    let small : n < 2 ^ 64 = ltb-true n (2 ^ 64) h in
    ap entry_of (one_piece 58 (codes "--@ spec " ++ decimal n) (decimal_no_colon n small))
    ∙ ap (λ (l : List (List ℕ)). short_entry (codes "--@" ∷ codes "spec" ∷ l)) (one_piece 32 (decimal n) (decimal_no_space n small))
    ∙ ap (short_keyed (codes "spec")) (number_back n small)
read_back (entry.Loop n) = λ h.
    let small : n < 2 ^ 64 = ltb-true n (2 ^ 64) h in
    ap entry_of (one_piece 58 (codes "--@ loop " ++ decimal n) (decimal_no_colon n small))
    ∙ ap (λ (l : List (List ℕ)). short_entry (codes "--@" ∷ codes "loop" ∷ l)) (one_piece 32 (decimal n) (decimal_no_space n small))
    ∙ ap (short_keyed (codes "loop")) (number_back n small)
read_back (entry.State n row) = λ h.
    let both = and_parts (nat_lt n (2 ^ 64)) (list_all is_binding row) h in
    let small : n < 2 ^ 64 = ltb-true n (2 ^ 64) both.0 in
    let front : List ℕ = codes "--@ state " ++ decimal n in
    ap (λ (l : List ℕ). entry_of (pieces 58 l)) (append_assoc front (codes ":") (bindings_text row))
    ∙ ap entry_of (next_piece 58 front (bindings_text row) (decimal_no_colon n small) refl)
    ∙ ap (λ (l : List (List ℕ)). entry_of (front ∷ l)) (one_piece 58 (bindings_text row) (row_no_colon row both.1))
    ∙ ap (λ (l : List (List ℕ)). long_entry (codes "--@" ∷ codes "state" ∷ l) (bindings_in (bindings_text row))) (one_piece 32 (decimal n) (decimal_no_space n small))
    ∙ ap (λ (o : Option ℕ). long_keyed (codes "state") o (bindings_in (bindings_text row))) (number_back n small)
    ∙ ap (long_keyed (codes "state") (Some n)) (row_back row both.1)
read_back (entry.Input n row) = λ h.
    let both = and_parts (nat_lt n (2 ^ 64)) (list_all is_binding row) h in
    let small : n < 2 ^ 64 = ltb-true n (2 ^ 64) both.0 in
    let front : List ℕ = codes "--@ input " ++ decimal n in
    ap (λ (l : List ℕ). entry_of (pieces 58 l)) (append_assoc front (codes ":") (bindings_text row))
    ∙ ap entry_of (next_piece 58 front (bindings_text row) (decimal_no_colon n small) refl)
    ∙ ap (λ (l : List (List ℕ)). entry_of (front ∷ l)) (one_piece 58 (bindings_text row) (row_no_colon row both.1))
    ∙ ap (λ (l : List (List ℕ)). long_entry (codes "--@" ∷ codes "input" ∷ l) (bindings_in (bindings_text row))) (one_piece 32 (decimal n) (decimal_no_space n small))
    ∙ ap (λ (o : Option ℕ). long_keyed (codes "input") o (bindings_in (bindings_text row))) (number_back n small)
    ∙ ap (long_keyed (codes "input") (Some n)) (row_back row both.1)
