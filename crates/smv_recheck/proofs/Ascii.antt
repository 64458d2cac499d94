-- Lines in form have the bytes of ASCII alone.
use Rattle.std.proofs.Common.{◌≡◌, ℕ, ◌<◌, ◌≤◌, ◌^◌, Bool, true, false, cond, ◌||◌, List, [], ◌∷◌, ◌++◌, codes, refl, ap, ◌∙◌, arith, inl, inr}
use lib.Dec.{eqb, leb, ltb}
use Rattle.std.specs.Char.{is_ascii_alphabetic, is_ascii_alphanumeric, is_ascii_digit}
use Rattle.std.specs.Fmt.{decimal}
use Rattle.std.specs.Int.{is_in_range}
use Rattle.std.specs.List.{fold, list_all}
use Rattle.std.specs.Str.{IsAscii}
use Rattle.std.proofs.lemmas.Bool.{and_parts, and_right, cases_Bool, cond-false, lt-leb, ltb-false, ltb-true, ne_eqb, or_from}
use Rattle.std.proofs.lemmas.Fmt.{IsAscii-decimal}
use Rattle.std.proofs.lemmas.Str.{IsAscii-append}
use Rattle.std.proofs.lemmas.Str.Ascii.{IsAscii-nil, IsAscii-cons}
use Rattle.trace_replay.specs.declared.entry.Binding.{Binding}
use Rattle.trace_replay.specs.declared.entry.TraceLine.{TraceLine}
use Rattle.trace_replay.specs.declared.entry.TraceLine.TheVariants as entry
use Rattle.trace_replay.specs.declared.forms.NameState.{NameState}
use Rattle.trace_replay.specs.declared.forms.NameState.TheVariants as name
use Rattle.trace_replay.specs.declared.forms.ValueState.{ValueState}
use Rattle.trace_replay.specs.declared.forms.ValueState.TheVariants as value
use Rattle.trace_replay.specs.Forms.{begins_identifier, begins_number, behind_part, ends_name, ends_value, in_identifier, is_name, is_value, name_after, number_from, value_after}
use Rattle.trace_replay.specs.Lines.{binding_text, bindings_text, entry_text, more_bindings}
use Rattle.trace_replay.specs.Reading.{in_form, is_binding, is_small}

text_ascii : (bs : List ℕ) → list_all (λ b. ltb b 128) bs ≡ true → IsAscii bs
text_ascii [] h = IsAscii-nil
text_ascii (b ∷ bs) h =
    let both = and_parts (ltb b 128) (list_all (λ c. ltb c 128) bs) h in
    IsAscii-cons b bs (ltb-true b 128 both.0) (text_ascii bs both.1)

-- Names and values.

past : (low most x : ℕ) → most < x → is_in_range low most x ≡ false
past low most x h = and_right (leb low x) (leb x most) (lt-leb x most h)

other : (c x : ℕ) → c < x → eqb x c ≡ false
other c x h = ne_eqb x c (λ e. let never : ⊥ = omega (arith, h, e) in never)

no_digit : (x : ℕ) → 128 ≤ x → is_ascii_digit x ≡ false
no_digit x h = past 48 57 x (omega (arith, h))

no_number : (x : ℕ) → 128 ≤ x → begins_number x ≡ false
no_number x h = past 49 57 x (omega (arith, h))

no_letter : (x : ℕ) → 128 ≤ x → is_ascii_alphabetic x ≡ false
no_letter x h = or_from (is_in_range 65 90 x) (is_in_range 97 122 x) (past 65 90 x (omega (arith, h))) (past 97 122 x (omega (arith, h)))

no_start : (x : ℕ) → 128 ≤ x → begins_identifier x ≡ false
no_start x h = or_from (is_ascii_alphabetic x) (eqb x 95) (no_letter x h) (other 95 x (omega (arith, h)))

no_alphanumeric : (x : ℕ) → 128 ≤ x → is_ascii_alphanumeric x ≡ false
no_alphanumeric x h =
    or_from (is_in_range 48 57 x || is_in_range 65 90 x) (is_in_range 97 122 x)
    (or_from (is_in_range 48 57 x) (is_in_range 65 90 x) (past 48 57 x (omega (arith, h))) (past 65 90 x (omega (arith, h)))) (past 97 122 x (omega (arith, h)))

no_inner : (x : ℕ) → 128 ≤ x → in_identifier x ≡ false
no_inner x h =
    or_from (is_ascii_alphanumeric x || eqb x 95 || eqb x 36 || eqb x 35) (eqb x 45)
    (or_from (is_ascii_alphanumeric x || eqb x 95 || eqb x 36) (eqb x 35)
    (or_from (is_ascii_alphanumeric x || eqb x 95) (eqb x 36)
    (or_from (is_ascii_alphanumeric x) (eqb x 95) (no_alphanumeric x h) (other 95 x (omega (arith, h)))) (other 36 x (omega (arith, h)))) (other 35 x (omega (arith, h))))
    (other 45 x (omega (arith, h)))

-- of two ways the second
second : {A : Type 0} (b c : Bool) (x y z : A) → b ≡ false → c ≡ false → cond b x (cond c y z) ≡ z
second b c x y z h k = cond-false b x (cond c y z) h ∙ cond-false c y z k

behind_high : (x : ℕ) → 128 ≤ x → behind_part x ≡ name.Wrong
behind_high x h = second (eqb x 46) (eqb x 91) name.Start name.Open name.Wrong (other 46 x (omega (arith, h))) (other 91 x (omega (arith, h)))

name_high : (s : NameState) (x : ℕ) → 128 ≤ x → name_after s x ≡ name.Wrong
name_high name.Start x h = cond-false (begins_identifier x) name.Identifier name.Wrong (no_start x h)
name_high name.Identifier x h = cond-false (in_identifier x) name.Identifier (behind_part x) (no_inner x h) ∙ behind_high x h
name_high name.Open x h =
    cond-false (eqb x 48) name.Zero (cond (eqb x 45) name.Minus (cond (begins_number x) name.Digits name.Wrong)) (other 48 x (omega (arith, h)))
    ∙ second (eqb x 45) (begins_number x) name.Minus name.Digits name.Wrong (other 45 x (omega (arith, h))) (no_number x h)
name_high name.Minus x h = cond-false (begins_number x) name.Digits name.Wrong (no_number x h)
name_high name.Digits x h = second (is_ascii_digit x) (eqb x 93) name.Digits name.Closed name.Wrong (no_digit x h) (other 93 x (omega (arith, h)))
name_high name.Zero x h = cond-false (eqb x 93) name.Closed name.Wrong (other 93 x (omega (arith, h)))
name_high name.Closed x h = behind_high x h
name_high name.Wrong x h = refl

name_wrong : (xs : List ℕ) → ends_name (fold name_after name.Wrong xs) ≡ false
name_wrong [] = refl
name_wrong (x ∷ xs) = name_wrong xs

name_ascii : (s : NameState) (xs : List ℕ) → ends_name (fold name_after s xs) ≡ true → IsAscii xs
name_ascii s [] h = IsAscii-nil
name_ascii s (x ∷ xs) h = elim (cases_Bool (ltb x 128)) [
  | inl low ↦ IsAscii-cons x xs (ltb-true x 128 low) (name_ascii (name_after s x) xs h)
  | inr miss ↦
      let wrong : name_after s x ≡ name.Wrong = name_high s x (ltb-false x 128 miss) in
      let fails : ends_name (fold name_after (name_after s x) xs) ≡ false = ap (λ (q : NameState). ends_name (fold name_after q xs)) wrong ∙ name_wrong xs in
      absurd (let never : ⊥ = cc in never)
]

number_high : (zero digits : ValueState) (x : ℕ) → 128 ≤ x → number_from zero digits x ≡ value.Wrong
number_high zero digits x h = second (eqb x 48) (begins_number x) zero digits value.Wrong (other 48 x (omega (arith, h))) (no_number x h)

value_high : (s : ValueState) (x : ℕ) → 128 ≤ x → value_after s x ≡ value.Wrong
value_high value.Start x h =
    second (begins_identifier x) (eqb x 45) value.Identifier value.Minus (number_from value.Zero value.Digits x) (no_start x h) (other 45 x (omega (arith, h)))
    ∙ number_high value.Zero value.Digits x h
value_high value.Identifier x h = cond-false (in_identifier x) value.Identifier value.Wrong (no_inner x h)
value_high value.Minus x h = cond-false (begins_number x) value.Digits value.Wrong (no_number x h)
value_high value.Digits x h = cond-false (is_ascii_digit x) value.Digits value.Wrong (no_digit x h)
value_high value.Zero x h =
    cond-false (eqb x 117 || eqb x 115) value.Sign value.Wrong (or_from (eqb x 117) (eqb x 115) (other 117 x (omega (arith, h))) (other 115 x (omega (arith, h))))
value_high value.Sign x h = cond-false (eqb x 100) value.Base value.Wrong (other 100 x (omega (arith, h)))
value_high value.Base x h = cond-false (begins_number x) value.Width value.Wrong (no_number x h)
value_high value.Width x h = second (is_ascii_digit x) (eqb x 95) value.Width value.Bar value.Wrong (no_digit x h) (other 95 x (omega (arith, h)))
value_high value.Bar x h = number_high value.NoBits value.Digits x h
value_high value.NoBits x h = refl
value_high value.Wrong x h = refl

value_wrong : (xs : List ℕ) → ends_value (fold value_after value.Wrong xs) ≡ false
value_wrong [] = refl
value_wrong (x ∷ xs) = value_wrong xs

value_ascii : (s : ValueState) (xs : List ℕ) → ends_value (fold value_after s xs) ≡ true → IsAscii xs
value_ascii s [] h = IsAscii-nil
value_ascii s (x ∷ xs) h = elim (cases_Bool (ltb x 128)) [
  | inl low ↦ IsAscii-cons x xs (ltb-true x 128 low) (value_ascii (value_after s x) xs h)
  | inr miss ↦
      let wrong : value_after s x ≡ value.Wrong = value_high s x (ltb-false x 128 miss) in
      let fails : ends_value (fold value_after (value_after s x) xs) ≡ false = ap (λ (q : ValueState). ends_value (fold value_after q xs)) wrong ∙ value_wrong xs in
      absurd (let never : ⊥ = cc in never)
]

-- Lines.

binding_ascii : (b : Binding) → is_binding b ≡ true → IsAscii (binding_text b)
binding_ascii b h =
    let both = and_parts (is_name b.name) (is_value b.value) h in
    IsAscii-append b.name (codes " = " ++ b.value) (name_ascii name.Start b.name both.0) (IsAscii-append (codes " = ") b.value (text_ascii (codes " = ") refl) (value_ascii value.Start b.value both.1))

more_ascii : (bs : List Binding) → list_all is_binding bs ≡ true → IsAscii (more_bindings bs)
more_ascii [] h = IsAscii-nil
more_ascii (b ∷ bs) h =
    let both = and_parts (is_binding b) (list_all is_binding bs) h in
    IsAscii-append (codes ", " ++ binding_text b) (more_bindings bs) (IsAscii-append (codes ", ") (binding_text b) (text_ascii (codes ", ") refl) (binding_ascii b both.0)) (more_ascii bs both.1)

bindings_ascii : (bs : List Binding) → list_all is_binding bs ≡ true → IsAscii (bindings_text bs)
bindings_ascii [] h = IsAscii-nil
bindings_ascii (b ∷ bs) h =
    let both = and_parts (is_binding b) (list_all is_binding bs) h in
    IsAscii-append (codes " " ++ binding_text b) (more_bindings bs) (IsAscii-append (codes " ") (binding_text b) (text_ascii (codes " ") refl) (binding_ascii b both.0)) (more_ascii bs both.1)

-- a word, a number and a text behind a colon
row_ascii : (word : List ℕ) (i : ℕ) (bs : List Binding) → IsAscii word → (is_small i ≡ true) × (list_all is_binding bs ≡ true) → IsAscii (word ++ decimal i ++ codes ":" ++ bindings_text bs)
row_ascii word i bs ascii both =
    let number = IsAscii-append word (decimal i) ascii (IsAscii-decimal i (ltb-true i (2 ^ 64) both.0)) in
    IsAscii-append (word ++ decimal i ++ codes ":") (bindings_text bs) (IsAscii-append (word ++ decimal i) (codes ":") number (text_ascii (codes ":") refl)) (bindings_ascii bs both.1)

pub entry_ascii : (e : TraceLine) → in_form e ≡ true → IsAscii (entry_text e)
entry_ascii (entry.Spec n) h = IsAscii-append (codes "--@ spec ") (decimal n) (text_ascii (codes "--@ spec ") refl) (IsAscii-decimal n (ltb-true n (2 ^ 64) h))
entry_ascii (entry.State i bs) h = row_ascii (codes "--@ state ") i bs (text_ascii (codes "--@ state ") refl) (and_parts (is_small i) (list_all is_binding bs) h)
entry_ascii (entry.Input i bs) h = row_ascii (codes "--@ input ") i bs (text_ascii (codes "--@ input ") refl) (and_parts (is_small i) (list_all is_binding bs) h)
entry_ascii (entry.Loop n) h = IsAscii-append (codes "--@ loop ") (decimal n) (text_ascii (codes "--@ loop ") refl) (IsAscii-decimal n (ltb-true n (2 ^ 64) h))
