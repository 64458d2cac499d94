-- The texts of values may stand in lines.
use Rattle.std.proofs.Common.{◌≡◌, inl, inr, ℕ, zero, suc, ◌+◌, ◌<◌, ◌≤◌, ◌/◌, ◌%◌, ◌^◌, Bool, true, false, ◌||◌, List, [], ◌∷◌, ◌++◌, Option, None, Some, codes, fold, refl, sym, ap, ◌∙◌, arith, ℤ, pos, negsuc}
use Rattle.std.specs.Fmt.{decimal, signed_decimal}
use Rattle.std.specs.List.{list_all, list_any}
use Rattle.std.proofs.lemmas.Bool.{and_parts, cases_Bool, leb-true}
use Rattle.std.proofs.lemmas.Fmt.{decimal_by_steps_wide}
use Rattle.std.proofs.lemmas.List.Sums.{fold-append}
use lib.Dec.{leb, ltb}
use Rattle.smv_value.specs.declared.value.Value.{Value}
use Rattle.smv_value.specs.declared.value.Value.TheVariants as value
use Rattle.smv_value.specs.Results.{is_int, is_width, is_word}
use Rattle.value_types.specs.declared.value_type.Element.{Element}
use Rattle.value_types.specs.declared.value_type.ValueType.{ValueType}
use Rattle.value_types.specs.declared.value_type.ValueType.TheVariants as type
use Rattle.value_types.specs.Types.{element_value, is_element, is_of_type, is_type}
use Rattle.value_types.proofs.Elements.{element_is}
use Rattle.value_texts.specs.Told.{told_text}
use Rattle.value_texts.specs.Read.{word_front}
use Rattle.value_texts.proofs.Apart.{boolean_shape, range_shape, small, word_shape, word_small}
use Rattle.smv_meaning.specs.Runs.{in_type}
use Rattle.trace_replay.specs.declared.forms.ValueState.{ValueState}
use Rattle.trace_replay.specs.declared.forms.ValueState.TheVariants as state
use Rattle.trace_replay.specs.Forms.{ends_value, is_value, value_after}
use Rattle.trace_replay.specs.Rows.{are_told}

abbrev pub ran : ValueState → List ℕ → ValueState
ran s text = fold value_after s text

ran-append : (s : ValueState) (a b : List ℕ) → ran s (a ++ b) ≡ ran (ran s a) b
ran-append s a b = fold-append value_after s a b

-- what holds of each digit
below_ten : (P : ℕ → Type 0) → P 0 → P 1 → P 2 → P 3 → P 4 → P 5 → P 6 → P 7 → P 8 → P 9 → (d : ℕ) → d < 10 → P d
below_ten P a b c d e f g h i j zero lt = a
below_ten P a b c d e f g h i j (suc zero) lt = b
below_ten P a b c d e f g h i j (suc (suc zero)) lt = c
below_ten P a b c d e f g h i j (suc (suc (suc zero))) lt = d
below_ten P a b c d e f g h i j (suc (suc (suc (suc zero)))) lt = e
below_ten P a b c d e f g h i j (suc (suc (suc (suc (suc zero))))) lt = f
below_ten P a b c d e f g h i j (suc (suc (suc (suc (suc (suc zero)))))) lt = g
below_ten P a b c d e f g h i j (suc (suc (suc (suc (suc (suc (suc zero))))))) lt = h
below_ten P a b c d e f g h i j (suc (suc (suc (suc (suc (suc (suc (suc zero)))))))) lt = i
below_ten P a b c d e f g h i j (suc (suc (suc (suc (suc (suc (suc (suc (suc zero))))))))) lt = j
below_ten P a b c d e f g h i j (suc (suc (suc (suc (suc (suc (suc (suc (suc (suc n)))))))))) lt = absurd (let never : ⊥ = omega (arith, lt) in never)

-- a number without leading zeros leads from one state to another, but 0 to this one
module _ (s none some : ValueState)
    (at_zero : value_after s 48 ≡ none)
    (first : (d : ℕ) → d < 10 → 0 < d → value_after s (48 + d) ≡ some)
    (more : (d : ℕ) → d < 10 → value_after some (48 + d) ≡ some) where
  abbrev Leads : ℕ → List ℕ → Type 0
  Leads n ds = (n ≡ 0 → ran s ds ≡ none) × (0 < n → ran s ds ≡ some)

  one_digit : (n : ℕ) → n < 10 → Leads n ((48 + n) ∷ [])
  one_digit n lt = (λ e. ap (λ m. value_after s (48 + m)) e ∙ at_zero, λ p. first n lt p)

  more_digits : (n : ℕ) (ds : List ℕ) → 10 ≤ n → Leads (n / 10) ds → Leads n (ds ++ ((48 + n % 10) ∷ []))
  more_digits n ds ten h = (
    λ e. absurd (let never : ⊥ = omega (arith, e, ten) in never),
    λ p. ran-append s ds ((48 + n % 10) ∷ [])
        ∙ ap (λ q. value_after q (48 + n % 10)) (h.1 (let some_left : 0 < n / 10 = omega (arith, ten) in some_left))
        ∙ more (n % 10) (let small_left : n % 10 < 10 = omega arith in small_left),
  )

  pub number_leads : (n : ℕ) → n < 10 ^ 64 → Leads n (decimal n)
  number_leads n lt = decimal_by_steps_wide Leads one_digit more_digits n lt

abbrev Step : ValueState → ValueState → ℕ → Type 0
Step s t d = value_after s (48 + d) ≡ t

abbrev First : ValueState → ValueState → ℕ → Type 0
First s t d = 0 < d → value_after s (48 + d) ≡ t

no_first : (s t : ValueState) → First s t 0
no_first s t h = absurd (let never : ⊥ = omega (arith, h) in never)

digits_on : (d : ℕ) → d < 10 → Step state.Digits state.Digits d
digits_on = below_ten (Step state.Digits state.Digits) refl refl refl refl refl refl refl refl refl refl

width_on : (d : ℕ) → d < 10 → Step state.Width state.Width d
width_on = below_ten (Step state.Width state.Width) refl refl refl refl refl refl refl refl refl refl

from_start : (d : ℕ) → d < 10 → First state.Start state.Digits d
from_start = below_ten (First state.Start state.Digits) (no_first state.Start state.Digits) (λ h. refl) (λ h. refl) (λ h. refl) (λ h. refl) (λ h. refl) (λ h. refl) (λ h. refl) (λ h. refl) (λ h. refl)

from_minus : (d : ℕ) → d < 10 → First state.Minus state.Digits d
from_minus = below_ten (First state.Minus state.Digits) (no_first state.Minus state.Digits) (λ h. refl) (λ h. refl) (λ h. refl) (λ h. refl) (λ h. refl) (λ h. refl) (λ h. refl) (λ h. refl) (λ h. refl)

from_base : (d : ℕ) → d < 10 → First state.Base state.Width d
from_base = below_ten (First state.Base state.Width) (no_first state.Base state.Width) (λ h. refl) (λ h. refl) (λ h. refl) (λ h. refl) (λ h. refl) (λ h. refl) (λ h. refl) (λ h. refl) (λ h. refl)

from_bar : (d : ℕ) → d < 10 → First state.Bar state.Digits d
from_bar = below_ten (First state.Bar state.Digits) (no_first state.Bar state.Digits) (λ h. refl) (λ h. refl) (λ h. refl) (λ h. refl) (λ h. refl) (λ h. refl) (λ h. refl) (λ h. refl) (λ h. refl)

-- integers and words are told in form
natural_formed : (n : ℕ) → n < 10 ^ 64 → is_value (decimal n) ≡ true
natural_formed zero lt = ap ends_value ((number_leads state.Start state.Zero state.Digits refl from_start digits_on zero lt).0 refl)
natural_formed (suc n) lt = ap ends_value ((number_leads state.Start state.Zero state.Digits refl from_start digits_on (suc n) lt).1 (omega arith))

pub int_formed : (z : ℤ) → is_int z ≡ true → is_value (signed_decimal z) ≡ true
int_formed (pos n) h = let least = small (pos n) h in natural_formed n (omega (arith, least))
int_formed (negsuc n) h =
    let least = small (negsuc n) h in
    ap ends_value ((number_leads state.Minus state.Wrong state.Digits refl from_minus digits_on (suc n) (omega (arith, least))).1 (omega arith))

bits_formed : (n : ℕ) → n < 10 ^ 64 → ends_value (ran state.Bar (decimal n)) ≡ true
bits_formed zero lt = ap ends_value ((number_leads state.Bar state.NoBits state.Digits refl from_bar digits_on zero lt).0 refl)
bits_formed (suc n) lt = ap ends_value ((number_leads state.Bar state.NoBits state.Digits refl from_bar digits_on (suc n) lt).1 (omega arith))

front_formed : (s : Bool) (w : ℕ) → 0 < w → w < 10 ^ 64 → ran state.Start (word_front s w) ≡ state.Bar
front_formed true w some few =
    ran-append state.Start (codes "0sd" ++ decimal w) (codes "_")
    ∙ ap (λ q. ran q (codes "_")) (ran-append state.Start (codes "0sd") (decimal w) ∙ (number_leads state.Base state.Wrong state.Width refl from_base width_on w few).1 some)
front_formed false w some few =
    ran-append state.Start (codes "0ud" ++ decimal w) (codes "_")
    ∙ ap (λ q. ran q (codes "_")) (ran-append state.Start (codes "0ud") (decimal w) ∙ (number_leads state.Base state.Wrong state.Width refl from_base width_on w few).1 some)

pub word_formed : (s : Bool) (w bits : ℕ) → is_word w bits ≡ true → is_value (word_front s w ++ decimal bits) ≡ true
word_formed s w bits h =
    let both = and_parts (is_width w) (ltb bits (2 ^ w)) h in
    let width = and_parts (leb 1 w) (leb w 128) both.0 in
    let least = leb-true 1 w width.0 in
    let most = leb-true w 128 width.1 in
    let below = word_small w bits h in
    ap ends_value (ran-append state.Start (word_front s w) (decimal bits) ∙ ap (λ q. ran q (decimal bits)) (front_formed s w (omega (arith, least)) (omega (arith, most))))
    ∙ bits_formed bits (omega (arith, below))

boolean_formed : (names : List (List ℕ)) (b : Bool) → is_value (told_text names (value.Bool b)) ≡ true
boolean_formed names true = refl
boolean_formed names false = refl

element_formed : (names : List (List ℕ)) (es : List Element) (v : Value) → list_all (λ (e : Element). is_value (told_text names (element_value e))) es ≡ true → list_any (is_element v) es ≡ true → is_value (told_text names v) ≡ true
element_formed names [] v all h = absurd (let never : ⊥ = cc in never)
element_formed names (e ∷ es) v all h =
    let both = and_parts (is_value (told_text names (element_value e))) (list_all (λ (x : Element). is_value (told_text names (element_value x))) es) all in
    elim (cases_Bool (is_element v e)) [
      | inl here ↦ ap (λ (w : Value). is_value (told_text names w)) (element_is v e here) ∙ both.0
      | inr past ↦ element_formed names es v both.1 (sym (ap (λ b. b || list_any (is_element v) es) past) ∙ h)
    ]

value_formed : (names : List (List ℕ)) (t : ValueType) (v : Value) → is_type t ≡ true → are_told names (Some t) ≡ true → is_of_type v t ≡ true → is_value (told_text names v) ≡ true
value_formed names type.Boolean v typed told h = let is = boolean_shape v h in ap (λ (w : Value). is_value (told_text names w)) is.1 ∙ boolean_formed names is.0
value_formed names (type.Word s w) v typed told h = let is = word_shape s w v h in ap (λ (x : Value). is_value (told_text names x)) is.1 ∙ word_formed s w is.0 is.2
value_formed names (type.Range low high) v typed told h = let is = range_shape low high v typed h in ap (λ (w : Value). is_value (told_text names w)) is.1 ∙ int_formed is.0 is.2
value_formed names (type.Enumeration es) v typed told h = element_formed names es v told h

pub typed_formed : (names : List (List ℕ)) (t : Option ValueType) (v : Value) → ((x : ValueType) → t ≡ Some x → is_type x ≡ true) → are_told names t ≡ true → in_type t v ≡ true → is_value (told_text names v) ≡ true
typed_formed names None v typed told h = absurd (let never : ⊥ = cc in never)
typed_formed names (Some t) v typed told h = value_formed names t v (typed t refl) told h
