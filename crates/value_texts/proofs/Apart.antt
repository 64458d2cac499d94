-- The values of a type are told apart.
use Rattle.std.proofs.Common.{◌≡◌, inl, inr, ℕ, ◌<◌, ◌≤◌, ◌^◌, Bool, true, false, ◌&&◌, ◌||◌, List, [], ◌∷◌, ◌++◌, refl, sym, ap, subst, ◌∙◌, arith, ℤ, pos, negsuc}
use lib.Dec.{eqb, leb, ltb}
use lib.Signed.{mag}
use Rattle.std.specs.Bool.{beq}
use Rattle.std.specs.Fmt.{decimal, signed_decimal}
use Rattle.std.specs.Prelude.{int_le}
use Rattle.std.specs.List.{list_all, list_any}
use Rattle.std.proofs.lemmas.Bool.{and_parts, cases_Bool, eqb-true, ltb-true, leb-true}
use Rattle.std.proofs.lemmas.Bool.Decides.{nat_tests}
use Rattle.std.proofs.lemmas.Fmt.{signed_decimal_injective}
use Rattle.std.proofs.Math.Pow.{pow_mono}
use Rattle.smv_value.specs.declared.value.Value.{Value}
use Rattle.smv_value.specs.declared.value.Value.TheVariants as value
use Rattle.smv_value.specs.Results.{alike, is_int, is_value, is_width, is_word}
use Rattle.value_types.specs.declared.value_type.Element.{Element}
use Rattle.value_types.specs.declared.value_type.Element.TheVariants as element
use Rattle.value_types.specs.declared.value_type.ValueType.{ValueType}
use Rattle.value_types.specs.declared.value_type.ValueType.TheVariants as type
use Rattle.value_types.specs.Types.{element_value, is_between, is_boolean, is_distinct, is_element, is_of_type, is_type, is_word_of}
use Rattle.value_types.proofs.Elements.{element_is}
use Rattle.value_types.proofs.Ranges.{within_int}
use Rattle.value_texts.specs.Told.{told_text}
use Rattle.value_texts.specs.Read.{word_front}
use Rattle.value_texts.proofs.Starts.{decimal_once, no_number, symbol_once}

pub small : (z : ℤ) → is_int z ≡ true → mag z < 2 ^ 31
small (pos n) h =
    let both = and_parts (int_le (negsuc 2147483647) (pos n)) (int_le (pos n) (pos 2147483647)) h in
    let most : int_le (pos n) (pos 2147483647) ≡ true = both.1 in
    grind (arith, nat_tests)
small (negsuc n) h =
    let both = and_parts (int_le (negsuc 2147483647) (negsuc n)) (int_le (negsuc n) (pos 2147483647)) h in
    let least : int_le (negsuc 2147483647) (negsuc n) ≡ true = both.0 in
    grind (arith, nat_tests)

pub int_once : (y z : ℤ) → is_int y ≡ true → is_int z ≡ true → signed_decimal y ≡ signed_decimal z → y ≡ z
int_once y z h k e =
    let a = small y h in
    let b = small z k in
    signed_decimal_injective y z (omega (arith, a)) (omega (arith, b)) e

-- What values of each type are.

pub boolean_shape : (v : Value) → is_boolean v ≡ true → (b : Bool) × (v ≡ value.Bool b)
boolean_shape (value.Bool b) h = (b, refl)
boolean_shape (value.Int z) h = absurd cc
boolean_shape (value.Sym n) h = absurd cc
boolean_shape (value.Word s w b) h = absurd cc

pub range_shape : (low high : ℤ) (v : Value) → is_type (type.Range low high) ≡ true → is_between low high v ≡ true → (z : ℤ) × (v ≡ value.Int z) × (is_int z ≡ true)
range_shape low high (value.Bool b) t h = absurd cc
range_shape low high (value.Int z) t h =
    let ends = and_parts (is_int low && is_int high) (int_le low high) t in
    let both = and_parts (is_int low) (is_int high) ends.0 in
    let inside = and_parts (int_le low z) (int_le z high) h in
    (z, refl, within_int low high z both.0 both.1 inside.0 inside.1)
range_shape low high (value.Sym n) t h = absurd cc
range_shape low high (value.Word s w b) t h = absurd cc

beq_is : (a b : Bool) → beq a b ≡ true → a ≡ b
beq_is true true e = refl
beq_is true false e = absurd cc
beq_is false true e = absurd cc
beq_is false false e = refl

pub word_shape : (s : Bool) (w : ℕ) (v : Value) → is_word_of s w v ≡ true → (bits : ℕ) × (v ≡ value.Word s w bits) × (is_word w bits ≡ true)
word_shape s w (value.Bool b) h = absurd cc
word_shape s w (value.Int z) h = absurd cc
word_shape s w (value.Sym n) h = absurd cc
word_shape s w (value.Word t u bits) h =
    let both = and_parts (alike s w t u) (is_word u bits) h in
    let same = and_parts (beq s t) (eqb w u) both.0 in
    let sign : t ≡ s = sym (beq_is s t same.0) in
    let width : u ≡ w = sym (eqb-true w u same.1) in (
      bits,
      ap (λ (x : Bool). value.Word x u bits) sign ∙ ap (λ (x : ℕ). value.Word s x bits) width,
      subst (λ (x : ℕ). is_word x bits ≡ true) width both.1,
    )

pub word_small : (w bits : ℕ) → is_word w bits ≡ true → bits < 2 ^ 128
word_small w bits h =
    let both = and_parts (is_width w) (ltb bits (2 ^ w)) h in
    let width = and_parts (leb 1 w) (leb w 128) both.0 in
    let most : 2 ^ w ≤ 2 ^ 128 = pow_mono {i = w} {j = 128} (leb-true w 128 width.1) in
    let below = ltb-true bits (2 ^ w) both.1 in
    omega (arith, most, below)

all_among : (v : Value) (es : List Element) → list_all (λ (e : Element). is_value (element_value e)) es ≡ true → list_any (is_element v) es ≡ true → (e : Element) × (v ≡ element_value e) × (is_value (element_value e) ≡ true)
all_among v [] a h = absurd cc
all_among v (e ∷ es) a h =
    let all = and_parts (is_value (element_value e)) (list_all (λ (x : Element). is_value (element_value x)) es) a in
    elim (cases_Bool (is_element v e)) [
      | inl here ↦ (e, element_is v e here, all.0)
      | inr past ↦ all_among v es all.1 (sym (ap (λ b. b || list_any (is_element v) es) past) ∙ h)
    ]

pub element_shape : (es : List Element) (v : Value) → is_type (type.Enumeration es) ≡ true → list_any (is_element v) es ≡ true → (e : Element) × (v ≡ element_value e) × (is_value (element_value e) ≡ true)
element_shape es v t h = all_among v es (and_parts (is_distinct es) (list_all (λ (e : Element). is_value (element_value e)) es) t).1 h

-- Two values of a type that are told alike are one.

boolean_once : (names : List (List ℕ)) (a b : Bool) → told_text names (value.Bool a) ≡ told_text names (value.Bool b) → a ≡ b
boolean_once names true true e = refl
boolean_once names true false e = absurd (let never : ⊥ = cc in never)
boolean_once names false true e = absurd (let never : ⊥ = cc in never)
boolean_once names false false e = refl

pub same_behind : (front s t : List ℕ) → front ++ s ≡ front ++ t → s ≡ t
same_behind [] s t e = e
same_behind (b ∷ front) s t e = same_behind front s t (let same : front ++ s ≡ front ++ t = cc in same)

few : (n : ℕ) → n < 2 ^ 128 → n < 10 ^ 64
few n h = omega (arith, h)

word_once : (s : Bool) (w a b : ℕ) → is_word w a ≡ true → is_word w b ≡ true → word_front s w ++ decimal a ≡ word_front s w ++ decimal b → a ≡ b
word_once s w a b h k e = decimal_once a b (few a (word_small w a h)) (few b (word_small w b k)) (same_behind (word_front s w) (decimal a) (decimal b) e)

element_once : (names : List (List ℕ)) (d e : Element) → is_value (element_value d) ≡ true → is_value (element_value e) ≡ true
    → told_text names (element_value d) ≡ told_text names (element_value e) → element_value d ≡ element_value e
element_once names (element.Int y) (element.Int z) h k e = ap value.Int (int_once y z h k e)
element_once names (element.Int y) (element.Sym n) h k e = absurd (no_number names y n h e)
element_once names (element.Sym n) (element.Int z) h k e = absurd (no_number names z n k (sym e))
element_once names (element.Sym n) (element.Sym m) h k e = ap value.Sym (symbol_once names n m e)

pub told_once : (names : List (List ℕ)) (t : ValueType) → is_type t ≡ true → (v w : Value) → is_of_type v t ≡ true → is_of_type w t ≡ true → told_text names v ≡ told_text names w → v ≡ w
told_once names type.Boolean typed v w h k e =
    let a = boolean_shape v h in
    let b = boolean_shape w k in
    a.1 ∙ ap value.Bool (boolean_once names a.0 b.0 (ap (told_text names) (sym a.1) ∙ e ∙ ap (told_text names) b.1)) ∙ sym b.1
told_once names (type.Word s u) typed v w h k e =
    let a = word_shape s u v h in
    let b = word_shape s u w k in
    a.1 ∙ ap (value.Word s u) (word_once s u a.0 b.0 a.2 b.2 (ap (told_text names) (sym a.1) ∙ e ∙ ap (told_text names) b.1)) ∙ sym b.1
told_once names (type.Range low high) typed v w h k e =
    let a = range_shape low high v typed h in
    let b = range_shape low high w typed k in
    a.1 ∙ ap value.Int (int_once a.0 b.0 a.2 b.2 (ap (told_text names) (sym a.1) ∙ e ∙ ap (told_text names) b.1)) ∙ sym b.1
told_once names (type.Enumeration es) typed v w h k e =
    let a = element_shape es v typed h in
    let b = element_shape es w typed k in
    a.1 ∙ element_once names a.0 b.0 a.2 b.2 (ap (told_text names) (sym a.1) ∙ e ∙ ap (told_text names) b.1) ∙ sym b.1
