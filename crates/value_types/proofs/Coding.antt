-- The values of each type and their codes.
use Rattle.std.proofs.Common.{◌≡◌, ℕ, zero, suc, ◌<◌, ◌^◌, ◌==◌, Bool, true, false, ◌&&◌, List, length, get_or, refl, sym, ◌∙◌, ap, subst, arith, cond, ◌∷◌, [], ℤ, pos, ◌+ℤ◌, ◌-ℤ◌}
use Rattle.std.specs.Prelude.{None, Some, int_le, slice_get, nat_lt}
use Rattle.std.specs.Bool.{beq}
use Rattle.std.specs.Option.{option_map}
use Rattle.std.specs.List.{list_all, list_any, position_or_len}
use Rattle.std.proofs.lemmas.Bool.{eqb-true, eq-eqb, lt-ltb, ltb-true}
use Rattle.std.proofs.lemmas.Option.{get_or_from_slice_get, slice_get-get_or}
use Rattle.std.proofs.lemmas.List.Folds.{list_any_at}
use Rattle.std.proofs.lemmas.List.Quantifiers.{position-Some}
use Rattle.smv_value.specs.declared.value.Value.{Value}
use Rattle.smv_value.specs.declared.value.Value.TheVariants as value
use Rattle.smv_value.specs.Results.{alike, is_int, is_value, is_width, is_word, natural}
use Rattle.value_types.specs.declared.value_type.Element.{Element}
use Rattle.value_types.specs.declared.value_type.Element.TheVariants as element
use Rattle.value_types.specs.declared.value_type.ValueType.{ValueType}
use Rattle.value_types.specs.declared.value_type.ValueType.TheVariants as type
use Rattle.value_types.specs.Types.{element_value, is_distinct, is_element, is_type, is_word_of, is_boolean, is_between}
use Rattle.value_types.specs.Codes.{HasCode, IsCoding}
use Rattle.value_types.proofs.Elements.{and_left, and_right, both_true, element_is, element_position, element_same, position_found}
use Rattle.value_types.proofs.Ranges.{IsOffset, offset_at, offset_of, within_int}

boolean_value : (v : Value) → is_boolean v ≡ true → (c : ℕ) × HasCode type.Boolean v c
boolean_value (value.Bool true) e = (1, record { typed = refl; valued = refl; below = omega arith; code = refl; back = refl })
boolean_value (value.Bool false) e = (0, record { typed = refl; valued = refl; below = omega arith; code = refl; back = refl })
boolean_value (value.Int z) e = absurd cc
boolean_value (value.Sym n) e = absurd cc
boolean_value (value.Word s w b) e = absurd cc

boolean_code : (c : ℕ) → c < 2 → (v : Value) × HasCode type.Boolean v c
boolean_code zero l = (value.Bool false, record { typed = refl; valued = refl; below = omega arith; code = refl; back = refl })
boolean_code (suc zero) l = (value.Bool true, record { typed = refl; valued = refl; below = omega arith; code = refl; back = refl })
boolean_code (suc (suc c)) l = absurd (omega arith)

beq_is : (a b : Bool) → beq a b ≡ true → a ≡ b
beq_is true true e = refl
beq_is true false e = absurd cc
beq_is false true e = absurd cc
beq_is false false e = refl

beq_self : (a : Bool) → beq a a ≡ true
beq_self true = refl
beq_self false = refl

word_has : (s : Bool) (w bits : ℕ) → is_word w bits ≡ true → HasCode (type.Word s w) (value.Word s w bits) bits
word_has s w bits h =
    let like : alike s w s w ≡ true = both_true (beq s s) (w == w) (beq_self s) (eq-eqb w w refl) in
    let typed : (alike s w s w && is_word w bits) ≡ true = both_true (alike s w s w) (is_word w bits) like h in
    record {
      typed = typed;
      valued = h;
      below = ltb-true bits (2 ^ w) (and_right (is_width w) (nat_lt bits (2 ^ w)) h);
      code = ap (λ b. cond b (Some bits) None) typed;
      back = ap (λ b. cond b (Some (value.Word s w bits)) None) h;
    }

word_as : (s t : Bool) (w u bits : ℕ) → s ≡ t → w ≡ u → is_word u bits ≡ true → HasCode (type.Word s w) (value.Word t u bits) bits
word_as s t w u bits e f h =
    let P : Bool → ℕ → Type 0 = λ a n. HasCode (type.Word a n) (value.Word t u bits) bits in
    subst (λ a. P a w) (sym e) (subst (λ n. P t n) (sym f) (word_has t u bits h))

word_of_value : (s : Bool) (w : ℕ) (v : Value) → is_word_of s w v ≡ true → (c : ℕ) × HasCode (type.Word s w) v c
word_of_value s w (value.Bool b) e = absurd cc
word_of_value s w (value.Int z) e = absurd cc
word_of_value s w (value.Sym n) e = absurd cc
word_of_value s w (value.Word t u bits) e =
    let like = and_left (alike s w t u) (is_word u bits) e in
    (bits, word_as s t w u bits (beq_is s t (and_left (beq s t) (w == u) like)) (eqb-true w u (and_right (beq s t) (w == u) like)) (and_right (alike s w t u) (is_word u bits) e))

range_has : (low high z : ℤ) (c : ℕ) → is_int z ≡ true → IsOffset low high z c → HasCode (type.Range low high) (value.Int z) c
range_has low high z c int offset =
    let inside : (int_le low z && int_le z high) ≡ true = both_true (int_le low z) (int_le z high) offset.least offset.most in
    record {
      typed = inside;
      valued = int;
      below = offset.below;
      code = ap (λ b. cond b (Some (natural (z -ℤ low))) None) inside ∙ ap Some offset.distance;
      back = ap (λ y. cond (int_le y high) (Some (value.Int y)) None) offset.sum ∙ ap (λ b. cond b (Some (value.Int z)) None) offset.most;
    }

range_of_value : (low high : ℤ) (v : Value) → is_int low ≡ true → is_int high ≡ true → is_between low high v ≡ true → (c : ℕ) × HasCode (type.Range low high) v c
range_of_value low high (value.Bool b) i j e = absurd cc
range_of_value low high (value.Int z) i j e =
    let l = and_left (int_le low z) (int_le z high) e in
    let m = and_right (int_le low z) (int_le z high) e in
    (natural (z -ℤ low), range_has low high z (natural (z -ℤ low)) (within_int low high z i j l m) (offset_of low high z l m))
range_of_value low high (value.Sym n) i j e = absurd cc
range_of_value low high (value.Word s w b) i j e = absurd cc

range_of_code : (low high : ℤ) (c : ℕ) → is_int low ≡ true → is_int high ≡ true → int_le low high ≡ true → c < natural (high -ℤ low +ℤ pos 1) →
    (v : Value) × HasCode (type.Range low high) v c
range_of_code low high c i j h l =
    let offset = offset_at low high c h l in
    (value.Int (low +ℤ pos c), range_has low high (low +ℤ pos c) c (within_int low high (low +ℤ pos c) i j offset.least offset.most) offset)

all_at : (es : List Element) (c : ℕ) (e : Element) → list_all (λ d. is_value (element_value d)) es ≡ true → slice_get es c ≡ Some e → is_value (element_value e) ≡ true
all_at [] c e a h = absurd cc
all_at (x ∷ es) zero e a h =
    let is : x ≡ e = cc in
    sym (ap (λ y. is_value (element_value y)) is) ∙ and_left (is_value (element_value x)) (list_all (λ d. is_value (element_value d)) es) a
all_at (x ∷ es) (suc c) e a h = all_at es c e (and_right (is_value (element_value x)) (list_all (λ d. is_value (element_value d)) es) a) h

element_has : (es : List Element) (c : ℕ) (e : Element) → is_distinct es ≡ true → list_all (λ d. is_value (element_value d)) es ≡ true → c < length es → slice_get es c ≡ Some e →
    HasCode (type.Enumeration es) (element_value e) c
element_has es c e d a l h = record {
  typed = list_any_at (is_element (element_value e)) es c e l (ap (is_element (element_value e)) (get_or_from_slice_get es c e e h) ∙ element_same e);
  valued = all_at es c e a h;
  below = l;
  code = element_position es c e d h;
  back = ap (option_map element_value) h;
}

element_of_code : (es : List Element) (c : ℕ) → is_distinct es ≡ true → list_all (λ d. is_value (element_value d)) es ≡ true → c < length es → (v : Value) × HasCode (type.Enumeration es) v c
element_of_code es c d a l =
    let e = get_or es c (element.Sym 0) in
    (element_value e, element_has es c e d a l (slice_get-get_or es c (element.Sym 0) l))

element_of_value : (es : List Element) (v : Value) → is_distinct es ≡ true → list_all (λ d. is_value (element_value d)) es ≡ true → list_any (is_element v) es ≡ true →
    (c : ℕ) × HasCode (type.Enumeration es) v c
element_of_value es v d a e =
    let c = position_or_len (is_element v) es in
    let x = get_or es c (element.Sym 0) in
    let found = position-Some (is_element v) es c (element.Sym 0) (position_found (is_element v) es e) in
    let is : v ≡ element_value x = element_is v x found.1 in
    let has : HasCode (type.Enumeration es) (element_value x) c = element_has es c x d a found.0 (slice_get-get_or es c (element.Sym 0) found.0) in
    (c, subst (λ w. HasCode (type.Enumeration es) w c) (sym is) has)

word_of_code : (s : Bool) (w c : ℕ) → is_width w ≡ true → c < 2 ^ w → (v : Value) × HasCode (type.Word s w) v c
word_of_code s w c h l = (value.Word s w c, word_has s w c (both_true (is_width w) (nat_lt c (2 ^ w)) h (lt-ltb c (2 ^ w) l)))

range_coding : (low high : ℤ) → is_type (type.Range low high) ≡ true → IsCoding (type.Range low high)
range_coding low high h =
    let ends = and_left (is_int low && is_int high) (int_le low high) h in
    let i = and_left (is_int low) (is_int high) ends in
    let j = and_right (is_int low) (is_int high) ends in
    record {
      of_value = λ v e. range_of_value low high v i j e;
      of_code = λ c l. range_of_code low high c i j (and_right (is_int low && is_int high) (int_le low high) h) l;
    }

pub coding : (t : ValueType) → is_type t ≡ true → IsCoding t
coding type.Boolean h = record { of_value = λ v e. boolean_value v e; of_code = λ c l. boolean_code c l }
coding (type.Word s w) h = record { of_value = λ v e. word_of_value s w v e; of_code = λ c l. word_of_code s w c h l }
coding (type.Range low high) h = range_coding low high h
coding (type.Enumeration es) h =
    let d = and_left (is_distinct es) (list_all (λ e. is_value (element_value e)) es) h in
    let a = and_right (is_distinct es) (list_all (λ e. is_value (element_value e)) es) h in
    record { of_value = λ v e. element_of_value es v d a e; of_code = λ c l. element_of_code es c d a l }
