-- The element of an enumeration that is told so.
use Rattle.std.proofs.Common.{◌≡◌, inl, inr, ℕ, zero, suc, ◌+◌, ◌<◌, Bool, true, false, ◌||◌, List, [], ◌∷◌, length, get_or, take, None, Some, refl, sym, ap, ◌∙◌, arith}
use Rattle.std.specs.List.{list_all, list_any}
use Rattle.std.proofs.lemmas.Bool.{and_parts, cases_Bool}
use Rattle.std.proofs.lemmas.List.Folds.{list_any_at, list_any_more}
use Rattle.std.proofs.lemmas.Slice.Eq.{bytes_eq-Decides}
use Rattle.smv_value.specs.declared.value.Value.{Value}
use Rattle.smv_value.specs.Results.{is_value}
use Rattle.value_types.specs.declared.value_type.Element.{Element}
use Rattle.value_types.specs.declared.value_type.ValueType.TheVariants as type
use Rattle.value_types.specs.Types.{element_value, is_distinct, is_element, is_type}
use Rattle.value_types.proofs.Elements.{element_is, element_same}
use Rattle.value_texts.specs.Told.{told_text}
use Rattle.value_texts.specs.Read.{IsRead, is_element_told}

value_at : (es : List Element) (i : ℕ) (d : Element) → list_all (λ (e : Element). is_value (element_value e)) es ≡ true → i < length es → is_value (element_value (get_or es i d)) ≡ true
value_at [] i d h lt = absurd (let never : ⊥ = omega (arith, lt) in never)
value_at (e ∷ es) zero d h lt = (and_parts (is_value (element_value e)) (list_all (λ (x : Element). is_value (element_value x)) es) h).0
value_at (e ∷ es) (suc i) d h lt = value_at es i d (and_parts (is_value (element_value e)) (list_all (λ (x : Element). is_value (element_value x)) es) h).1 (omega (arith, lt))

-- the element of an index is a value
pub element_typed : (es : List Element) (i : ℕ) (d : Element) → is_type (type.Enumeration es) ≡ true → i < length es → is_value (element_value (get_or es i d)) ≡ true
element_typed es i d typed lt = value_at es i d (and_parts (is_distinct es) (list_all (λ (x : Element). is_value (element_value x)) es) typed).1 lt

or_true : (a b : Bool) → b ≡ true → (a || b) ≡ true
or_true true b h = refl
or_true false b h = h

module _ (names : List (List ℕ)) (text : List ℕ) where
  -- one element more is not told so
  pub one_more : (es : List Element) (i : ℕ) (d : Element) → i < length es → list_any (is_element_told names text) (take i es) ≡ false → is_element_told names text (get_or es i d) ≡ false
      → list_any (is_element_told names text) (take (i + 1) es) ≡ false
  one_more es i d lt before here =
      list_any_more (is_element_told names text) es i d lt ∙ ap (λ b. b || is_element_told names text (get_or es i d)) before ∙ here

  told_among : (es : List Element) (v : Value) → list_any (is_element v) es ≡ true → told_text names v ≡ text → list_any (is_element_told names text) es ≡ true
  told_among [] v h e = absurd (let never : ⊥ = cc in never)
  told_among (x ∷ es) v h e = elim (cases_Bool (is_element v x)) [
    | inl here ↦
        let same : told_text names (element_value x) ≡ text = sym (ap (told_text names) (element_is v x here)) ∙ e in
        ap (λ b. b || list_any (is_element_told names text) es) ((bytes_eq-Decides (told_text names (element_value x)) text).1 same)
    | inr past ↦
        let later = told_among es v (sym (ap (λ b. b || list_any (is_element v) es) past) ∙ h) e in
        or_true (is_element_told names text x) (list_any (is_element_told names text) es) later
  ]

  -- no value of the enumeration is told so
  pub none_told : (es : List Element) → list_any (is_element_told names text) es ≡ false → IsRead names (type.Enumeration es) text None
  none_told es none v h e = let some = told_among es v h e in let never : ⊥ = cc in never

  -- this element is
  pub element_told : (es : List Element) (i : ℕ) (d : Element) → i < length es → is_element_told names text (get_or es i d) ≡ true → IsRead names (type.Enumeration es) text (Some (element_value (get_or es i d)))
  element_told es i d lt told =
      let e = get_or es i d in
      (list_any_at (is_element (element_value e)) es i d lt (element_same e), (bytes_eq-Decides (told_text names (element_value e)) text).0 told)
