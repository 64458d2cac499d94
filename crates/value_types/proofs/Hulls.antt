-- The interval of elements has each of them.
use Rattle.std.proofs.Common.{◌≡◌, true, ◌&&◌, ◌||◌, List, [], ◌∷◌, inl, inr, sym, ◌∙◌, ap, arith, ℤ}
use Rattle.std.specs.Prelude.{Option, None, Some, fold, int_le}
use Rattle.std.specs.Int.{int_max, int_min}
use Rattle.std.specs.List.{list_any}
use Rattle.std.proofs.lemmas.Bool.{cases_Bool}
use Rattle.std.proofs.lemmas.Int.{ints, clamps}
use Rattle.smv_value.specs.declared.value.Value.TheVariants as value
use Rattle.value_types.specs.declared.value_type.Element.{Element}
use Rattle.value_types.specs.declared.value_type.Element.TheVariants as element
use Rattle.value_types.specs.declared.value_type.ValueType.{ValueType}
use Rattle.value_types.specs.declared.value_type.ValueType.TheVariants as type
use Rattle.value_types.specs.declared.interval.Interval.{Interval}
use Rattle.value_types.specs.Types.{is_element, is_of_type}
use Rattle.value_types.specs.Intervals.{interval_of, is_in, widened}
use Rattle.value_types.proofs.Elements.{and_left, and_right, both_true}

wider : (z low high a : ℤ) → (int_le low z && int_le z high) ≡ true → (int_le (int_min low a) z && int_le z (int_max high a)) ≡ true
wider z low high a h = grind (arith, ints, clamps)

at_end : (z low high a : ℤ) → (int_le z a && int_le a z) ≡ true → (int_le (int_min low a) z && int_le z (int_max high a)) ≡ true
at_end z low high a h = grind (arith, ints, clamps)

stays : (z : ℤ) (i : Option Interval) (e : Element) → is_in z i ≡ true → is_in z (widened i e) ≡ true
stays z None e h = absurd cc
stays z (Some i) (element.Int a) h = wider z i.low i.high a h
stays z (Some i) (element.Sym n) h = h

taken : (z : ℤ) (i : Option Interval) (e : Element) → is_element (value.Int z) e ≡ true → is_in z (widened i e) ≡ true
taken z None (element.Int a) h = both_true (int_le a z) (int_le z a) (and_right (int_le z a) (int_le a z) h) (and_left (int_le z a) (int_le a z) h)
taken z (Some i) (element.Int a) h = at_end z i.low i.high a h
taken z i (element.Sym n) h = absurd cc

all_stay : (z : ℤ) (i : Option Interval) (es : List Element) → is_in z i ≡ true → is_in z (fold widened i es) ≡ true
all_stay z i [] h = h
all_stay z i (e ∷ es) h = all_stay z (widened i e) es (stays z i e h)

found_in : (z : ℤ) (i : Option Interval) (es : List Element) → list_any (is_element (value.Int z)) es ≡ true → is_in z (fold widened i es) ≡ true
found_in z i [] h = absurd cc
found_in z i (e ∷ es) h =
    elim (cases_Bool (is_element (value.Int z) e)) [
      | inl passes ↦ all_stay z (widened i e) es (taken z i e passes)
      | inr fails ↦ found_in z (widened i e) es (sym (ap (λ b. b || list_any (is_element (value.Int z)) es) fails) ∙ h)
    ]

pub in_interval : (t : ValueType) (z : ℤ) → is_of_type (value.Int z) t ≡ true → is_in z (interval_of t) ≡ true
in_interval type.Boolean z h = absurd cc
in_interval (type.Word s w) z h = absurd cc
in_interval (type.Range low high) z h = h
in_interval (type.Enumeration es) z h = found_in z None es h
