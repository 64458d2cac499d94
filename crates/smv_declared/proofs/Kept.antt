-- Where no rule of declared types is broken, what is declared is a type.
use Rattle.std.proofs.Common.{◌≡◌, ℕ, ◌+◌, Bool, true, false, ◌&&◌, ◌||◌, cond, List, [], ◌∷◌, ◌++◌, map, Option, None, Some, ℤ, refl, sym, ap, ◌∙◌, append_assoc, arith}
use Rattle.std.specs.Prelude.{int_le, int_lt, nat_le, pos, negsuc, ◌+ℤ◌, ◌-ℤ◌, ◌==◌}
use Rattle.std.proofs.lemmas.Int.{ints}
use Rattle.std.proofs.lemmas.Bool.Decides.{nat_tests}
use Rattle.std.specs.List.{flat_map, list_all, list_any}
use Rattle.std.proofs.lemmas.List.Folds.{list_all-append, list_any-append}
use Rattle.smv_value.specs.Results.{is_int, is_value, is_width, natural}
use Rattle.smv_tree.specs.declared.place.Place.{Place}
use Rattle.smv_tree.specs.declared.refusal.Refusal.{Refusal}
use Rattle.smv_tree.specs.declared.tree.Program.{Program}
use Rattle.smv_tree.specs.declared.tree.Section.{Section}
use Rattle.smv_tree.specs.declared.tree.Dimension.{Dimension}
use Rattle.smv_tree.specs.declared.tree.TypeExpr.{TypeExpr}
use Rattle.smv_tree.specs.declared.tree.TypeExpr.TheVariants as written
use Rattle.smv_tree.specs.declared.tree.Variable.{Variable}
use Rattle.smv_tree.specs.declared.tree.VariableKind.{VariableKind}
use Rattle.smv_tree.specs.declared.tree.WrittenElement.{WrittenElement}
use Rattle.value_types.specs.declared.value_type.Element.{Element}
use Rattle.value_types.specs.declared.value_type.Element.TheVariants as element
use Rattle.value_types.specs.Types.{element_value, is_distinct, is_element, is_type}
use Rattle.smv_scope.specs.declared.instance.Instance.{Instance}
use Rattle.smv_scope.specs.Modules.{sections_of, variables_in}
use Rattle.smv_scope.specs.Instances.{instances_of}
use Rattle.smv_scope.specs.Holders.{holds}
use Rattle.smv_verdicts.specs.Verdicts.{first_of, or_else}
use Rattle.smv_declared.specs.declared.constant.Constant.{Constant}
use Rattle.smv_declared.specs.declared.constant.Constant.TheVariants.{NotConstant, Integer}
use Rattle.smv_declared.specs.declared.limits.Limits.{Limits}
use Rattle.smv_declared.specs.declared.variable_type.VariableType.{VariableType}
use Rattle.smv_declared.specs.Types.{bound_of, bounds_between, bounds_by, element_by, element_of, is_bounds, is_variable_type, number_of, type_of, types_below, types_in, types_with, variable_type, variable_types_of}
use Rattle.smv_declared.specs.Refusals.{declared_refusal, dimension_limits, element_limits, empty_limits, empty_of, empty_range, instance_refusal, limits_by, limits_refusal, no_constant, no_constant_of, no_constants, no_width, no_width_of, place_of, repeated, too_wide, types_refusal_below, types_refusal_in, variable_refusal, wide_element, wide_limits, wide_number, wide_of, written_elements}

-- two rules that say nothing

pub first_none : (a b : Option Refusal) → or_else a b ≡ None → a ≡ None
first_none None b e = refl
first_none (Some r) b e = e

pub second_none : (a b : Option Refusal) → or_else a b ≡ None → b ≡ None
second_none None b e = e
second_none (Some r) b e = absurd (let no : ⊥ = cc in no)

unless : (b : Bool) (r : Refusal) → cond b None (Some r) ≡ None → b ≡ true
unless true r e = refl
unless false r e = absurd (let no : ⊥ = cc in no)

refused_if : (b : Bool) (r : Refusal) (rest : Option Refusal) → cond b (Some r) rest ≡ None → (b ≡ false) × (rest ≡ None)
refused_if true r rest e = absurd (let no : ⊥ = cc in no)
refused_if false r rest e = (refl, e)

both : (a b : Bool) → a ≡ true → b ≡ true → (a && b) ≡ true
both a b e f = rw (e, f) refl

both_true : (a b : Bool) → (a && b) ≡ true → (a ≡ true) × (b ≡ true)
both_true true b e = (refl, e)
both_true false b e = absurd (let no : ⊥ = cc in no)

-- what breaks no rule keeps a test, if each part does
module _ {A B : Type 0} (rule : A → Option Refusal) (found : A → List B) (test : B → Bool) (each : (a : A) → rule a ≡ None → list_all test (found a) ≡ true) where
  pub all_kept : (xs : List A) → first_of rule xs ≡ None → list_all test (flat_map found xs) ≡ true
  all_kept [] e = refl
  all_kept (x ∷ xs) e =
      list_all-append test (found x) (flat_map found xs)
      ∙ both _ _ (each x (first_none (rule x) (first_of rule xs) e)) (all_kept xs (second_none (rule x) (first_of rule xs) e))

-- words and ranges

width_kept : (place : Place) (c : Constant) → no_constant place c ≡ None → no_width place c ≡ None → is_width (natural (number_of c)) ≡ true
width_kept place NotConstant known e = absurd (let no : ⊥ = cc in no)
width_kept place (Integer z) known e = unless (is_width (natural z)) _ e

int_kept : (place : Place) (c : Constant) → no_constant place c ≡ None → too_wide place c ≡ None → is_int (number_of c) ≡ true
int_kept place NotConstant e f = absurd (let no : ⊥ = cc in no)
int_kept place (Integer z) e f = unless (is_int z) _ f

not_less : (l h : ℤ) → int_lt h l ≡ false → int_le l h ≡ true
not_less l h e = grind (arith, ints)

ordered_kept : (p q : Place) (l h : Constant) → no_constant p l ≡ None → no_constant q h ≡ None → too_wide p l ≡ None → too_wide q h ≡ None →
    empty_range p l h ≡ None → int_le (number_of l) (number_of h) ≡ true
ordered_kept p q NotConstant h e f i j o = absurd (let no : ⊥ = cc in no)
ordered_kept p q (Integer l) NotConstant e f i j o = absurd (let no : ⊥ = cc in no)
ordered_kept p q (Integer l) (Integer h) e f i j o = not_less l h ((refused_if (int_lt h l) _ None o).0)

range_kept : (x : Limits) → no_constants x ≡ None → empty_limits x ≡ None → wide_limits x ≡ None →
    (is_int (number_of x.low) && is_int (number_of x.high) && int_le (number_of x.low) (number_of x.high)) ≡ true
range_kept x known some narrow =
    let first = first_none (no_constant x.low_place x.low) (no_constant x.high_place x.high) known in
    let second = second_none (no_constant x.low_place x.low) (no_constant x.high_place x.high) known in
    let low = first_none (too_wide x.low_place x.low) (too_wide x.high_place x.high) narrow in
    let high = second_none (too_wide x.low_place x.low) (too_wide x.high_place x.high) narrow in
    both _ _ (both _ _ (int_kept x.low_place x.low first low) (int_kept x.high_place x.high second high))
    (ordered_kept x.low_place x.high_place x.low x.high first second low high some)

-- dimensions

natural_same : (z : ℤ) → int_le (pos 0) z ≡ true → pos (natural z) ≡ z
natural_same (pos n) e = refl
natural_same (negsuc n) e = absurd (let no : ⊥ = cc in no)

ahead : (l h : ℤ) → int_le l h ≡ true → int_le (pos 0) (h -ℤ l +ℤ pos 1) ≡ true
ahead l h e = grind (arith, ints)

one_at_least : (l h : ℤ) (n : ℕ) → int_le l h ≡ true → pos n ≡ h -ℤ l +ℤ pos 1 → nat_le 1 n ≡ true
one_at_least l h n e f = grind (arith, ints, nat_tests)

ends : (l h : ℤ) (n : ℕ) → pos n ≡ h -ℤ l +ℤ pos 1 → l +ℤ pos n -ℤ pos 1 ≡ h
ends l h n f = grind (arith, ints)

between_kept : (l h : ℤ) → (is_int l && is_int h && int_le l h) ≡ true → is_bounds (bounds_between l h) ≡ true
between_kept l h e =
    let last = both_true (is_int l && is_int h) (int_le l h) e in
    let first = both_true (is_int l) (is_int h) last.0 in
    let count = natural (h -ℤ l +ℤ pos 1) in
    let same : pos count ≡ h -ℤ l +ℤ pos 1 = natural_same (h -ℤ l +ℤ pos 1) (ahead l h last.1) in
    both _ _ (both _ _ (one_at_least l h count last.1 same) first.0) (ap is_int (ends l h count same) ∙ first.1)

dimensions_kept : (p : Program) (at : ℕ) (ds : List Dimension) → first_of no_constants (map (dimension_limits p at) ds) ≡ None →
    first_of empty_limits (map (dimension_limits p at) ds) ≡ None → first_of wide_limits (map (dimension_limits p at) ds) ≡ None →
    list_all is_bounds (map (bounds_by p at) ds) ≡ true
dimensions_kept p at [] known some narrow = refl
dimensions_kept p at (d ∷ ds) known some narrow =
    let x = dimension_limits p at d in
    let xs = map (dimension_limits p at) ds in
    let here = range_kept x (first_none (no_constants x) (first_of no_constants xs) known) (first_none (empty_limits x) (first_of empty_limits xs) some)
    (first_none (wide_limits x) (first_of wide_limits xs) narrow) in
    both _ _ (between_kept (number_of x.low) (number_of x.high) here)
    (dimensions_kept p at ds (second_none (no_constants x) (first_of no_constants xs) known) (second_none (empty_limits x) (first_of empty_limits xs) some)
    (second_none (wide_limits x) (first_of wide_limits xs) narrow))

-- enumerations

swapped : (a b : Bool) → (a && b) ≡ (b && a)
swapped true true = refl
swapped true false = refl
swapped false true = refl
swapped false false = refl

turned_number : (a b : ℕ) → (a == b) ≡ (b == a)
turned_number a b = grind (arith, nat_tests)

turned : (d e : Element) → is_element (element_value d) e ≡ is_element (element_value e) d
turned (element.Int a) (element.Int b) = swapped (int_le a b) (int_le b a)
turned (element.Int a) (element.Sym n) = refl
turned (element.Sym n) (element.Int a) = refl
turned (element.Sym n) (element.Sym m) = turned_number n m

neither : (a b : Bool) → (a || b) ≡ false → (a ≡ false) × (b ≡ false)
neither true b e = absurd (let no : ⊥ = cc in no)
neither false b e = (refl, e)

module _ (f : WrittenElement → Element) where
  -- an element is none of those behind it
  apart : (e : Element) (before after : List Element) (xs : List WrittenElement) → repeated f (before ++ e ∷ after) xs ≡ None → list_any (is_element (element_value e)) (map f xs) ≡ false
  apart e before after [] h = refl
  apart e before after (x ∷ xs) h =
      let test = is_element (element_value (f x)) in
      let this = refused_if (list_any test (before ++ e ∷ after)) _ _ h in
      let split : (list_any test before || list_any test (e ∷ after)) ≡ false = sym (list_any-append test before (e ∷ after)) ∙ this.0 in
      let here = (neither (test e) (list_any test after) ((neither (list_any test before) _ split).1)).0 in
      let rest : repeated f (before ++ e ∷ (after ++ f x ∷ [])) xs ≡ None =
      ap (λ es. repeated f es xs) (sym (append_assoc before (e ∷ after) (f x ∷ []))) ∙ this.1 in
      rw (turned e (f x) ∙ here) (apart e before (after ++ f x ∷ []) xs rest)

  distinct_kept : (before : List Element) (xs : List WrittenElement) → repeated f before xs ≡ None → is_distinct (map f xs) ≡ true
  distinct_kept before [] h = refl
  distinct_kept before (x ∷ xs) h =
      let rest = (refused_if (list_any (is_element (element_value (f x))) before) _ _ h).1 in
      rw (apart (f x) before [] xs rest) (distinct_kept (before ++ f x ∷ []) xs rest)

narrow_element : (p : Program) (place : Place) (text : List ℕ) (number : Option ℤ) → wide_number place number ≡ None → is_value (element_value (element_by p text number)) ≡ true
narrow_element p place text None e = refl
narrow_element p place text (Some z) e = unless (is_int z) _ e

narrow_kept : (p : Program) (xs : List WrittenElement) → first_of wide_element xs ≡ None → list_all (λ e. is_value (element_value e)) (map (element_of p) xs) ≡ true
narrow_kept p [] e = refl
narrow_kept p (x ∷ xs) e =
    both _ _ (narrow_element p x.place x.text x.number (first_none (wide_element x) (first_of wide_element xs) e))
    (narrow_kept p xs (second_none (wide_element x) (first_of wide_element xs) e))

elements_kept : (p : Program) (xs : List WrittenElement) → repeated (element_of p) [] xs ≡ None → first_of wide_element xs ≡ None →
    (is_distinct (map (element_of p) xs) && list_all (λ e. is_value (element_value e)) (map (element_of p) xs)) ≡ true
elements_kept p xs apart narrow = both _ _ (distinct_kept (element_of p) [] xs apart) (narrow_kept p xs narrow)

-- declarations

element_kept : (p : Program) (at : ℕ) (d : TypeExpr) → no_constant_of (element_limits p at d) ≡ None → empty_of (element_limits p at d) ≡ None →
    no_width_of (element_limits p at d) ≡ None → repeated (element_of p) [] (written_elements d) ≡ None → wide_of (element_limits p at d) ≡ None →
    first_of wide_element (written_elements d) ≡ None → is_type (type_of p at d) ≡ true
element_kept p at (written.Boolean place) known some right apart wide narrow = refl
element_kept p at (written.Word place signed width) known some right apart wide narrow = width_kept (place_of width) (bound_of p at width) known right
element_kept p at (written.Range place low high) known some right apart wide narrow = range_kept (limits_by p at low high) known some wide
element_kept p at (written.Enumeration place elements) known some right apart wide narrow = elements_kept p elements apart narrow
element_kept p at (written.Instance place name given) known some right apart wide narrow = refl

alone_if : (b : Bool) (t : VariableType) → is_variable_type t ≡ true → list_all is_variable_type (cond b (t ∷ []) []) ≡ true
alone_if true t e = rw e refl
alone_if false t e = refl

limits_kept : (p : Program) (at : ℕ) (v : Variable) →
    limits_refusal p (map (dimension_limits p at) v.dimensions) (element_limits p at v.declared) (written_elements v.declared) ≡ None → is_variable_type (variable_type p at v) ≡ true
limits_kept p at v e =
    let ds = map (dimension_limits p at) v.dimensions in
    let x = element_limits p at v.declared in
    let xs = written_elements v.declared in
    let constants = first_none (or_else (first_of no_constants ds) (no_constant_of x)) _ e in
    let after_constants = second_none (or_else (first_of no_constants ds) (no_constant_of x)) _ e in
    let order = first_none (or_else (first_of empty_limits ds) (empty_of x)) _ after_constants in
    let after_order = second_none (or_else (first_of empty_limits ds) (empty_of x)) _ after_constants in
    let width = first_none (no_width_of x) _ after_order in
    let after_width = second_none (no_width_of x) _ after_order in
    let apart = first_none (repeated (element_of p) [] xs) _ after_width in
    let narrow = second_none (repeated (element_of p) [] xs) _ after_width in
    let last = second_none (first_of wide_limits ds) (or_else (wide_of x) (first_of wide_element xs)) narrow in
    both _ _
    (dimensions_kept p at v.dimensions (first_none (first_of no_constants ds) (no_constant_of x) constants) (first_none (first_of empty_limits ds) (empty_of x) order)
    (first_none (first_of wide_limits ds) (or_else (wide_of x) (first_of wide_element xs)) narrow))
    (element_kept p at v.declared (second_none (first_of no_constants ds) (no_constant_of x) constants) (second_none (first_of empty_limits ds) (empty_of x) order) width apart
    (first_none (wide_of x) (first_of wide_element xs) last) (second_none (wide_of x) (first_of wide_element xs) last))

variable_kept : (p : Program) (at : ℕ) (kind : VariableKind) (v : Variable) → variable_refusal p at kind v ≡ None → list_all is_variable_type (types_with p at v) ≡ true
variable_kept p at kind v e =
    alone_if (holds v) (variable_type p at v) (limits_kept p at v (second_none (instance_refusal kind v.dimensions v.declared) _ e))

section_kept : (p : Program) (at : ℕ) (section : Section) → types_refusal_in p at section ≡ None → list_all is_variable_type (types_in p at section) ≡ true
section_kept p at section e =
    all_kept (λ (x : VariableKind × Variable). variable_refusal p at x.0 x.1) (λ (x : VariableKind × Variable). types_with p at x.1) is_variable_type
    (λ x f. variable_kept p at x.0 x.1 f) (variables_in section) e

instances_kept : (p : Program) (n : ℕ) (xs : List Instance) → types_refusal_below p n xs ≡ None → list_all is_variable_type (types_below p n xs) ≡ true
instances_kept p n [] e = refl
instances_kept p n (x ∷ xs) e =
    let here = first_of (types_refusal_in p n) (sections_of p x.of_module) in
    list_all-append is_variable_type (flat_map (types_in p n) (sections_of p x.of_module)) (types_below p (n + 1) xs)
    ∙ both _ _ (all_kept (types_refusal_in p n) (types_in p n) is_variable_type (section_kept p n) (sections_of p x.of_module) (first_none here _ e))
    (instances_kept p (n + 1) xs (second_none here _ e))

pub types_kept : (p : Program) → declared_refusal p ≡ None → list_all is_variable_type (variable_types_of p) ≡ true
unfolding declared_refusal variable_types_of
types_kept p e = instances_kept p 0 (instances_of p) e
