-- A program that breaks no rule of kinds gives values of fitting kinds, or faults, wherever its items speak of a value.
use Rattle.std.proofs.Common.{◌≡◌, ◌∙◌, ℕ, ◌+◌, Bool, true, false, not, ◌&&◌, cond, ◌==◌, List, [], ◌∷◌, length, Option, None, Some, Ok, Err, slice_get, ℤ, inl, inr, refl, sym, ap, subst}
use Rattle.std.specs.Prelude.{◌||◌, nat_le}
use Rattle.std.specs.List.{list_all}
use Rattle.std.proofs.lemmas.Bool.{and_parts, cases_Bool, false≢true}
use Rattle.smv_tree.specs.declared.place.Place.{Place}
use Rattle.smv_tree.specs.declared.refusal.Refusal.{Refusal}
use Rattle.smv_tree.specs.declared.tree.Program.{Program}
use Rattle.smv_tree.specs.declared.tree.AssignmentKind.{AssignmentKind}
use Rattle.smv_tree.specs.declared.tree.AssignmentKind.TheVariants as side
use Rattle.smv_tree.specs.declared.tree.ConstraintKind.TheVariants as asked
use Rattle.smv_tree.specs.declared.tree.SpecificationKind.TheVariants as claim
use Rattle.smv_tree.specs.declared.tree.VariableKind.{VariableKind}
use Rattle.smv_tree.specs.declared.tree.VariableKind.TheVariants as sort
use Rattle.smv_value.specs.declared.operator.Operator.{Operator}
use Rattle.smv_value.specs.declared.operator.Operator.TheVariants as operator
use Rattle.smv_value.specs.declared.value.Value.{Value}
use Rattle.smv_value.specs.declared.value.Value.TheVariants as value
use Rattle.smv_value.specs.Results.{alike, is_value}
use Rattle.value_types.specs.declared.value_type.ValueType.{ValueType}
use Rattle.value_types.specs.Types.{is_type}
use Rattle.smv_kinds.specs.declared.kind.Kind.{Kind}
use Rattle.smv_kinds.specs.declared.kind.Kind.TheVariants as kind
use Rattle.smv_kinds.specs.declared.kind.KindRule.TheVariants as rule
use Rattle.smv_kinds.specs.declared.kind.Operand.{Operand}
use Rattle.smv_kinds.specs.Constants.{constant_given, integer_in}
use Rattle.smv_kinds.specs.Contexts.{kind_in_context, makes_set, takes_sets}
use Rattle.smv_kinds.specs.Kinds.{Given, booleans, bounded_by, given, greatest_bound, inverted, is_boolean, kind_given, kind_if, kind_of_value, logical, mismatch, next_kind, operands_of_temporal, takes, three_told, window, window_over}
use Rattle.smv_kind_laws.specs.Values.{is_of_kind}
use Rattle.smv_kind_laws.proofs.Told.{next_is_same, value_has_kind}
use Rattle.smv_resolve.specs.declared.item.ItemKind.{ItemKind}
use Rattle.smv_resolve.specs.declared.item.ItemKind.TheVariants as item
use Rattle.smv_resolve.specs.declared.node.Naming.TheVariants as naming
use Rattle.smv_resolve.specs.Items.{ResolvedItem}
use Rattle.smv_layout.specs.Layout.{items_of}
use Rattle.smv_resolve.specs.Resolved.{Operands, Resolved}
use Rattle.smv_slots.specs.declared.slot.Slot.{Slot}
use Rattle.smv_slots.specs.Slots.{given_to, is_input, slots_of}
use Rattle.smv_declared.specs.Constants.{constants_of}
use Rattle.smv_declared.specs.Refusals.{declared_refusal}
use Rattle.smv_slots.specs.Slots.{types_of}
use Rattle.smv_slots.proofs.Kept.{types_kept}
use Rattle.smv_meaning.specs.declared.outcome.Evaluation.{Evaluation}
use Rattle.smv_meaning.specs.declared.outcome.Evaluation.TheVariants.{Fault, Nothing, Values}
use Rattle.smv_meaning.specs.Outcomes.{applied, one, valued}
use Rattle.smv_meaning.specs.Values.{outcome, outcome_in, outcomes}
use Rattle.smv_meaning.specs.Formulas.{are_known_formulas, is_known, is_known_formula, is_over_formulas, is_propositional, is_temporal}
use Rattle.smv_meaning.specs.Runs.{AllKnown as AllItemsKnown, are_inputs, is_given, is_known_by, is_known_item, is_single as has_one, is_state}
use Rattle.smv_verdicts.specs.Verdicts.{first_of, or_else}
use Rattle.smv_types.specs.Kinds.{Context, all_told, assignment_refusal, at_root, context_of_side, formula_refusal, has_values, inner_refusal, input_here, is_assignable, is_bound, is_input_slot, is_window, item_refusal, kind_in, kind_of_slot, kind_refusal, kinds_broken, left_refusal, misused, next_broken, next_here, no_taker, no_value, of_kind, of_path, of_state, of_step, operands_refusal, place_of, refusal_by_kind, slot_takes, takes_assignment, target_refusal, temporal_at, temporal_here, told, under_element, under_name, under_next, under_operand, unless_bound, written_bounds}
use Rattle.smv_types.specs.Judged.{of_name}
use Rattle.smv_types.proofs.Evaluated.{AllKnown, Fits, Has, Known, constant_fits}
use Rattle.smv_types.proofs.Gathered.{applied_fits, array_unset, array_unvalued, boolean_value, makes_array, takes_parts}
use Rattle.smv_types.proofs.SlotValues.{slot_value}

-- two rules that say nothing

first_none : (a b : Option Refusal) → or_else a b ≡ None → a ≡ None
first_none None b e = refl
first_none (Some r) b e = e

second_none : (a b : Option Refusal) → or_else a b ≡ None → b ≡ None
second_none None b e = e
second_none (Some r) b e = absurd (let never : ⊥ = cc in never)

refused_unless : (b : Bool) (r : Refusal) → cond b None (Some r) ≡ None → b ≡ true
refused_unless true r e = refl
refused_unless false r e = absurd (let never : ⊥ = cc in never)

refused_if : (b : Bool) (r : Refusal) → cond b (Some r) None ≡ None → b ≡ false
refused_if true r e = absurd (let never : ⊥ = cc in never)
refused_if false r e = refl

not_both : (a b : Bool) → a ≡ true → (a && not b) ≡ false → b ≡ true
not_both true true t e = refl
not_both true false t e = sym e
not_both false b t e = absurd (false≢true t)

none_at_root : (window : Bool) (place : Place) (k : Kind) (r : Option Refusal) → at_root window place k r ≡ None → (r ≡ None) × (is_boolean k ≡ true)
none_at_root window place k None e = (refl, refused_unless (is_boolean k) _ e)
none_at_root window place k (Some r) e = absurd (let never : ⊥ = cc in never)

none_of_both : (a b : Option Refusal) → a ≡ None → b ≡ None → or_else a b ≡ None
none_of_both a b e f = rw (e, f) refl

true_false : (b : Bool) → b ≡ true → b ≡ false → ⊥
true_false b t f = false≢true (sym f ∙ t)

none_some : {A : Type 0} (z : ℤ) → None ≡ Some z → A
none_some z e = cc

both_true : (a b : Bool) → a ≡ true → b ≡ true → (a && b) ≡ true
both_true a b e f = rw (e, f) refl

-- kinds that are given

kinds_given : (place : Place) (o : Operator) (cs : Option (ℤ × ℤ)) (g : Given) → kinds_broken place o cs g ≡ None → (k : Kind) × (g ≡ Ok k)
kinds_given place o cs (Ok k) e = (k, refl)
kinds_given place o cs (Err r) e = absurd (let never : ⊥ = cc in never)

next_given : (place : Place) (g : Given) → next_broken place g ≡ None → (k : Kind) × (g ≡ Ok k)
next_given place (Ok k) e = (k, refl)
next_given place (Err r) e = absurd (let never : ⊥ = cc in never)

in_context : (b : Bool) (g : Given) (k : Kind) → cond b (Err rule.SetHere) g ≡ Ok k → g ≡ Ok k
in_context true g k e = absurd (let never : ⊥ = cc in never)
in_context false g k e = e

next_valued : (j k : Kind) → next_kind j ≡ Ok k → has_values j ≡ true
next_valued kind.Boolean k e = refl
next_valued (kind.Word s w) k e = refl
next_valued (kind.Discrete d) k e = refl
next_valued j k e = absurd (let never : ⊥ = cc in never)

-- values

constant_told : (v : Value) (z : ℤ) → integer_in (Some v) ≡ Some z → one v ≡ one (value.Int z)
constant_told (value.Bool b) z e = none_some z e
constant_told (value.Int y) z e = ap (λ (x : Value). one x) (let same : value.Int y ≡ value.Int z = cc in same)
constant_told (value.Sym n) z e = none_some z e
constant_told (value.Word s w a) z e = none_some z e

one_fits : (k : Kind) (v : Value) → is_of_kind k v ≡ true → Fits k (one v)
one_fits k v e = (rw e refl, λ s. (v, refl))

value_known : (x : Operand) (o : Evaluation) → has_values x.kind ≡ true → Known x o → Has x o
value_known x o v (inl h) = h
value_known x o v (inr n) = absurd (true_false (has_values x.kind) v n.0)

fits_given : (k : Kind) (o : Evaluation) → Fits k o → is_given o ≡ true
fits_given k (Fault rule place) h = refl
fits_given k Nothing h = absurd h
fits_given k (Values vs) h = refl

-- TRUE, FALSE or a fault
boolean_known : (k : Kind) (o : Evaluation) → is_boolean k ≡ true → Fits k o → is_known o ≡ true
boolean_known k (Fault rule place) b h = refl
boolean_known k Nothing b h = absurd h
boolean_known kind.Boolean (Values vs) b h =
    let v = h.1 refl in
    let P : List Value → Type 0 = λ us. list_all (is_of_kind kind.Boolean) us ≡ true in
    let here = (and_parts (is_of_kind kind.Boolean v.0) true (subst P v.1 h.0)).0 in
    let t = boolean_value v.0 ((and_parts (is_value v.0) _ here).1) in
    let is : vs ≡ value.Bool t.0 ∷ [] = v.1 ∙ ap (λ (x : Value). x ∷ []) t.1 in
    ap (λ us. is_known (Values us)) is
boolean_known k (Values vs) b h = absurd (false≢true b)

boolean_valued : (k : Kind) → is_boolean k ≡ true → has_values k ≡ true
boolean_valued kind.Boolean e = refl
boolean_valued k e = absurd (false≢true e)

operand_known : (x : Operand) (o : Evaluation) → is_boolean x.kind ≡ true → Known x o → is_known o ≡ true
operand_known x o b h = boolean_known x.kind o b ((value_known x o (boolean_valued x.kind b) h).fits)

-- operators over formulas

over_no_sets : (o : Operator) (k : ℕ) → is_over_formulas o ≡ true → takes_sets o k false ≡ false
over_no_sets operator.In k e = absurd (false≢true e)
over_no_sets other k e = refl

if_boolean : (b : Bool) → is_boolean (kind_in (given (kind_if b kind.Boolean))) ≡ true → b ≡ true
if_boolean true e = refl
if_boolean false e = absurd (false≢true e)

if_word : (b s : Bool) (w : ℕ) → is_boolean (kind_in (given (kind_if b (kind.Word s w)))) ≡ true → ⊥
if_word true s w e = false≢true e
if_word false s w e = false≢true e

not_boolean : (a : Kind) → is_boolean (kind_in (given (inverted a))) ≡ true → is_boolean a ≡ true
not_boolean kind.Boolean e = refl
not_boolean (kind.Word s w) e = absurd (false≢true e)
not_boolean a e = absurd (false≢true e)

logic_boolean : (a b : Kind) → is_boolean (kind_in (given (logical a b))) ≡ true → (is_boolean a ≡ true) × (is_boolean b ≡ true)
logic_boolean kind.Boolean kind.Boolean e = (refl, refl)
logic_boolean (kind.Word s w) (kind.Word t v) e = absurd (if_word (alike s w t v) s w e)
logic_boolean a b e = absurd (false≢true e)

bounds_kept : (b : Bool) (k : Kind) → is_boolean (kind_in (cond b (Ok k) (Err rule.BadBound))) ≡ true → is_boolean k ≡ true
bounds_kept true k e = e
bounds_kept false k e = absurd (false≢true e)

bounded_kept : (low high : ℕ) (g : Given) → is_boolean (kind_in (bounded_by low high g)) ≡ true → is_boolean (kind_in g) ≡ true
bounded_kept low high (Ok k) e = bounds_kept (nat_le low high && nat_le high greatest_bound) k e
bounded_kept low high (Err r) e = e

abbrev all_booleans : List Operand → Bool
all_booleans xs = list_all (λ (x : Operand). is_boolean x.kind) xs

counted_booleans : (n : ℕ) (xs : List Operand) → is_boolean (kind_in (given (booleans n xs))) ≡ true → all_booleans xs ≡ true
counted_booleans n xs e = (and_parts (length xs == n) (all_booleans xs) (if_boolean ((length xs == n) && all_booleans xs) e)).1

no_bounds : (c d : Option ℤ) → is_boolean (kind_in (window c d)) ≡ true → ⊥
no_bounds None d e = false≢true e
no_bounds (Some low) None e = false≢true e
no_bounds (Some low) (Some high) e = false≢true e

no_window_over : (c d : Option ℤ) (b : Bool) → is_boolean (kind_in (cond b (window c d) mismatch)) ≡ true → ⊥
no_window_over c d true e = no_bounds c d e
no_window_over c d false e = false≢true e

-- bounds that are not told have no kind
no_window : (xs : List Operand) → is_boolean (kind_in (three_told (λ low high x. window_over x.kind low.constant high.constant) xs)) ≡ true → ⊥
no_window [] e = false≢true e
no_window (x ∷ []) e = false≢true e
no_window (x ∷ y ∷ []) e = false≢true e
no_window (x ∷ y ∷ z ∷ []) e = no_window_over x.constant y.constant (is_boolean z.kind) e
no_window (x ∷ y ∷ z ∷ t ∷ xs) e = false≢true e

over_booleans : (o : Operator) (xs : List Operand) → is_over_formulas o ≡ true → is_boolean (kind_in (kind_given o xs)) ≡ true → all_booleans xs ≡ true
over_booleans operator.Not [] v e = absurd (false≢true e)
over_booleans operator.Not (x ∷ []) v e = both_true _ _ (not_boolean x.kind e) refl
over_booleans operator.Not (x ∷ y ∷ xs) v e = absurd (false≢true e)
over_booleans (operator.Logic o) [] v e = absurd (false≢true e)
over_booleans (operator.Logic o) (x ∷ []) v e = absurd (false≢true e)
over_booleans (operator.Logic o) (x ∷ y ∷ []) v e = let p = logic_boolean x.kind y.kind e in both_true _ _ p.0 (both_true _ _ p.1 refl)
over_booleans (operator.Logic o) (x ∷ y ∷ z ∷ xs) v e = absurd (false≢true e)
over_booleans (operator.Temporal o) xs v e = counted_booleans (operands_of_temporal o) xs e
over_booleans (operator.Bounded o low high) xs v e = counted_booleans 1 xs (bounded_kept low high (given (booleans 1 xs)) e)
over_booleans (operator.Window o) xs v e = absurd (no_window xs e)
over_booleans other xs v e = absurd (false≢true v)

-- No operand is a bound that stays as it is written where the operator is not temporal, and where it gives a boolean.

timeless_bound : (o : Operator) (k : ℕ) → is_temporal o ≡ false → is_bound o k ≡ false
timeless_bound (operator.Window o) k e = absurd (false≢true (sym e))
timeless_bound other k e = refl

boolean_bound : (o : Operator) (xs : List Operand) (k : ℕ) → is_boolean (kind_in (kind_given o xs)) ≡ true → is_bound o k ≡ false
boolean_bound (operator.Window o) xs k e = absurd (no_window xs e)
boolean_bound other xs k e = refl

judged_free : (b : Bool) (x : Option Refusal) → b ≡ false → cond b None x ≡ None → x ≡ None
judged_free true x f e = absurd (false≢true (sym f))
judged_free false x f e = e

module _ (p : Program) (typed : list_all is_type (types_of p) ≡ true) where
  abbrev S : List Slot
  S = slots_of p

  abbrev T : List ValueType
  T = types_of p

  -- what is there where an expression stands: a state, and inputs and a next state where the context has them
  record Serves (c : Context) (s u t : List Value) : Type 0 where
    pub state : is_state p s ≡ true
    pub inputs : c.input ≡ true → are_inputs p u ≡ true
    pub next : c.next ≡ true → is_state p t ≡ true

  below_name : (c : Context) (s u t : List Value) → Serves c s u t → Serves (under_name c) s u t
  below_name c s u t h = record { state = h.state; inputs = h.inputs; next = λ e. absurd (false≢true e) }

  below_element : (c : Context) (s u t : List Value) → Serves c s u t → Serves (under_element c) s u t
  below_element c s u t h = record { state = h.state; inputs = λ e. h.inputs e; next = λ e. h.next e }

  below_operand : (o : Operator) (k : ℕ) (c : Context) (s u t : List Value) → Serves c s u t → Serves (under_operand o k c) s u t
  below_operand o k c s u t h = record { state = h.state; inputs = λ e. h.inputs e; next = λ e. h.next e }

  alone : (set : Bool) (s : List Value) → is_state p s ≡ true → Serves (of_state set) s [] []
  alone set s e = record { state = e; inputs = λ f. absurd (false≢true f); next = λ f. absurd (false≢true f) }

  slot_known : (c : Context) (s u t : List Value) (place : Place) (n : ℕ) (o : Option Slot) → slice_get S n ≡ o → input_here c place (is_input_slot o) ≡ None →
      Serves c s u t → Known (of_kind (kind_of_slot T o)) (valued (given_to s u o))
  slot_known c s u t place n None is refused h = inr (refl, refl)
  slot_known c s u t place n (Some slot) is refused h =
      let free = refused_if (is_input slot.kind && not c.input) _ refused in
      let v = slot_value p s u slot typed n is h.state (λ e. h.inputs (not_both (is_input slot.kind) c.input e free)) in
      let k = kind_of_slot T (Some slot) in
      let P : Option Value → Type 0 = λ o. Known (of_kind k) (valued o) in
      subst P (sym v.1) (inl (record { fits = one_fits k v.0 v.2; constant = λ z e. none_some z e }))

  -- where no temporal operator may stand, none stands under an operator or is one
  stays_plain : (a b : Bool) → a ≡ false → (a && b) ≡ false
  stays_plain a b e = rw e refl

  untimely : (a b : Bool) (r : Refusal) → a ≡ false → cond a None (cond b (Some r) None) ≡ None → b ≡ false
  untimely true b r e free = absurd (let never : ⊥ = cc in never)
  untimely false b r e free = refused_if b r free

  not_temporal : (c : Context) (place : Place) (o : Operator) → c.temporal ≡ false → temporal_here c place o ≡ None → is_temporal o ≡ false
  not_temporal c place o plain free = untimely c.temporal (is_temporal o) _ plain free

  next_known : (place : Place) (x : Operand) (o : Evaluation) → next_broken place (next_kind x.kind) ≡ None → Known x o → Known (of_kind (kind_in (next_kind x.kind))) o
  next_known place x o free h =
      let g = next_given place (next_kind x.kind) free in
      let has = value_known x o (next_valued x.kind g.0 g.1) h in
      let same : x.kind ≡ kind_in (next_kind x.kind) = next_is_same x.kind g.0 g.1 ∙ sym (ap kind_in g.1) in
      let P : Kind → Type 0 = λ k. Fits k o in
      inl (record { fits = subst P same has.fits; constant = λ z e. none_some z e })

  apply_known : (c : Context) (place : Place) (o : Operator) (cs : Option (ℤ × ℤ)) (xs : List Operand) (os : List Evaluation) → is_temporal o ≡ false → kinds_broken place o cs (kind_in_context c.set o xs) ≡ None →
      AllKnown xs os →
      Known (record { kind = kind_in (kind_given o xs); constant = constant_given o xs }) (applied o place os)
  apply_known c place o cs xs os plain free h = elim (cases_Bool (makes_array o)) [
    | inl array ↦ inr (array_unvalued o xs array, array_unset o xs array)
    | inr other ↦
        let g = kinds_given place o cs (kind_in_context c.set o xs) free in
        let is : kind_given o xs ≡ Ok g.0 = in_context (not c.set && makes_set o) (kind_given o xs) g.0 g.1 in
        let P : Kind → Type 0 = λ k. Fits k (applied o place os) in
        inl (record {
          fits = subst P (sym (ap kind_in is)) (applied_fits o place xs os g.0 plain other h is);
          constant = λ z e. constant_fits o place xs os z h e;
        })
  ]

  mutual
    -- an expression that breaks no rule where no temporal operator may stand gives values of its kind, or faults
    known : (r : Resolved) (c : Context) (s u t : List Value) → c.temporal ≡ false → kind_refusal S T c r ≡ None → Serves c s u t → Known (told S T r) (outcome S s u t r)
    known (Resolved.Constant place v) c s u t plain e h =
        let is = refused_unless (is_value v) _ e in
        inl (record { fits = one_fits (kind_of_value v) v (value_has_kind v is); constant = constant_told v })
    known (Resolved.Slot place n) c s u t plain e h = slot_known c s u t place n (slice_get S n) refl e h
    known (Resolved.Whole place i) c s u t plain e h = inr (refl, refl)
    known (Resolved.Named place naming.Given r) c s u t plain e h = known r (under_name c) s u t refl e (below_name c s u t h)
    known (Resolved.Named place naming.Element r) c s u t plain e h = known r (under_element c) s u t refl e (below_element c s u t h)
    known (Resolved.Named place naming.Passed r) c s u t plain e h = known r (under_name c) s u t refl e (below_name c s u t h)
    known (Resolved.Named place (naming.Array name first) r) c s u t plain e h =
        known r (under_element c) s u t refl (second_none (input_here c name (is_input_slot (slice_get S first))) _ e) (below_element c s u t h)
    known (Resolved.Named place naming.Defined r) c s u t plain e h = known r (under_name c) s u t refl (first_none (kind_refusal S T (under_name c) r) _ e) (below_name c s u t h)
    known (Resolved.Next place r) c s u t plain e h =
        let inner = kind_refusal S T (under_next c) r in
        let own = second_none inner _ e in
        let free = refused_unless c.next _ (first_none (next_here c place) _ own) in
        next_known place (told S T r) (outcome S t [] [] r) (second_none (next_here c place) _ own)
        (known r (under_next c) t [] [] refl (first_none inner _ e) (alone c.set t (h.next free)))
    known (Resolved.Apply place o rs) c s u t plain e h =
        let inner = operands_refusal S T o 0 c rs in
        let own = second_none inner _ e in
        let timeless = not_temporal c place o plain (first_none (temporal_here c place o) _ own) in
        apply_known c place o (written_bounds (constants_of rs)) (all_told S T rs) (outcomes S s u t rs) timeless (second_none (temporal_here c place o) _ own)
        (knowns rs o 0 c s u t plain (λ k. timeless_bound o k timeless) (first_none inner _ e) h)
    known Resolved.Stuck c s u t plain e h = inr (refl, refl)

    knowns : (rs : Operands) (o : Operator) (k : ℕ) (c : Context) (s u t : List Value) → c.temporal ≡ false → ((j : ℕ) → is_bound o j ≡ false) → operands_refusal S T o k c rs ≡ None →
        Serves c s u t → AllKnown (all_told S T rs) (outcomes S s u t rs)
    knowns Operands.End o k c s u t plain free e h = tt
    knowns (Operands.With r rs) o k c s u t plain free e h =
        let here = kind_refusal S T (under_operand o k c) r in (
          known r (under_operand o k c) s u t (stays_plain c.temporal (is_over_formulas o) plain) (judged_free (is_bound o k) here (free k) (first_none (unless_bound o k here) _ e)) (below_operand o k c s u t h),
          knowns rs o (k + 1) c s u t plain free (second_none (unless_bound o k here) _ e) h,
        )

  -- Temporal formulas: what stands under propositions and temporal operators is TRUE, FALSE or a fault.

  in_name : (s u : List Value) → Serves of_path s u [] → Serves (of_name false) s u []
  in_name s u h = record { state = h.state; inputs = h.inputs; next = λ e. absurd (false≢true e) }

  abbrev inside : Bool → Bool → Context
  inside temporal set = record { next = false; input = true; temporal = temporal; set = set }

  -- under an operator that is no proposition a path is as what a name stands for
  plain_operands : (rs : Operands) (o : Operator) (k : ℕ) → is_over_formulas o ≡ false → operands_refusal S T o k of_path rs ≡ operands_refusal S T o k (of_name false) rs
  plain_operands Operands.End o k over = refl
  plain_operands (Operands.With r rs) o k over =
      let here : kind_refusal S T (under_operand o k of_path) r ≡ kind_refusal S T (under_operand o k (of_name false)) r =
      ap (λ b. kind_refusal S T (inside b (takes_sets o k false)) r) over in
      ap (λ x. or_else (unless_bound o k x) (operands_refusal S T o (k + 1) of_path rs)) here
      ∙ ap (or_else (unless_bound o k (kind_refusal S T (under_operand o k (of_name false)) r))) (plain_operands rs o (k + 1) over)

  path_operand : (r : Resolved) (o : Operator) (k : ℕ) → is_over_formulas o ≡ true → kind_refusal S T (under_operand o k of_path) r ≡ kind_refusal S T of_path r
  path_operand r o k over =
      ap (λ b. kind_refusal S T (inside b (takes_sets o k false)) r) over ∙ ap (λ b. kind_refusal S T (inside true b) r) (over_no_sets o k over)

  -- a part where no temporal operator may stand
  plain_part : (r : Resolved) (s u : List Value) → kind_refusal S T (of_name false) r ≡ None → is_boolean (told S T r).kind ≡ true → Serves of_path s u [] → is_known (outcome S s u [] r) ≡ true
  plain_part r s u e b h = operand_known (told S T r) (outcome S s u [] r) b (known r (of_name false) s u [] refl e (in_name s u h))

  neither : (a b : Bool) → (a || b) ≡ false → b ≡ false
  neither true b e = absurd (false≢true (sym e))
  neither false b e = e

  mutual
    formula_parts : (r : Resolved) (s u : List Value) → kind_refusal S T of_path r ≡ None → is_boolean (told S T r).kind ≡ true → Serves of_path s u [] → is_known_formula S s u r ≡ true
    formula_parts (Resolved.Constant place v) s u e b h = plain_part (Resolved.Constant place v) s u e b h
    formula_parts (Resolved.Slot place n) s u e b h = plain_part (Resolved.Slot place n) s u e b h
    formula_parts (Resolved.Whole place i) s u e b h = absurd (false≢true b)
    formula_parts (Resolved.Named place naming.Given r) s u e b h = plain_part r s u e b h
    formula_parts (Resolved.Named place naming.Element r) s u e b h = plain_part r s u e b h
    formula_parts (Resolved.Named place naming.Passed r) s u e b h = plain_part r s u e b h
    formula_parts (Resolved.Named place (naming.Array name first) r) s u e b h =
        plain_part r s u (second_none (input_here of_path name (is_input_slot (slice_get S first))) _ e) b h
    formula_parts (Resolved.Named place naming.Defined r) s u e b h = plain_part r s u (first_none (kind_refusal S T (of_name false) r) _ e) b h
    formula_parts (Resolved.Next place r) s u e b h =
        let broken = next_broken place (next_kind (told S T r).kind) in
        let own = second_none (kind_refusal S T (under_next of_path) r) (or_else (next_here of_path place) broken) e in
        let free : next_here of_path place ≡ None = first_none (next_here of_path place) broken own in
        absurd (let never : ⊥ = cc in never)
    formula_parts (Resolved.Apply place o rs) s u e b h = elim (cases_Bool (is_over_formulas o)) [
      | inl over ↦
          let operands = first_none (operands_refusal S T o 0 of_path rs) _ e in
          rw over (formulas_parts rs o 0 over (λ k. boolean_bound o (all_told S T rs) k b) s u operands (over_booleans o (all_told S T rs) over b) h)
      | inr plain ↦
          let inner = operands_refusal S T o 0 of_path rs in
          let operands : operands_refusal S T o 0 (of_name false) rs ≡ None = sym (plain_operands rs o 0 plain) ∙ first_none inner _ e in
          let here : temporal_at place o ≡ None = rw (neither (is_propositional o) (is_temporal o) plain) refl in
          let own = second_none inner _ e in
          let all = none_of_both (operands_refusal S T o 0 (of_name false) rs) _ operands (none_of_both (temporal_at place o) _ here own) in
          rw plain (plain_part (Resolved.Apply place o rs) s u all b h)
    ]
    formula_parts Resolved.Stuck s u e b h = absurd (false≢true b)

    formulas_parts : (rs : Operands) (o : Operator) (k : ℕ) → is_over_formulas o ≡ true → ((j : ℕ) → is_bound o j ≡ false) → (s u : List Value) → operands_refusal S T o k of_path rs ≡ None →
        all_booleans (all_told S T rs) ≡ true → Serves of_path s u [] → are_known_formulas S s u rs ≡ true
    formulas_parts Operands.End o k over free s u e b h = refl
    formulas_parts (Operands.With r rs) o k over free s u e b h =
        let q = and_parts (is_boolean (told S T r).kind) (all_booleans (all_told S T rs)) b in
        let inner = kind_refusal S T (under_operand o k of_path) r in
        let here = sym (path_operand r o k over) ∙ judged_free (is_bound o k) inner (free k) (first_none (unless_bound o k inner) _ e) in
        both_true (is_known_formula S s u r) (are_known_formulas S s u rs) (formula_parts r s u here q.0 h)
        (formulas_parts rs o (k + 1) over free s u (second_none (unless_bound o k inner) _ e) q.1 h)

  -- what is assigned has one value
  state_slot : (which : AssignmentKind) (k : VariableKind) → takes_assignment which k ≡ true → is_input k ≡ true → ⊥
  state_slot which sort.State e i = false≢true i
  state_slot which sort.Input e i = false≢true e
  state_slot which sort.Frozen e i = false≢true i

  slot_single : (which : AssignmentKind) (s : List Value) (n : ℕ) (o : Option Slot) → slice_get S n ≡ o → slot_takes which o ≡ true → is_state p s ≡ true → has_one (valued (given_to s [] o)) ≡ true
  slot_single which s n None is takes state = absurd (false≢true takes)
  slot_single which s n (Some slot) is takes state =
      let v = slot_value p s [] slot typed n is state (λ e. absurd (state_slot which slot.kind takes e)) in
      ap (λ o. has_one (valued o)) v.1

  -- of what operators give an array alone may be assigned, which has no values
  array_assigned : (place : Place) (o : Operator) (rs : Operands) (which : AssignmentKind) → makes_array o ≡ false → is_assignable S which (Resolved.Apply place o rs) ≡ false
  array_assigned place operator.Index rs which e = absurd (false≢true (sym e))
  array_assigned place operator.WholeArray rs which e = absurd (false≢true (sym e))
  array_assigned place other rs which e = refl

  target_single : (r : Resolved) (which : AssignmentKind) (s : List Value) → is_assignable S which r ≡ true → has_values (told S T r).kind ≡ true → is_state p s ≡ true → has_one (outcome_in S s r) ≡ true
  target_single (Resolved.Constant place v) which s takes valued state = absurd (false≢true takes)
  target_single (Resolved.Slot place n) which s takes valued state = slot_single which s n (slice_get S n) refl takes state
  target_single (Resolved.Whole place i) which s takes valued state = absurd (false≢true valued)
  target_single (Resolved.Named place naming.Given r) which s takes valued state = target_single r which s takes valued state
  target_single (Resolved.Named place naming.Defined r) which s takes valued state = absurd (false≢true takes)
  target_single (Resolved.Next place r) which s takes valued state = absurd (false≢true takes)
  target_single (Resolved.Named place naming.Element r) which s takes valued state = target_single r which s takes valued state
  target_single (Resolved.Named place (naming.Array name first) r) which s takes valued state = target_single r which s takes valued state
  target_single (Resolved.Named place naming.Passed r) which s takes valued state = absurd (false≢true takes)
  target_single (Resolved.Apply place o rs) which s takes valued state = elim (cases_Bool (makes_array o)) [
    | inl array ↦ absurd (true_false (has_values (kind_in (kind_given o (all_told S T rs)))) valued (array_unvalued o (all_told S T rs) array))
    | inr other ↦ absurd (false≢true (sym (array_assigned place o rs which other) ∙ takes))
  ]
  target_single Resolved.Stuck which s takes valued state = absurd (false≢true takes)

  side_plain : (which : AssignmentKind) → (context_of_side which).temporal ≡ false
  side_plain side.Init = refl
  side_plain side.Next = refl
  side_plain side.Current = refl

  -- what is assigned, and its value where it stands in this context
  module _ (place : Place) (which : AssignmentKind) (target e : Resolved) (free : assignment_refusal S T place which (Some target) e ≡ None) where
    abbrev value_refusal : Option Refusal
    value_refusal = kind_refusal S T (context_of_side which) e

    abbrev taker : Option Refusal
    taker = no_taker place (told S T target).kind (told S T e).kind

    later : or_else value_refusal taker ≡ None
    later = second_none (left_refusal S T place which target) (or_else value_refusal taker) free

    left_free : or_else (target_refusal S place which target) (no_value place (told S T target).kind) ≡ None
    left_free = second_none (inner_refusal S T target) _ (first_none (left_refusal S T place which target) (or_else value_refusal taker) free)

    target_has_one : (s : List Value) → is_state p s ≡ true → has_one (outcome_in S s target) ≡ true
    target_has_one s state =
        let takes = refused_unless (is_assignable S which target) _ (first_none (target_refusal S place which target) _ left_free) in
        let valued = refused_unless (has_values (told S T target).kind) _ (second_none (target_refusal S place which target) _ left_free) in
        target_single target which s takes valued state

    value_is_given : (s u t : List Value) → Serves (context_of_side which) s u t → is_given (outcome S s u t e) ≡ true
    value_is_given s u t h =
        let takes = refused_unless (takes (told S T target).kind (told S T e).kind) _ (second_none value_refusal taker later) in
        let valued = (takes_parts (told S T target).kind (told S T e).kind takes).1 in
        let all = known e (context_of_side which) s u t (side_plain which) (first_none value_refusal taker later) h in
        fits_given (told S T e).kind (outcome S s u t e) ((value_known (told S T e) (outcome S s u t e) valued all).fits)

  formula_known : (c : Context) (e : Resolved) (s u t : List Value) → c.temporal ≡ false → formula_refusal S T c e ≡ None → Serves c s u t → is_known (outcome S s u t e) ≡ true
  formula_known c e s u t plain free h =
      let root = none_at_root (is_window e) (place_of e) (told S T e).kind (kind_refusal S T c e) free in
      operand_known (told S T e) (outcome S s u t e) root.1 (known e c s u t plain root.0 h)

  module _ (s u t : List Value) (state : is_state p s ≡ true) (inputs : are_inputs p u ≡ true) (next : is_state p t ≡ true) where
    in_step : (set : Bool) → Serves (of_step set) s u t
    in_step set = record { state = state; inputs = λ e. inputs; next = λ e. next }

    by_kind : (place : Place) (target : Option Resolved) (e : Resolved) (kind : ItemKind) → refusal_by_kind S T place target e kind ≡ None → is_known_by S s u t target e kind ≡ true
    by_kind place None e (item.Assignment which) free = absurd (let never : ⊥ = cc in never)
    by_kind place (Some target) e (item.Assignment side.Init) free =
        both_true _ _ (target_has_one place side.Init target e free s state) (value_is_given place side.Init target e free s [] [] (alone true s state))
    by_kind place (Some target) e (item.Assignment side.Next) free =
        both_true _ _ (target_has_one place side.Next target e free s state) (value_is_given place side.Next target e free s u t (in_step true))
    by_kind place (Some target) e (item.Assignment side.Current) free =
        both_true _ _ (target_has_one place side.Current target e free s state) (value_is_given place side.Current target e free s [] [] (alone true s state))
    by_kind place target e (item.Constraint asked.Init) free = formula_known (of_state false) e s [] [] refl free (alone false s state)
    by_kind place target e (item.Constraint asked.Invar) free = formula_known (of_state false) e s [] [] refl free (alone false s state)
    by_kind place target e (item.Constraint asked.Trans) free = formula_known (of_step false) e s u t refl free (in_step false)
    by_kind place target e (item.Constraint asked.Justice) free = formula_known (of_state false) e s [] [] refl free (alone false s state)
    by_kind place target e (item.Specification claim.Invariant) free = formula_known (of_state false) e s [] [] refl free (alone false s state)
    by_kind place target e (item.Specification claim.Temporal) free =
        let root = none_at_root (is_window e) (place_of e) (told S T e).kind (kind_refusal S T of_path e) free in
        formula_parts e s u root.0 root.1
        (record { state = state; inputs = λ x. inputs; next = λ x. absurd (false≢true x) })

    items_known : (xs : List ResolvedItem) → first_of (item_refusal S T) xs ≡ None → list_all (is_known_item S s u t) xs ≡ true
    items_known [] free = refl
    items_known (x ∷ xs) free =
        both_true _ _ (by_kind x.place x.target x.value x.kind (first_none (item_refusal S T x) _ free)) (items_known xs (second_none (item_refusal S T x) _ free))

-- no rule of types and kinds is broken, so all is known
pub all_known : (p : Program) → declared_refusal p ≡ None → misused p ≡ None → AllItemsKnown p
all_known p declared used s u t state inputs next = items_known p (types_kept p declared) s u t state inputs next (items_of p) used
