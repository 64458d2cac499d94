-- Each slot of a program has a value of its type in each state, or among the inputs of each step.
use Rattle.std.proofs.Common.{◌≡◌, ◌∙◌, ℕ, zero, suc, ◌+◌, Bool, true, false, not, ◌&&◌, ◌||◌, cond, ◌==◌, List, [], ◌∷◌, length, filter, Option, None, Some, slice_get, ℤ, refl, sym, ap, subst, arith}
use Rattle.std.specs.Prelude.{int_le}
use Rattle.std.specs.List.{flat_map, list_all, list_any, zip}
use Rattle.std.proofs.lemmas.Bool.{and_parts, and_from, eqb-true, false≢true}
use Rattle.std.proofs.lemmas.Option.{slice_get_within}
use Rattle.smv_tree.specs.declared.tree.Program.{Program}
use Rattle.smv_value.specs.declared.value.Value.{Value}
use Rattle.smv_value.specs.declared.value.Value.TheVariants as value
use Rattle.smv_value.specs.Results.{alike, is_int, is_value, is_word}
use Rattle.value_types.specs.declared.interval.Interval.{Interval as Span}
use Rattle.value_types.specs.declared.value_type.Element.{Element}
use Rattle.value_types.specs.declared.value_type.Element.TheVariants as element
use Rattle.value_types.specs.declared.value_type.ValueType.{ValueType}
use Rattle.value_types.specs.declared.value_type.ValueType.TheVariants as type
use Rattle.value_types.specs.Intervals.{interval_of, is_in as is_in_span}
use Rattle.value_types.specs.Types.{element_value, is_distinct, is_element, is_of_type, is_type}
use Rattle.value_types.proofs.Elements.{element_is}
use Rattle.value_types.proofs.Hulls.{in_interval}
use Rattle.value_types.proofs.Ranges.{within_int}
use Rattle.smv_kind_laws.specs.Values.{is_in_some, is_of_kind}
use Rattle.smv_slots.specs.declared.slot.Slot.{Slot}
use Rattle.smv_declared.specs.Types.{variable_types_of}
use Rattle.smv_slots.specs.Slots.{elements_of, given_to, holders_of, indexed, is_input, slots_of, types_of}
use Rattle.smv_meaning.specs.Runs.{are_inputs, fits, in_type, input_slots, is_state, state_slots}
use Rattle.smv_types.specs.Kinds.{interval_with, is_symbol, kind_of_slot, kind_of_some, kind_of_type}

-- values of types are of their kinds

swapped : (a b : Bool) → (a && b) ≡ true → (b && a) ≡ true
swapped a b e = let p = and_parts a b e in rw (p.1, p.0) refl

in_span : (z : ℤ) (i : Option Span) → is_in_span z i ≡ true → is_in_some (interval_with i) z ≡ true
in_span z None e = e
in_span z (Some i) e = e

symbol_there : (n : ℕ) (es : List Element) → list_any (is_element (value.Sym n)) es ≡ true → list_any is_symbol es ≡ true
symbol_there n [] e = e
symbol_there n (element.Int z ∷ es) e = symbol_there n es e
symbol_there n (element.Sym m ∷ es) e = refl

value_there : (v : Value) (es : List Element) → list_any (is_element v) es ≡ true → list_all (λ e. is_value (element_value e)) es ≡ true → is_value v ≡ true
value_there v [] e h = absurd (false≢true e)
value_there v (x ∷ es) e h =
    let p = and_parts (is_value (element_value x)) (list_all (λ y. is_value (element_value y)) es) h in
    by (is_element v x) refl e p.0 (λ f. value_there v es f p.1)
  where
    by : (b : Bool) → is_element v x ≡ b → (b || list_any (is_element v) es) ≡ true → is_value (element_value x) ≡ true → (list_any (is_element v) es ≡ true → is_value v ≡ true) → is_value v ≡ true
    by true i f here later = ap is_value (element_is v x i) ∙ here
    by false i f here later = later f

no_such : (v : Value) (es : List Element) → ((e : Element) → is_element v e ≡ false) → list_any (is_element v) es ≡ true → ⊥
no_such v [] never e = false≢true e
no_such v (x ∷ es) never e = no_such v es never (ap (λ b. b || list_any (is_element v) es) (sym (never x)) ∙ e)

no_boolean_element : (b : Bool) (e : Element) → is_element (value.Bool b) e ≡ false
no_boolean_element b (element.Int z) = refl
no_boolean_element b (element.Sym n) = refl

no_word_element : (s : Bool) (w a : ℕ) (e : Element) → is_element (value.Word s w a) e ≡ false
no_word_element s w a (element.Int z) = refl
no_word_element s w a (element.Sym n) = refl

pub type_kind : (t : ValueType) (v : Value) → is_type t ≡ true → is_of_type v t ≡ true → is_of_kind (kind_of_type t) v ≡ true
type_kind type.Boolean (value.Bool b) i e = refl
type_kind type.Boolean (value.Int z) i e = absurd (false≢true e)
type_kind type.Boolean (value.Sym n) i e = absurd (false≢true e)
type_kind type.Boolean (value.Word s w a) i e = absurd (false≢true e)
type_kind (type.Word signed width) (value.Bool b) i e = absurd (false≢true e)
type_kind (type.Word signed width) (value.Int z) i e = absurd (false≢true e)
type_kind (type.Word signed width) (value.Sym n) i e = absurd (false≢true e)
type_kind (type.Word signed width) (value.Word s w a) i e = swapped (alike signed width s w) (is_word w a) e
type_kind (type.Range low high) (value.Bool b) i e = absurd (false≢true e)
type_kind (type.Range low high) (value.Int z) i e =
    let bounds = and_parts (is_int low && is_int high) (int_le low high) i in
    let ends = and_parts (is_int low) (is_int high) bounds.0 in
    let inside = and_parts (int_le low z) (int_le z high) e in
    and_from (is_int z) (int_le low z && int_le z high) (within_int low high z ends.0 ends.1 inside.0 inside.1) e
type_kind (type.Range low high) (value.Sym n) i e = absurd (false≢true e)
type_kind (type.Range low high) (value.Word s w a) i e = absurd (false≢true e)
type_kind (type.Enumeration es) (value.Bool b) i e = absurd (no_such (value.Bool b) es (no_boolean_element b) e)
type_kind (type.Enumeration es) (value.Int z) i e =
    let kept = and_parts (is_distinct es) (list_all (λ x. is_value (element_value x)) es) i in
    and_from (is_int z) (is_in_some (interval_with (interval_of (type.Enumeration es))) z) (value_there (value.Int z) es e kept.1)
    (in_span z (interval_of (type.Enumeration es)) (in_interval (type.Enumeration es) z e))
type_kind (type.Enumeration es) (value.Sym n) i e = symbol_there n es e
type_kind (type.Enumeration es) (value.Word s w a) i e = absurd (no_such (value.Word s w a) es (no_word_element s w a) e)

-- the value of a slot, among values that fit slots

taken_type : (types : List ValueType) (slots : List Slot) (s : List Value) (i : ℕ) (slot : Slot) → length slots ≡ length s →
    list_all (λ (pair : Slot × Value). in_type (slice_get types pair.0.declared) pair.1) (zip slots s) ≡ true → slice_get slots i ≡ Some slot →
    (v : Value) × (slice_get s i ≡ Some v) × (in_type (slice_get types slot.declared) v ≡ true)
taken_type types [] s i slot long typed e = absurd (let lt = slice_get_within [] i slot e in let never : ⊥ = omega (arith, lt) in never)
taken_type types (x ∷ slots) [] i slot long typed e = absurd (omega (arith, long))
taken_type types (x ∷ slots) (v ∷ s) zero slot long typed e =
    let here = and_parts (in_type (slice_get types x.declared) v) _ typed in
    let is : x ≡ slot = cc in
    let P : Slot → Type 0 = λ y. in_type (slice_get types y.declared) v ≡ true in
    (v, refl, subst P is here.0)
taken_type types (x ∷ slots) (v ∷ s) (suc i) slot long typed e =
    taken_type types slots s i slot (omega (arith, long)) ((and_parts (in_type (slice_get types x.declared) v) _ typed).1) e

fitting_value : (types : List ValueType) (slots : List Slot) (s : List Value) (i : ℕ) (slot : Slot) → fits types slots s ≡ true → slice_get slots i ≡ Some slot →
    (v : Value) × (slice_get s i ≡ Some v) × (in_type (slice_get types slot.declared) v ≡ true)
fitting_value types slots s i slot h e =
    let p = and_parts (length slots == length s) _ h in
    taken_type types slots s i slot (eqb-true (length slots) (length s) p.0) p.1 e

-- a slot stands at its index among the inputs, or among the slots of the state, so many of which stand before these
record IsPlaced (held inputs : ℕ) (all : List Slot) (slot : Slot) : Type 0 where
  pub state : is_input slot.kind ≡ false → (k : ℕ) × (slot.index ≡ held + k) × (slice_get (state_slots all) k ≡ Some slot)
  pub input : is_input slot.kind ≡ true → (k : ℕ) × (slot.index ≡ inputs + k) × (slice_get (input_slots all) k ≡ Some slot)

clash : (b : Bool) → b ≡ true → b ≡ false → ⊥
clash b t f = false≢true (sym f ∙ t)

taken : (p : Slot → Bool) (x : Slot) (xs : List Slot) → p x ≡ true → filter p (x ∷ xs) ≡ x ∷ filter p xs
taken p x xs e = ap (λ b. cond b (x ∷ filter p xs) (filter p xs)) e

passed : (p : Slot → Bool) (x : Slot) (xs : List Slot) → p x ≡ false → filter p (x ∷ xs) ≡ filter p xs
passed p x xs e = ap (λ b. cond b (x ∷ filter p xs) (filter p xs)) e

module _ (held inputs : ℕ) (y : Slot) (rest : List Slot) (slot : Slot) where
  abbrev among : Slot → Bool
  among x = is_input x.kind

  abbrev held_slot : Slot → Bool
  held_slot x = not (is_input x.kind)

  first_input : is_input y.kind ≡ true → y.index ≡ inputs → y ≡ slot → IsPlaced held inputs (y ∷ rest) slot
  first_input is at same =
      let F : Slot → Type 0 = λ x. IsPlaced held inputs (y ∷ rest) x in
      subst F same (record {
        state = λ e. absurd (clash (is_input y.kind) is e);
        input = λ e. (0, omega (arith, at), ap (λ (xs : List Slot). slice_get xs 0) (taken among y rest is));
      })

  later_input : is_input y.kind ≡ true → IsPlaced held (inputs + 1) rest slot → IsPlaced held inputs (y ∷ rest) slot
  later_input is h = record {
    state = λ e. let p = h.state e in (p.0, p.1, ap (λ (xs : List Slot). slice_get xs p.0) (passed held_slot y rest (ap not is)) ∙ p.2);
    input = λ e. let p = h.input e in (suc p.0, omega (arith, p.1), ap (λ (xs : List Slot). slice_get xs (suc p.0)) (taken among y rest is) ∙ p.2);
  }

  first_held : is_input y.kind ≡ false → y.index ≡ held → y ≡ slot → IsPlaced held inputs (y ∷ rest) slot
  first_held is at same =
      let F : Slot → Type 0 = λ x. IsPlaced held inputs (y ∷ rest) x in
      subst F same (record {
        state = λ e. (0, omega (arith, at), ap (λ (xs : List Slot). slice_get xs 0) (taken held_slot y rest (ap not is)));
        input = λ e. absurd (clash (is_input y.kind) e is);
      })

  later_held : is_input y.kind ≡ false → IsPlaced (held + 1) inputs rest slot → IsPlaced held inputs (y ∷ rest) slot
  later_held is h = record {
    state = λ e. let p = h.state e in (suc p.0, omega (arith, p.1), ap (λ (xs : List Slot). slice_get xs (suc p.0)) (taken held_slot y rest (ap not is)) ∙ p.2);
    input = λ e. let p = h.input e in (p.0, p.1, ap (λ (xs : List Slot). slice_get xs p.0) (passed among y rest is) ∙ p.2);
  }

abbrev among_inputs : ℕ → ℕ → Slot → List Slot → List Slot
among_inputs held inputs x xs = record x { declared = held + inputs; index = inputs } ∷ indexed held (inputs + 1) xs

abbrev among_held : ℕ → ℕ → Slot → List Slot → List Slot
among_held held inputs x xs = record x { declared = held + inputs; index = held } ∷ indexed (held + 1) inputs xs

placed_step : (held inputs : ℕ) (x : Slot) (xs : List Slot) (slot : Slot)
    → ((k : ℕ) → slice_get (indexed held (inputs + 1) xs) k ≡ Some slot → IsPlaced held (inputs + 1) (indexed held (inputs + 1) xs) slot)
    → ((k : ℕ) → slice_get (indexed (held + 1) inputs xs) k ≡ Some slot → IsPlaced (held + 1) inputs (indexed (held + 1) inputs xs) slot)
    → (b : Bool) (n : ℕ) → is_input x.kind ≡ b → slice_get (cond b (among_inputs held inputs x xs) (among_held held inputs x xs)) n ≡ Some slot
    → IsPlaced held inputs (cond b (among_inputs held inputs x xs) (among_held held inputs x xs)) slot
placed_step held inputs x xs slot more_inputs more_held true zero is e =
    first_input held inputs (record x { declared = held + inputs; index = inputs }) (indexed held (inputs + 1) xs) slot is refl
    (let same : record x { declared = held + inputs; index = inputs } ≡ slot = cc in same)
placed_step held inputs x xs slot more_inputs more_held true (suc n) is e =
    later_input held inputs (record x { declared = held + inputs; index = inputs }) (indexed held (inputs + 1) xs) slot is (more_inputs n e)
placed_step held inputs x xs slot more_inputs more_held false zero is e =
    first_held held inputs (record x { declared = held + inputs; index = held }) (indexed (held + 1) inputs xs) slot is refl
    (let same : record x { declared = held + inputs; index = held } ≡ slot = cc in same)
placed_step held inputs x xs slot more_inputs more_held false (suc n) is e =
    later_held held inputs (record x { declared = held + inputs; index = held }) (indexed (held + 1) inputs xs) slot is (more_held n e)

is_placed : (held inputs : ℕ) (xs : List Slot) (n : ℕ) (slot : Slot) → slice_get (indexed held inputs xs) n ≡ Some slot → IsPlaced held inputs (indexed held inputs xs) slot
is_placed held inputs [] n slot e = absurd (let lt = slice_get_within [] n slot e in let never : ⊥ = omega (arith, lt) in never)
is_placed held inputs (x ∷ xs) n slot e =
    placed_step held inputs x xs slot (λ k f. is_placed held (inputs + 1) xs k slot f) (λ k f. is_placed (held + 1) inputs xs k slot f) (is_input x.kind) n refl e

-- of the kind of its type

all_types : (types : List ValueType) (n : ℕ) (t : ValueType) → list_all is_type types ≡ true → slice_get types n ≡ Some t → is_type t ≡ true
all_types [] n t h e = absurd (let lt = slice_get_within [] n t e in let never : ⊥ = omega (arith, lt) in never)
all_types (x ∷ types) zero t h e = let is : x ≡ t = cc in ap is_type (sym is) ∙ (and_parts (is_type x) (list_all is_type types) h).0
all_types (x ∷ types) (suc n) t h e = all_types types n t ((and_parts (is_type x) (list_all is_type types) h).1) e

typed_kind : (types : List ValueType) (n : ℕ) (v : Value) (o : Option ValueType) → slice_get types n ≡ o → list_all is_type types ≡ true → in_type o v ≡ true → is_of_kind (kind_of_some o) v ≡ true
typed_kind types n v None is h e = absurd (false≢true e)
typed_kind types n v (Some t) is h e = type_kind t v (all_types types n t h is) e

module _ (p : Program) (s u : List Value) (slot : Slot) (typed : list_all is_type (types_of p) ≡ true) where
  abbrev HasValue : Option Value → Type 0
  HasValue o = (v : Value) × (o ≡ Some v) × (is_of_kind (kind_of_slot (types_of p) (Some slot)) v ≡ true)

  of_fitting : (slots : List Slot) (held : List Value) (k : ℕ) → fits (types_of p) slots held ≡ true → slice_get slots k ≡ Some slot → HasValue (slice_get held k)
  of_fitting slots held k h e =
      let v = fitting_value (types_of p) slots held k slot h e in
      (v.0, v.1, typed_kind (types_of p) slot.declared v.0 (slice_get (types_of p) slot.declared) refl typed v.2)

  given_value : (b : Bool) → is_input slot.kind ≡ b → IsPlaced 0 0 (slots_of p) slot → is_state p s ≡ true → (is_input slot.kind ≡ true → are_inputs p u ≡ true) →
      HasValue (cond b (slice_get u slot.index) (slice_get s slot.index))
  given_value true is placed state inputs =
      let k = placed.input is in
      let at : slot.index ≡ k.0 = omega (arith, k.1) in
      let P : ℕ → Type 0 = λ n. HasValue (slice_get u n) in
      subst P (sym at) (of_fitting (input_slots (slots_of p)) u k.0 (inputs is) k.2)
  given_value false is placed state inputs =
      let k = placed.state is in
      let at : slot.index ≡ k.0 = omega (arith, k.1) in
      let P : ℕ → Type 0 = λ n. HasValue (slice_get s n) in
      subst P (sym at) (of_fitting (state_slots (slots_of p)) s k.0 state k.2)

  slot_placed : (n : ℕ) → slice_get (slots_of p) n ≡ Some slot → IsPlaced 0 0 (slots_of p) slot
  unfolding slots_of
  slot_placed n e = is_placed 0 0 (flat_map elements_of (zip (holders_of p) (variable_types_of p))) n slot e

  -- a slot of the program has a value of its kind in a state, or among the inputs
  pub slot_value : (n : ℕ) → slice_get (slots_of p) n ≡ Some slot → is_state p s ≡ true → (is_input slot.kind ≡ true → are_inputs p u ≡ true) → HasValue (given_to s u (Some slot))
  slot_value n e state inputs = given_value (is_input slot.kind) refl (slot_placed n e) state inputs
