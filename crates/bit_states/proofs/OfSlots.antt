-- Slots and their types.
use Rattle.std.proofs.Common.{◌≡◌, ℕ, zero, suc, ◌<◌, ◌==◌, Bool, true, false, ◌&&◌, cond, List, [], ◌∷◌, length, map, refl, sym, ap, arith}
use Rattle.std.specs.Prelude.{Option, None, Some, slice_get, unwrap_or}
use Rattle.std.specs.List.{filter, list_all, zip}
use Rattle.std.specs.Option.{is_some}
use Rattle.std.proofs.lemmas.Bool.{and_parts}
use Rattle.std.proofs.lemmas.List.{length-map}
use Rattle.std.proofs.lemmas.Option.{slice_get_within, slice_get-get_or}
use Rattle.smv_tree.specs.declared.tree.Program.{Program}
use Rattle.smv_value.specs.declared.value.Value.{Value}
use Rattle.value_types.specs.declared.value_type.ValueType.{ValueType}
use Rattle.value_types.specs.declared.value_type.ValueType.TheVariants as type
use Rattle.value_types.specs.Types.{is_of_type, is_type}
use Rattle.smv_slots.specs.declared.slot.Slot.{Slot}
use Rattle.smv_slots.specs.Slots.{slots_of}
use Rattle.smv_slots.specs.Slots.{types_of}
use Rattle.smv_slots.proofs.Counted.{counted, numbered}
use Rattle.smv_meaning.specs.Runs.{fits, in_type}
use Rattle.bit_states.specs.Layouts.{type_of_slot}
use Rattle.bit_states.proofs.OfValues.{are_of, are_types}

from_each : {A : Type 0} (test : A → Bool) (xs : List A) → ((k : ℕ) (x : A) → slice_get xs k ≡ Some x → test x ≡ true) → list_all test xs ≡ true
from_each test [] each = refl
from_each test (x ∷ xs) each = rw (each 0 x refl) (from_each test xs (λ k y. each (suc k) y))

kept_all : {A : Type 0} (test : A → Bool) (x : A) (xs : List A) (b : Bool) → test x ≡ true → list_all test xs ≡ true → list_all test (cond b (x ∷ xs) xs) ≡ true
kept_all test x xs true one h = rw one h
kept_all test x xs false one h = h

-- what is so of all is so of some
filtered : {A : Type 0} (test keep : A → Bool) (xs : List A) → list_all test xs ≡ true → list_all test (filter keep xs) ≡ true
filtered test keep [] h = refl
filtered test keep (x ∷ xs) h =
    let both = and_parts (test x) (list_all test xs) h in
    kept_all test x (filter keep xs) (keep x) both.0 (filtered test keep xs both.1)

-- each slot has a type

abbrev pub have_types : List ValueType → List Slot → Bool
have_types types slots = list_all (λ (slot : Slot). is_some (slice_get types slot.declared)) slots

is_there : (types : List ValueType) (n : ℕ) → n < length types → is_some (slice_get types n) ≡ true
is_there types n l = ap is_some (slice_get-get_or types n type.Boolean l)

pub slots_typed : (p : Program) (keep : Slot → Bool) → have_types (types_of p) (filter keep (slots_of p)) ≡ true
slots_typed p keep =
    filtered (λ (slot : Slot). is_some (slice_get (types_of p) slot.declared)) keep (slots_of p)
    (from_each (λ (slot : Slot). is_some (slice_get (types_of p) slot.declared)) (slots_of p) (λ k slot e.
    let n : slot.declared ≡ k = numbered p k slot e in
    let within : k < length (slots_of p) = slice_get_within (slots_of p) k slot e in
    let long : length (types_of p) ≡ length (slots_of p) = counted p in
    is_there (types_of p) slot.declared (omega (arith, n, within, long))))

-- their types are types

type_in : (types : List ValueType) (n : ℕ) → are_types types ≡ true → is_type (unwrap_or (slice_get types n) type.Boolean) ≡ true
type_in [] n h = refl
type_in (t ∷ types) zero h = (and_parts (is_type t) (are_types types) h).0
type_in (t ∷ types) (suc n) h = type_in types n (and_parts (is_type t) (are_types types) h).1

pub slot_types : (types : List ValueType) (slots : List Slot) → are_types types ≡ true → are_types (map (type_of_slot types) slots) ≡ true
slot_types types [] h = refl
slot_types types (slot ∷ slots) h = rw (type_in types slot.declared h) (slot_types types slots h)

-- values fit slots just where each is of its slot's type

one_fits : (o : Option ValueType) (v : Value) → is_some o ≡ true → in_type o v ≡ is_of_type v (unwrap_or o type.Boolean)
one_fits None v h = absurd cc
one_fits (Some t) v h = refl

all_fit : (types : List ValueType) (slots : List Slot) (s : List Value) → have_types types slots ≡ true →
    list_all (λ (pair : Slot × Value). in_type (slice_get types pair.0.declared) pair.1) (zip slots s) ≡ are_of (map (type_of_slot types) slots) s
all_fit types [] s h = refl
all_fit types (slot ∷ slots) [] h = refl
all_fit types (slot ∷ slots) (v ∷ s) h =
    let both = and_parts (is_some (slice_get types slot.declared)) (have_types types slots) h in
    λ i. one_fits (slice_get types slot.declared) v both.0 i && all_fit types slots s both.1 i

pub fits_are : (types : List ValueType) (slots : List Slot) (s : List Value) → have_types types slots ≡ true →
    fits types slots s ≡ ((length (map (type_of_slot types) slots) == length s) && are_of (map (type_of_slot types) slots) s)
fits_are types slots s h = λ i. (sym (length-map slots (type_of_slot types)) i == length s) && all_fit types slots s h i
