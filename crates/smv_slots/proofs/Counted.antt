-- There is one type for each slot.
use Rattle.std.proofs.Common.{◌≡◌, ℕ, zero, suc, ◌+◌, Bool, true, false, cond, List, [], ◌∷◌, ◌++◌, length, Some, slice_get, refl, sym, ap, ◌∙◌, arith, length-append}
use Rattle.std.specs.List.{flat_map, zip}
use Rattle.std.proofs.lemmas.List.{length-replicate}
use Rattle.std.proofs.lemmas.List.Concat.{flat_map-append}
use Rattle.std.proofs.lemmas.List.FromFn.{length-map-range_with_len}
use Rattle.smv_tree.specs.declared.tree.Program.{Program}
use Rattle.smv_tree.specs.declared.tree.Section.{Section}
use Rattle.smv_tree.specs.declared.tree.Variable.{Variable}
use Rattle.smv_tree.specs.declared.tree.VariableKind.{VariableKind}
use Rattle.smv_scope.specs.declared.instance.Instance.{Instance}
use Rattle.smv_scope.specs.Modules.{sections_of, variables_in, variables_of}
use Rattle.smv_scope.specs.Instances.{instances_of}
use Rattle.smv_scope.specs.Holders.{holds}
use Rattle.smv_declared.specs.declared.variable_type.VariableType.{VariableType}
use Rattle.smv_declared.specs.Types.{size_of, types_below, types_in, variable_type, variable_types_of}
use Rattle.smv_declared.specs.Types as declared
use Rattle.smv_slots.specs.declared.slot.Holder.{Holder}
use Rattle.smv_slots.specs.declared.slot.Slot.{Slot}
use Rattle.smv_slots.specs.Slots.{element_at, elements_of, holders_below, holders_from, holders_of, holders_with, indexed, is_input, slot_types, slots_of, types_of, types_with}

-- a variable that has a value has one type

with_same : (t : VariableType) (h : Holder) (b : Bool) → length (cond b (t ∷ []) []) ≡ length (cond b (h ∷ []) [])
with_same t h true = refl
with_same t h false = refl

abbrev pub all_with : Program → ℕ → List (VariableKind × Variable) → List VariableType
all_with p at xs = flat_map (λ (x : VariableKind × Variable). declared.types_with p at x.1) xs

from_same : (p : Program) (at n v : ℕ) (xs : List (VariableKind × Variable)) → length (all_with p at xs) ≡ length (holders_from n v xs)
from_same p at n v [] = refl
from_same p at n v (x ∷ xs) =
    let one = with_same (variable_type p at x.1) (record { instance = n; variable = v; kind = x.0 }) (holds x.1) in
    let more = from_same p at n (v + 1) xs in
    length-append (declared.types_with p at x.1) (all_with p at xs)
    ∙ ap (λ k. k + length (all_with p at xs)) one ∙ ap (λ k. length (holders_with n v x.0 x.1) + k) more
    ∙ sym (length-append (holders_with n v x.0 x.1) (holders_from n (v + 1) xs))

pub in_sections : (p : Program) (at : ℕ) (ss : List Section) → flat_map (types_in p at) ss ≡ all_with p at (flat_map variables_in ss)
in_sections p at [] = refl
in_sections p at (s ∷ ss) =
    ap (λ ts. types_in p at s ++ ts) (in_sections p at ss)
    ∙ sym (flat_map-append (λ (x : VariableKind × Variable). declared.types_with p at x.1) (variables_in s) (flat_map variables_in ss))

below_same : (p : Program) (n : ℕ) (xs : List Instance) → length (types_below p n xs) ≡ length (holders_below p n xs)
below_same p n [] = refl
below_same p n (x ∷ xs) =
    let here = flat_map (types_in p n) (sections_of p x.of_module) in
    let one : length here ≡ length (holders_from n 0 (variables_of p x.of_module)) =
    ap length (in_sections p n (sections_of p x.of_module)) ∙ from_same p n n 0 (variables_of p x.of_module) in
    length-append here (types_below p (n + 1) xs)
    ∙ ap (λ k. k + length (types_below p (n + 1) xs)) one ∙ ap (λ k. length (holders_from n 0 (variables_of p x.of_module)) + k) (below_same p (n + 1) xs)
    ∙ sym (length-append (holders_from n 0 (variables_of p x.of_module)) (holders_below p (n + 1) xs))

-- there are as many types as variables that have values
pub holders_have_types : (p : Program) → length (variable_types_of p) ≡ length (holders_of p)
unfolding variable_types_of
holders_have_types p = below_same p 0 (instances_of p)

-- each element of a variable has its type

elements_same : (h : Holder) (t : VariableType) → length (types_with t) ≡ length (elements_of (h, t))
elements_same h t =
    length-replicate (size_of t.dimensions) t.element ∙ sym (length-map-range_with_len (element_at h) 0 (size_of t.dimensions))

all_same : (hs : List Holder) (ts : List VariableType) → length ts ≡ length hs → length (slot_types ts) ≡ length (flat_map elements_of (zip hs ts))
all_same [] [] e = refl
all_same [] (t ∷ ts) e = absurd (omega (arith, e))
all_same (h ∷ hs) [] e = absurd (omega (arith, e))
all_same (h ∷ hs) (t ∷ ts) e =
    let rest = all_same hs ts (omega (arith, e)) in
    length-append (types_with t) (slot_types ts)
    ∙ ap (λ k. k + length (slot_types ts)) (elements_same h t) ∙ ap (λ k. length (elements_of (h, t)) + k) rest
    ∙ sym (length-append (elements_of (h, t)) (flat_map elements_of (zip hs ts)))

abbrev pub among_inputs : ℕ → ℕ → Slot → List Slot → List Slot
among_inputs held inputs x xs = record x { declared = held + inputs; index = inputs } ∷ indexed held (inputs + 1) xs

abbrev pub among_held : ℕ → ℕ → Slot → List Slot → List Slot
among_held held inputs x xs = record x { declared = held + inputs; index = held } ∷ indexed (held + 1) inputs xs

one_longer : (held inputs : ℕ) (x : Slot) (xs : List Slot) → length (indexed held (inputs + 1) xs) ≡ length xs → length (indexed (held + 1) inputs xs) ≡ length xs →
    (b : Bool) → length (cond b (among_inputs held inputs x xs) (among_held held inputs x xs)) ≡ suc (length xs)
one_longer held inputs x xs more_inputs more_held true = ap (λ n. suc n) more_inputs
one_longer held inputs x xs more_inputs more_held false = ap (λ n. suc n) more_held

indexed_same : (held inputs : ℕ) (xs : List Slot) → length (indexed held inputs xs) ≡ length xs
indexed_same held inputs [] = refl
indexed_same held inputs (x ∷ xs) = one_longer held inputs x xs (indexed_same held (inputs + 1) xs) (indexed_same (held + 1) inputs xs) (is_input x.kind)

pub counted : (p : Program) → length (types_of p) ≡ length (slots_of p)
unfolding types_of slots_of
counted p =
    all_same (holders_of p) (variable_types_of p) (holders_have_types p)
    ∙ sym (indexed_same 0 0 (flat_map elements_of (zip (holders_of p) (variable_types_of p))))

-- a slot's own number is where it stands

one_further : (held inputs : ℕ) (x : Slot) (xs : List Slot) (slot : Slot) →
    ((k : ℕ) → slice_get (indexed held (inputs + 1) xs) k ≡ Some slot → slot.declared ≡ held + (inputs + 1) + k) →
    ((k : ℕ) → slice_get (indexed (held + 1) inputs xs) k ≡ Some slot → slot.declared ≡ held + 1 + inputs + k) →
    (b : Bool) (k : ℕ) → slice_get (cond b (among_inputs held inputs x xs) (among_held held inputs x xs)) k ≡ Some slot → slot.declared ≡ held + inputs + k
one_further held inputs x xs slot more_inputs more_held true zero e =
    let here : record x { declared = held + inputs; index = inputs } ≡ slot = cc in omega (arith, ap (λ (s : Slot). s.declared) here)
one_further held inputs x xs slot more_inputs more_held true (suc k) e = omega (arith, more_inputs k e)
one_further held inputs x xs slot more_inputs more_held false zero e =
    let here : record x { declared = held + inputs; index = held } ≡ slot = cc in omega (arith, ap (λ (s : Slot). s.declared) here)
one_further held inputs x xs slot more_inputs more_held false (suc k) e = omega (arith, more_held k e)

numbered_from : (held inputs : ℕ) (xs : List Slot) (k : ℕ) (slot : Slot) → slice_get (indexed held inputs xs) k ≡ Some slot → slot.declared ≡ held + inputs + k
numbered_from held inputs [] k slot e = absurd (let no : ⊥ = cc in no)
numbered_from held inputs (x ∷ xs) k slot e =
    one_further held inputs x xs slot (λ i f. numbered_from held (inputs + 1) xs i slot f) (λ i f. numbered_from (held + 1) inputs xs i slot f) (is_input x.kind) k e

pub numbered : (p : Program) (n : ℕ) (slot : Slot) → slice_get (slots_of p) n ≡ Some slot → slot.declared ≡ n
unfolding slots_of
numbered p n slot e =
    let at : slot.declared ≡ 0 + 0 + n = numbered_from 0 0 (flat_map elements_of (zip (holders_of p) (variable_types_of p))) n slot e in
    omega (arith, at)
