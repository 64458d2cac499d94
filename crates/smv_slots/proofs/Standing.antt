-- The slots of a variable stand where its number says.
use Rattle.std.proofs.Common.{◌≡◌, ℕ, zero, suc, ◌+◌, ◌<◌, Bool, true, false, cond, List, [], ◌∷◌, ◌++◌, length, map, replicate, take, Option, None, Some, slice_get, refl, sym, ap, ◌∙◌, arith, length-append}
use Rattle.std.specs.Prelude.{IsSomeAnd}
use Rattle.std.specs.List.{flat_map, range_with_len, zip}
use Rattle.std.proofs.lemmas.Option.{slice_get-get_or}
use Rattle.std.proofs.lemmas.List.{length-replicate, get_or-replicate}
use Rattle.std.proofs.lemmas.List.Sums.{sum_by-cons}
use Rattle.std.proofs.lemmas.List.FromFn.{length-map-range_with_len, get_or-map-range_with_len}
use Rattle.smv_tree.specs.declared.tree.Program.{Program}
use Rattle.smv_tree.specs.declared.tree.Variable.{Variable}
use Rattle.smv_tree.specs.declared.tree.VariableKind.{VariableKind}
use Rattle.value_types.specs.declared.value_type.ValueType.{ValueType}
use Rattle.smv_scope.specs.declared.instance.Instance.{Instance}
use Rattle.smv_scope.specs.Modules.{sections_of, variables_of}
use Rattle.smv_scope.specs.Instances.{instances_of, module_in}
use Rattle.smv_scope.specs.Holders.{held_by, held_in, holds, number_in, rank_of}
use Rattle.smv_declared.specs.declared.variable_type.VariableType.{VariableType}
use Rattle.smv_declared.specs.Types.{size_of, slots_in, types_below, types_in, variable_type, variable_types_of}
use Rattle.smv_declared.specs.Types as declared
use Rattle.smv_slots.specs.declared.slot.Holder.{Holder}
use Rattle.smv_slots.specs.declared.slot.Slot.{Slot}
use Rattle.smv_slots.specs.Slots.{element_at, elements_of, first_slot, holders_below, holders_from, holders_of, holders_with, indexed, is_input, slot_types, slots_of, types_of, types_with}
use Rattle.smv_slots.specs.Standing.{NamesLeadToSlots}
use Rattle.smv_slots.proofs.Counted.{all_with, in_sections, among_inputs, among_held}

same_value : {A : Type 0} (a b : A) → Some a ≡ Some b → a ≡ b
same_value a b e = cc

-- elements of two lists, one behind the other

after : {A : Type 0} (xs ys : List A) (i j : ℕ) → j ≡ length xs + i → slice_get (xs ++ ys) j ≡ slice_get ys i
after [] ys i j e = ap (slice_get ys) (omega (arith, e))
after (x ∷ xs) ys i zero e = absurd (omega (arith, e))
after (x ∷ xs) ys i (suc j) e = after xs ys i j (omega (arith, e))

here : {A : Type 0} (xs ys : List A) (i : ℕ) (a : A) → slice_get xs i ≡ Some a → slice_get (xs ++ ys) i ≡ Some a
here [] ys i a e = absurd (let no : ⊥ = cc in no)
here (x ∷ xs) ys zero a e = e
here (x ∷ xs) ys (suc i) a e = here xs ys i a e

-- what stands for the variables that have values, in a module and in all instances

abbrev one : {A : Type 0} → (ℕ → ℕ → VariableKind × Variable → A) → ℕ → ℕ → VariableKind × Variable → List A
one f at v x = cond (holds x.1) (f at v x ∷ []) []

abbrev in_module : {A : Type 0} → (ℕ → ℕ → VariableKind × Variable → A) → ℕ → ℕ → List (VariableKind × Variable) → List A
in_module f at v [] = []
in_module f at v (x ∷ xs) = one f at v x ++ in_module f at (v + 1) xs

abbrev in_tree : {A : Type 0} → (ℕ → ℕ → VariableKind × Variable → A) → Program → ℕ → List Instance → List A
in_tree f p n [] = []
in_tree f p n (x ∷ xs) = in_module f n 0 (variables_of p x.of_module) ++ in_tree f p (n + 1) xs

abbrev counts : VariableKind × Variable → ℕ
counts x = cond (holds x.1) 1 0

one_long : {A : Type 0} (b : Bool) (a : A) → length (cond b (a ∷ []) []) ≡ cond b 1 0
one_long true a = refl
one_long false a = refl

first_one : {A : Type 0} (b : Bool) (a : A) (rest : List A) → b ≡ true → slice_get (cond b (a ∷ []) [] ++ rest) 0 ≡ Some a
first_one true a rest e = refl
first_one false a rest e = absurd (let no : ⊥ = cc in no)

held_more : (x : VariableKind × Variable) (xs : List (VariableKind × Variable)) → held_by (x ∷ xs) ≡ counts x + held_by xs
held_more x xs = sum_by-cons counts x xs

module_long : {A : Type 0} (f : ℕ → ℕ → VariableKind × Variable → A) (at v : ℕ) (xs : List (VariableKind × Variable)) → length (in_module f at v xs) ≡ held_by xs
module_long f at v [] = refl
module_long f at v (x ∷ xs) =
    let rest = in_module f at (v + 1) xs in
    length-append (one f at v x) rest ∙ ap (λ k. k + length rest) (one_long (holds x.1) (f at v x)) ∙ ap (λ k. counts x + k) (module_long f at (v + 1) xs) ∙ sym (held_more x xs)

-- that of one variable of a module

of_variable : {A : Type 0} (f : ℕ → ℕ → VariableKind × Variable → A) (at first v j : ℕ) (xs : List (VariableKind × Variable)) (x : VariableKind × Variable) →
    slice_get xs v ≡ Some x → holds x.1 ≡ true → j ≡ first + v → slice_get (in_module f at first xs) (held_by (take v xs)) ≡ Some (f at j x)
of_variable f at first v j [] x e h k = absurd (let no : ⊥ = cc in no)
of_variable f at first zero j (y ∷ ys) x e h k =
    let same : y ≡ x = same_value y x e in
    let place : first ≡ j = omega (arith, k) in
    first_one (holds y.1) (f at first y) (in_module f at (first + 1) ys) (ap (λ (z : VariableKind × Variable). holds z.1) same ∙ h)
    ∙ ap (λ (z : VariableKind × Variable). Some (f at first z)) same ∙ ap (λ i. Some (f at i x)) place
of_variable f at first (suc v) j (y ∷ ys) x e h k =
    let before = held_by (take v ys) in
    let counted : held_by (take (suc v) (y ∷ ys)) ≡ length (one f at first y) + before =
    held_more y (take v ys) ∙ ap (λ i. i + before) (sym (one_long (holds y.1) (f at first y))) in
    after (one f at first y) (in_module f at (first + 1) ys) before (held_by (take (suc v) (y ∷ ys))) counted
    ∙ of_variable f at (first + 1) v j ys x e h (omega (arith, k))

-- that of one instance

of_instance : {A : Type 0} (f : ℕ → ℕ → VariableKind × Variable → A) (p : Program) (n at i k : ℕ) (xs : List Instance) (x : Instance) (a : A) →
    slice_get xs at ≡ Some x → i ≡ n + at → slice_get (in_module f i 0 (variables_of p x.of_module)) k ≡ Some a → slice_get (in_tree f p n xs) (held_in p (take at xs) + k) ≡ Some a
of_instance f p n at i k [] x a e q is = absurd (let no : ⊥ = cc in no)
of_instance f p n zero i k (y ∷ ys) x a e q is =
    let same : y ≡ x = same_value y x e in
    let place : n ≡ i = omega (arith, q) in
    let none : 0 + k ≡ k = omega arith in
    ap (slice_get (in_tree f p n (y ∷ ys))) none
    ∙ here (in_module f n 0 (variables_of p y.of_module)) (in_tree f p (n + 1) ys) k a
    (ap (λ (z : Instance). slice_get (in_module f n 0 (variables_of p z.of_module)) k) same
    ∙ ap (λ j. slice_get (in_module f j 0 (variables_of p x.of_module)) k) place ∙ is)
of_instance f p n (suc at) i k (y ∷ ys) x a e q is =
    let before = held_in p (take at ys) in
    let this = in_module f n 0 (variables_of p y.of_module) in
    let more : held_in p (y ∷ take at ys) ≡ held_by (variables_of p y.of_module) + before = sum_by-cons (λ (z : Instance). held_by (variables_of p z.of_module)) y (take at ys) in
    let long : length this ≡ held_by (variables_of p y.of_module) = module_long f n 0 (variables_of p y.of_module) in
    after this (in_tree f p (n + 1) ys) (before + k) (held_in p (y ∷ take at ys) + k) (omega (arith, more, long))
    ∙ of_instance f p (n + 1) at i k ys x a e (omega (arith, q)) is

-- that of the number of a variable
by_number : {A : Type 0} (f : ℕ → ℕ → VariableKind × Variable → A) (p : Program) (at m v n : ℕ) (x : VariableKind × Variable) (o : Option Instance) →
    slice_get (instances_of p) at ≡ o → module_in o ≡ Some m → slice_get (variables_of p m) v ≡ Some x → holds x.1 ≡ true → number_in p at v (module_in o) ≡ Some n →
    slice_get (in_tree f p 0 (instances_of p)) n ≡ Some (f at v x)
by_number f p at m v n x None is known here_is h number = absurd (let no : ⊥ = cc in no)
by_number f p at m v n x (Some i) is known here_is h number =
    let same : i.of_module ≡ m = same_value i.of_module m known in
    let counted = same_value _ n number in
    let its : slice_get (variables_of p i.of_module) v ≡ Some x = ap (λ q. slice_get (variables_of p q) v) same ∙ here_is in
    ap (slice_get (in_tree f p 0 (instances_of p))) (sym counted)
    ∙ of_instance f p 0 at at (rank_of p i.of_module v) (instances_of p) i (f at v x) is (omega arith)
    (of_variable f at 0 v v (variables_of p i.of_module) x its h (omega arith))

-- variables and types are such lists

abbrev holder_as : ℕ → ℕ → VariableKind × Variable → Holder
holder_as at v x = record { instance = at; variable = v; kind = x.0 }

abbrev type_as : Program → ℕ → ℕ → VariableKind × Variable → VariableType
type_as p at v x = variable_type p at x.1

holders_in_module : (at v : ℕ) (xs : List (VariableKind × Variable)) → holders_from at v xs ≡ in_module holder_as at v xs
holders_in_module at v [] = refl
holders_in_module at v (x ∷ xs) = ap (λ (ys : List Holder). holders_with at v x.0 x.1 ++ ys) (holders_in_module at (v + 1) xs)

holders_in_tree : (p : Program) (n : ℕ) (xs : List Instance) → holders_below p n xs ≡ in_tree holder_as p n xs
holders_in_tree p n [] = refl
holders_in_tree p n (x ∷ xs) =
    ap (λ (ys : List Holder). ys ++ holders_below p (n + 1) xs) (holders_in_module n 0 (variables_of p x.of_module))
    ∙ ap (λ (ys : List Holder). in_module holder_as n 0 (variables_of p x.of_module) ++ ys) (holders_in_tree p (n + 1) xs)

types_in_module : (p : Program) (at v : ℕ) (xs : List (VariableKind × Variable)) → all_with p at xs ≡ in_module (type_as p) at v xs
types_in_module p at v [] = refl
types_in_module p at v (x ∷ xs) = ap (λ (ys : List VariableType). declared.types_with p at x.1 ++ ys) (types_in_module p at (v + 1) xs)

types_in_tree : (p : Program) (n : ℕ) (xs : List Instance) → types_below p n xs ≡ in_tree (type_as p) p n xs
types_in_tree p n [] = refl
types_in_tree p n (x ∷ xs) =
    ap (λ (ys : List VariableType). ys ++ types_below p (n + 1) xs) (in_sections p n (sections_of p x.of_module) ∙ types_in_module p n 0 (variables_of p x.of_module))
    ∙ ap (λ (ys : List VariableType). in_module (type_as p) n 0 (variables_of p x.of_module) ++ ys) (types_in_tree p (n + 1) xs)

-- the elements of one variable, and their types

element_slot : (h : Holder) (n i : ℕ) → i < n → slice_get (map (element_at h) (range_with_len 0 n)) i ≡ Some (element_at h i)
element_slot h n i w =
    let all = map (element_at h) (range_with_len 0 n) in
    let long : length all ≡ n = length-map-range_with_len (element_at h) 0 n in
    slice_get-get_or all i (element_at h 0) (omega (arith, long)) ∙ ap Some (get_or-map-range_with_len (element_at h) 0 n i i (element_at h 0) w (omega arith))

element_type : (t : ValueType) (n i : ℕ) → i < n → slice_get (replicate n t) i ≡ Some t
element_type t n i w =
    let long : length (replicate n t) ≡ n = length-replicate n t in
    slice_get-get_or (replicate n t) i t (omega (arith, long)) ∙ ap Some (get_or-replicate n i t t w)

slots_more : (t : VariableType) (ts : List VariableType) → slots_in (t ∷ ts) ≡ size_of t.dimensions + slots_in ts
slots_more t ts = sum_by-cons (λ (u : VariableType). size_of u.dimensions) t ts

of_pair : (hs : List Holder) (ts : List VariableType) (n k j : ℕ) (h : Holder) (t : VariableType) → slice_get hs n ≡ Some h → slice_get ts n ≡ Some t → k < size_of t.dimensions →
    j ≡ slots_in (take n ts) + k → slice_get (flat_map elements_of (zip hs ts)) j ≡ Some (element_at h k)
of_pair [] ts n k j h t e g w q = absurd (let no : ⊥ = cc in no)
of_pair (x ∷ hs) [] n k j h t e g w q = absurd (let no : ⊥ = cc in no)
of_pair (x ∷ hs) (u ∷ ts) zero k j h t e g w q =
    let holder : x ≡ h = same_value x h e in
    let type : u ≡ t = same_value u t g in
    let none : j ≡ k = omega (arith, q) in
    let inside : k < size_of u.dimensions = let s : size_of u.dimensions ≡ size_of t.dimensions = ap (λ (z : VariableType). size_of z.dimensions) type in omega (arith, s, w) in
    ap (slice_get (flat_map elements_of (zip (x ∷ hs) (u ∷ ts)))) none
    ∙ here (elements_of (x, u)) (flat_map elements_of (zip hs ts)) k (element_at h k)
    (element_slot x (size_of u.dimensions) k inside ∙ ap (λ (y : Holder). Some (element_at y k)) holder)
of_pair (x ∷ hs) (u ∷ ts) (suc n) k j h t e g w q =
    let more = slots_more u (take n ts) in
    let long : length (elements_of (x, u)) ≡ size_of u.dimensions = length-map-range_with_len (element_at x) 0 (size_of u.dimensions) in
    after (elements_of (x, u)) (flat_map elements_of (zip hs ts)) (slots_in (take n ts) + k) j (omega (arith, q, more, long))
    ∙ of_pair hs ts n k (slots_in (take n ts) + k) h t e g w refl

of_type : (ts : List VariableType) (n k j : ℕ) (t : VariableType) → slice_get ts n ≡ Some t → k < size_of t.dimensions → j ≡ slots_in (take n ts) + k →
    slice_get (slot_types ts) j ≡ Some t.element
of_type [] n k j t g w q = absurd (let no : ⊥ = cc in no)
of_type (u ∷ ts) zero k j t g w q =
    let type : u ≡ t = same_value u t g in
    let none : j ≡ k = omega (arith, q) in
    let inside : k < size_of u.dimensions = let s : size_of u.dimensions ≡ size_of t.dimensions = ap (λ (z : VariableType). size_of z.dimensions) type in omega (arith, s, w) in
    ap (slice_get (slot_types (u ∷ ts))) none
    ∙ here (types_with u) (slot_types ts) k t.element (element_type u.element (size_of u.dimensions) k inside ∙ ap (λ (z : VariableType). Some z.element) type)
of_type (u ∷ ts) (suc n) k j t g w q =
    let more = slots_more u (take n ts) in
    let long : length (types_with u) ≡ size_of u.dimensions = length-replicate (size_of u.dimensions) u.element in
    after (types_with u) (slot_types ts) (slots_in (take n ts) + k) j (omega (arith, q, more, long)) ∙ of_type ts n k (slots_in (take n ts) + k) t g w refl

-- numbers leave a slot what it is

abbrev IsSlotOf : Slot → Slot → Type 0
IsSlotOf x s = (s.instance ≡ x.instance) × (s.variable ≡ x.variable) × (s.kind ≡ x.kind) × (s.element ≡ x.element)

numbered_one : (held inputs : ℕ) (y x : Slot) (ys : List Slot) → y ≡ x → (b : Bool) → IsSomeAnd (slice_get (cond b (among_inputs held inputs y ys) (among_held held inputs y ys)) 0) (IsSlotOf x)
numbered_one held inputs y x ys e true = (ap (λ (s : Slot). s.instance) e, ap (λ (s : Slot). s.variable) e, ap (λ (s : Slot). s.kind) e, ap (λ (s : Slot). s.element) e)
numbered_one held inputs y x ys e false = (ap (λ (s : Slot). s.instance) e, ap (λ (s : Slot). s.variable) e, ap (λ (s : Slot). s.kind) e, ap (λ (s : Slot). s.element) e)

numbered_next : (held inputs : ℕ) (y x : Slot) (ys : List Slot) (j : ℕ) → IsSomeAnd (slice_get (indexed held (inputs + 1) ys) j) (IsSlotOf x) → IsSomeAnd (slice_get (indexed (held + 1) inputs ys) j) (IsSlotOf x) →
    (b : Bool) → IsSomeAnd (slice_get (cond b (among_inputs held inputs y ys) (among_held held inputs y ys)) (suc j)) (IsSlotOf x)
numbered_next held inputs y x ys j more_inputs more_held true = more_inputs
numbered_next held inputs y x ys j more_inputs more_held false = more_held

numbers_keep : (held inputs : ℕ) (xs : List Slot) (j : ℕ) (x : Slot) → slice_get xs j ≡ Some x → IsSomeAnd (slice_get (indexed held inputs xs) j) (IsSlotOf x)
numbers_keep held inputs [] j x e = absurd (let no : ⊥ = cc in no)
numbers_keep held inputs (y ∷ ys) zero x e = numbered_one held inputs y x ys (same_value y x e) (is_input y.kind)
numbers_keep held inputs (y ∷ ys) (suc j) x e =
    numbered_next held inputs y x ys j (numbers_keep held (inputs + 1) ys j x e) (numbers_keep (held + 1) inputs ys j x e) (is_input y.kind)

pub names_lead_to_slots : (p : Program) → NamesLeadToSlots p
unfolding slots_of types_of variable_types_of
names_lead_to_slots p at m v n k x known its h number w =
    let tree = instances_of p in
    let holder : slice_get (holders_of p) n ≡ Some (holder_as at v x) =
    ap (λ (hs : List Holder). slice_get hs n) (holders_in_tree p 0 tree) ∙ by_number holder_as p at m v n x (slice_get tree at) refl known its h number in
    let type : slice_get (variable_types_of p) n ≡ Some (variable_type p at x.1) =
    ap (λ (ts : List VariableType). slice_get ts n) (types_in_tree p 0 tree) ∙ by_number (type_as p) p at m v n x (slice_get tree at) refl known its h number in
    let j = first_slot (variable_types_of p) n + k in (
      numbers_keep 0 0 (flat_map elements_of (zip (holders_of p) (variable_types_of p))) j (element_at (holder_as at v x) k)
          (of_pair (holders_of p) (variable_types_of p) n k j (holder_as at v x) (variable_type p at x.1) holder type w refl),
      of_type (variable_types_of p) n k j (variable_type p at x.1) type w refl,
    )
