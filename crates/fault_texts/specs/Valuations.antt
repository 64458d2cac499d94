-- The text of a valuation at which an item faults: the slots that occur in the item, each with its value. What is told,
-- and how, is an own choice of this project.
use Rattle.std.specs.Prelude.{ℕ, Bool, true, false, List, [], ◌∷◌, ◌++◌, filter, map, Option, None, Some, codes}
use Rattle.std.specs.List.{flat_map}
use Rattle.smv_tree.specs.declared.tree.Program.{Program}
use Rattle.smv_value.specs.declared.value.Value.{Value}
use Rattle.value_texts.specs.Told.{told_text}
use Rattle.smv_scope.specs.Enumerated.{symbols_of}
use Rattle.smv_slots.specs.Slots.{item_of, slots_of}
use Rattle.smv_resolve.specs.Resolved.{Resolved}
use Rattle.smv_flat.specs.Assignments.{name_of_slot, occurs, slot_numbers}

-- The numbers of the slots that occur in an expression, in their order: outside of `next`, or where it looks ahead,
-- under it. What names stand for is looked at, and all branches are.
abbrev pub slots_in : Program → Bool → Resolved → List ℕ
slots_in p ahead r = filter (λ n. occurs ahead n r) (slot_numbers p)

-- a value as it is printed
abbrev pub shown : Program → Option Value → List ℕ
shown p None = []
shown p (Some v) = told_text (symbols_of p) v

-- "x = V" of the slot of this number, or "next(x) = V" of one that is looked at in the next state
abbrev pub with_name : Bool → List ℕ → List ℕ → List ℕ
with_name false name value = name ++ codes " = " ++ value
with_name true name value = codes "next(" ++ name ++ codes ") = " ++ value

-- that, where the state s and the inputs u give the slot its value
abbrev pub told : Program → Bool → List Value → List Value → ℕ → List ℕ
told p ahead s u n = with_name ahead (name_of_slot p n) (shown p (item_of (slots_of p) s u n))

-- the slots that occur in an expression: first those of the state s and the inputs u, and then those of the next state
-- t
abbrev pub told_all : Program → List Value → List Value → List Value → Resolved → List (List ℕ)
told_all p s u t r = map (told p false s u) (slots_in p false r) ++ map (told p true t []) (slots_in p true r)

-- texts with commas between them, if there are some
abbrev pub listed : List (List ℕ) → Option (List ℕ)
listed [] = None
listed (text ∷ more) = Some (text ++ flat_map (λ x. codes ", " ++ x) more)

-- the text of a valuation, as far as the expression looks at it; there is none where no slot occurs
unfoldable pub valuation_text : Program → List Value → List Value → List Value → Resolved → Option (List ℕ)
valuation_text p s u t r = listed (told_all p s u t r)
