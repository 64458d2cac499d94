-- Where no rule of declared types is broken, what slots are declared as are types.
use Rattle.std.proofs.Common.{◌≡◌, ℕ, zero, suc, Bool, true, false, ◌&&◌, List, [], ◌∷◌, None, refl, ◌∙◌, replicate}
use Rattle.std.specs.List.{list_all}
use Rattle.std.proofs.lemmas.List.Folds.{list_all-append}
use Rattle.smv_tree.specs.declared.tree.Program.{Program}
use Rattle.value_types.specs.declared.value_type.ValueType.{ValueType}
use Rattle.value_types.specs.Types.{is_type}
use Rattle.smv_declared.specs.declared.variable_type.VariableType.{VariableType}
use Rattle.smv_declared.specs.Types.{is_bounds, is_variable_type, size_of, variable_types_of}
use Rattle.smv_declared.specs.Refusals.{declared_refusal}
use Rattle.smv_declared.proofs.Kept as declared
use Rattle.smv_slots.specs.Slots.{slot_types, types_of, types_with}

both : (a b : Bool) → a ≡ true → b ≡ true → (a && b) ≡ true
both a b e f = rw (e, f) refl

second_so : (a b : Bool) → (a && b) ≡ true → b ≡ true
second_so true b e = e
second_so false b e = absurd (let no : ⊥ = cc in no)

first_so : (a b : Bool) → (a && b) ≡ true → a ≡ true
first_so true b e = refl
first_so false b e = absurd (let no : ⊥ = cc in no)

-- so many of one type
repeated : (n : ℕ) (t : ValueType) → is_type t ≡ true → list_all is_type (replicate n t) ≡ true
repeated zero t e = refl
repeated (suc n) t e = both (is_type t) (list_all is_type (replicate n t)) e (repeated n t e)

all_kept : (ts : List VariableType) → list_all is_variable_type ts ≡ true → list_all is_type (slot_types ts) ≡ true
all_kept [] e = refl
all_kept (t ∷ ts) e =
    let here = second_so (list_all is_bounds t.dimensions) (is_type t.element) (first_so (is_variable_type t) (list_all is_variable_type ts) e) in
    list_all-append is_type (types_with t) (slot_types ts)
    ∙ both _ _ (repeated (size_of t.dimensions) t.element here) (all_kept ts (second_so (is_variable_type t) (list_all is_variable_type ts) e))

pub types_kept : (p : Program) → declared_refusal p ≡ None → list_all is_type (types_of p) ≡ true
unfolding types_of
types_kept p e = all_kept (variable_types_of p) (declared.types_kept p e)
