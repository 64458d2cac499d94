-- The definitions of the modules, listed one after another.
use Rattle.std.proofs.Common.{◌≡◌, ℕ, zero, suc, List, [], ◌∷◌, map, Bor, slice_get, refl}
use Rattle.std.specs.Prelude.{Vec}
use Rattle.std.specs.List.{flat_map}
use Rattle.smv_tree.specs.declared.tree.Module.{Module}
use Rattle.smv_tree.specs.declared.tree.Definition.{Definition}
use Rattle.smv_scope.specs.Modules.{definitions_in, sections_in}
use Rattle.smv_names.specs.DefinitionLists.{listed_in, read_lists}

-- the list of a number is that of the module of this number
pub by_number : {Z : Type 0} (lists : List (Vec (Bor Definition) Z)) (modules : List Module) → read_lists lists ≡ map (λ (m : Module). flat_map definitions_in m.sections) modules
    → (k : ℕ) → listed_in (slice_get lists k) ≡ flat_map definitions_in (sections_in (slice_get modules k))
by_number [] [] e k = refl
by_number [] (m ∷ ms) e k = absurd cc
by_number (list ∷ lists) [] e k = absurd cc
by_number (list ∷ lists) (m ∷ ms) e zero = cc
by_number (list ∷ lists) (m ∷ ms) e (suc k) =
    let rest : read_lists lists ≡ map (λ (x : Module). flat_map definitions_in x.sections) ms = cc in
    by_number lists ms rest k
