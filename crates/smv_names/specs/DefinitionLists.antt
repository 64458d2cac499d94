-- The definitions of the modules of a program, listed for each module.
use Rattle.std.specs.Prelude.{◌≡◌, ℕ, List, [], map, Option, None, Some, Vec, slice_get}
use Rattle.std.specs.Borrow.{Bor}
use Rattle.smv_tree.specs.declared.tree.Program.{Program}
use Rattle.smv_tree.specs.declared.tree.Definition.{Definition}
use Rattle.smv_tree.specs.Occurring.{read}
use Rattle.smv_scope.specs.Modules.{definitions_of}

abbrev pub listed_in : {Z : Type 0} → Option (Vec (Bor Definition) Z) → List Definition
listed_in None = []
listed_in (Some list) = read list.items

abbrev pub read_lists : {Z : Type 0} → List (Vec (Bor Definition) Z) → List (List Definition)
read_lists {Z} lists = map (λ (list : Vec (Bor Definition) Z). read list.items) lists

-- the list of each module has its definitions
abbrev pub AreListed : {Z : Type 0} → Program → List (Vec (Bor Definition) Z) → Type 0
AreListed p lists = (m : ℕ) → listed_in (slice_get lists m) ≡ definitions_of p m
