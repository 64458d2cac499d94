-- Enumerations of integers in a row.
use Rattle.std.specs.Prelude.{◌≡◌, ℕ, List, Some, slice_get, ℤ, pos, ◌+ℤ◌}
use Rattle.value_types.specs.declared.value_type.Element.{Element}
use Rattle.value_types.specs.declared.value_type.Element.TheVariants as element

-- the elements are the integers from `low` on
abbrev pub IsRun : ℤ → List Element → Type 0
IsRun low es = (k : ℕ) (e : Element) → slice_get es k ≡ Some e → e ≡ element.Int (low +ℤ pos k)
