-- How types are printed: an own choice of this project.
use Rattle.std.specs.Prelude.{ℕ, List, [], ◌∷◌, ◌++◌, codes, cond}
use Rattle.std.specs.Fmt.{decimal, signed_decimal}
use Rattle.smv_value.specs.Texts.{value_text}
use Rattle.value_types.specs.declared.value_type.Element.{Element}
use Rattle.value_types.specs.declared.value_type.ValueType.{ValueType}
use Rattle.value_types.specs.declared.value_type.ValueType.TheVariants as type
use Rattle.value_types.specs.Types.{element_value}

-- each behind a comma
abbrev pub more_elements : List (List ℕ) → List Element → List ℕ
more_elements names [] = []
more_elements names (e ∷ es) = codes ", " ++ value_text names (element_value e) ++ more_elements names es

-- with commas between
abbrev pub elements_text : List (List ℕ) → List Element → List ℕ
elements_text names [] = []
elements_text names (e ∷ es) = value_text names (element_value e) ++ more_elements names es

-- the type as it is declared, where the table has the symbols' names
abbrev pub type_text : List (List ℕ) → ValueType → List ℕ
type_text names type.Boolean = codes "boolean"
type_text names (type.Word signed width) = cond signed (codes "signed") (codes "unsigned") ++ codes " word[" ++ decimal width ++ codes "]"
type_text names (type.Range low high) = signed_decimal low ++ codes ".." ++ signed_decimal high
type_text names (type.Enumeration elements) = codes "{" ++ elements_text names elements ++ codes "}"
