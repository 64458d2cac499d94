-- The expressions in which names stand, in the order of the text.
use Rattle.std.specs.Prelude.{List, [], ◌∷◌, ◌++◌, map}
use Rattle.std.specs.List.{flat_map}
use Rattle.smv_tree.specs.declared.tree.Section.{Section}
use Rattle.smv_tree.specs.declared.tree.Section.TheVariants as section
use Rattle.smv_tree.specs.declared.tree.Variable.{Variable}
use Rattle.smv_tree.specs.declared.tree.Definition.{Definition}
use Rattle.smv_tree.specs.declared.tree.Dimension.{Dimension}
use Rattle.smv_tree.specs.declared.tree.Assignment.{Assignment}
use Rattle.smv_tree.specs.declared.tree.TypeExpr.{TypeExpr}
use Rattle.smv_tree.specs.declared.tree.TypeExpr.TheVariants as written
use Rattle.smv_tree.specs.declared.tree.Expr.{Expr}

abbrev pub in_dimension : Dimension → List Expr
in_dimension d = d.low ∷ d.high ∷ []

-- the width of a word, the bounds of a range, and what an instance is given
abbrev pub in_type : TypeExpr → List Expr
in_type (written.Boolean place) = []
in_type (written.Word place signed width) = width ∷ []
in_type (written.Range place low high) = low ∷ high ∷ []
in_type (written.Enumeration place elements) = []
in_type (written.Instance place name given) = given

-- those of the bounds of an array, from the outermost on, and then those of the type of its elements
abbrev pub in_variable : Variable → List Expr
in_variable v = flat_map in_dimension v.dimensions ++ in_type v.declared

abbrev pub in_assignment : Assignment → List Expr
in_assignment a = a.target ∷ a.value ∷ []

abbrev pub in_section : Section → List Expr
in_section (section.Variables kind vs) = flat_map in_variable vs
in_section (section.Definitions ds) = map (λ (d : Definition). d.body) ds
in_section (section.Constants symbols) = []
in_section (section.Assignments as') = flat_map in_assignment as'
in_section (section.Constraint c) = c.formula ∷ []
in_section (section.Specification s) = s.formula ∷ []
