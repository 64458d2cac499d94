-- The type that is built from what limits give is the one that is declared.
use Rattle.std.proofs.Common.{◌≡◌, ℕ, List, [], ◌∷◌, map, refl, ap, ◌∙◌}
use Rattle.smv_tree.specs.declared.tree.Program.{Program}
use Rattle.smv_tree.specs.declared.tree.Dimension.{Dimension}
use Rattle.smv_tree.specs.declared.tree.TypeExpr.{TypeExpr}
use Rattle.smv_tree.specs.declared.tree.TypeExpr.TheVariants as written
use Rattle.smv_tree.specs.declared.tree.Variable.{Variable}
use Rattle.value_types.specs.declared.value_type.Element.{Element}
use Rattle.value_types.specs.declared.value_type.ValueType.{ValueType}
use Rattle.smv_declared.specs.declared.limits.Limits.{Limits}
use Rattle.smv_declared.specs.declared.limits.ElementLimits.{ElementLimits}
use Rattle.smv_declared.specs.declared.variable_type.Bounds.{Bounds}
use Rattle.smv_declared.specs.declared.variable_type.VariableType.{VariableType}
use Rattle.smv_declared.specs.Limits.{bounds_in, type_from}
use Rattle.smv_declared.specs.Refusals.{dimension_limits, element_limits, written_elements}
use Rattle.smv_declared.specs.Types.{bounds_by, element_of, type_of, variable_type}

element_built : (p : Program) (at : ℕ) (d : TypeExpr) → type_from d (element_limits p at d) (map (element_of p) (written_elements d)) ≡ type_of p at d
element_built p at (written.Boolean place) = refl
element_built p at (written.Word place signed width) = refl
element_built p at (written.Range place low high) = refl
element_built p at (written.Enumeration place elements) = refl
element_built p at (written.Instance place name given) = refl

dimensions_built : (p : Program) (at : ℕ) (ds : List Dimension) → map bounds_in (map (dimension_limits p at) ds) ≡ map (bounds_by p at) ds
dimensions_built p at [] = refl
dimensions_built p at (d ∷ ds) = ap (λ bs. bounds_by p at d ∷ bs) (dimensions_built p at ds)

pub built : (p : Program) (at : ℕ) (v : Variable) (limits : List Limits) (element : ElementLimits) (elements : List Element) (bounds : List Bounds) (type : ValueType) →
    limits ≡ map (dimension_limits p at) v.dimensions → element ≡ element_limits p at v.declared → elements ≡ map (element_of p) (written_elements v.declared) →
    bounds ≡ map bounds_in limits → type ≡ type_from v.declared element elements → ◌≡◌ {A = VariableType} (record { dimensions = bounds; element = type }) (variable_type p at v)
built p at v limits element elements bounds type of_limits of_element of_elements of_bounds of_type =
    let outer : bounds ≡ map (bounds_by p at) v.dimensions = of_bounds ∙ ap (map bounds_in) of_limits ∙ dimensions_built p at v.dimensions in
    let inner : type ≡ type_of p at v.declared =
    of_type ∙ ap (λ x. type_from v.declared x elements) of_element ∙ ap (type_from v.declared (element_limits p at v.declared)) of_elements ∙ element_built p at v.declared in
    rw (outer, inner) refl
