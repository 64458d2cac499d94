-- The rule of names: each name leads somewhere (manual 2.3.13, References to Module Components).
use Rattle.std.specs.Prelude.{ℕ, ◌+◌, List, [], ◌∷◌, Option, None, Some}
use Rattle.smv_tree.specs.declared.refusal.Refusal.{Refusal}
use Rattle.smv_tree.specs.declared.refusal.Rule.TheVariants as rule
use Rattle.smv_tree.specs.declared.tree.Program.{Program}
use Rattle.smv_tree.specs.declared.tree.Section.{Section}
use Rattle.smv_tree.specs.declared.tree.Section.TheVariants as section
use Rattle.smv_tree.specs.declared.tree.Variable.{Variable}
use Rattle.smv_tree.specs.declared.tree.Definition.{Definition}
use Rattle.smv_tree.specs.declared.tree.Dimension.{Dimension}
use Rattle.smv_tree.specs.declared.tree.Assignment.{Assignment}
use Rattle.smv_tree.specs.declared.tree.TypeExpr.{TypeExpr}
use Rattle.smv_tree.specs.declared.tree.TypeExpr.TheVariants as written
use Rattle.smv_tree.specs.declared.tree.Identifier.{Identifier}
use Rattle.smv_tree.specs.declared.tree.Name.{Name}
use Rattle.smv_tree.specs.declared.tree.Start.{Start}
use Rattle.smv_tree.specs.declared.tree.Start.TheVariants as start
use Rattle.smv_tree.specs.declared.tree.Expr.{Expr}
use Rattle.smv_scope.specs.declared.instance.Instance.{Instance}
use Rattle.smv_scope.specs.Modules.{sections_of}
use Rattle.smv_tree.specs.Occurring.{names_in}
use Rattle.smv_scope.specs.Instances.{instances_of}
use Rattle.smv_scope.specs.Lookup.{Target, as_instance, depth_limit, instance_within, member_target, own_target}
use Rattle.smv_verdicts.specs.Verdicts.{first_of, or_else, detailed}

-- an identifier that leads nowhere
abbrev pub unknown_last : Identifier → Target → Option Identifier
unknown_last x Target.Unknown = Some x
unknown_last x other = None

-- an identifier before others has to lead to an instance
abbrev pub unknown_before : Identifier → (ℕ → Option Identifier) → Target → Option Identifier
unknown_before x go (Target.Whole i) = go i
unknown_before x go Target.TooFar = None
unknown_before x go other = Some x

-- the first of these members of an instance that leads nowhere
abbrev pub unknown_members : Program → ℕ → List Identifier → Option Identifier
unknown_members p at [] = None
unknown_members p at (x ∷ []) = unknown_last x (member_target p at x.name)
unknown_members p at (x ∷ y ∷ rest) = unknown_before x (λ i. unknown_members p i (y ∷ rest)) (member_target p at x.name)

abbrev pub unknown_from : Program → ℕ → Start → List Identifier → Option Identifier
unknown_from p at (start.Itself place) members = unknown_members p at members
unknown_from p at (start.Own x) [] = unknown_last x (own_target p at x.name)
unknown_from p at (start.Own x) (y ∷ rest) =
    unknown_before x (λ i. unknown_members p i (y ∷ rest)) (as_instance (instance_within p depth_limit) (own_target p at x.name))

-- the first identifier of a name that leads nowhere, where the name stands in the instance of this number
abbrev pub unknown_in_name : Program → ℕ → Name → Option Identifier
unknown_in_name p at name = unknown_from p at name.start name.members

abbrev pub unknown_identifier : Option Identifier → Option Refusal
unknown_identifier None = None
unknown_identifier (Some x) = Some (detailed rule.UnknownName x.place x.name)

abbrev pub unknown_in_expression : Program → ℕ → Expr → Option Refusal
unknown_in_expression p at e = first_of (λ name. unknown_identifier (unknown_in_name p at name)) (names_in e)

abbrev pub unknown_in_all : Program → ℕ → List Expr → Option Refusal
unknown_in_all p at es = first_of (unknown_in_expression p at) es

-- in the width of a word, in the bounds of a range, and in what an instance is given; the elements of an enumeration
-- are no names
abbrev pub unknown_in_type : Program → ℕ → TypeExpr → Option Refusal
unknown_in_type p at (written.Boolean place) = None
unknown_in_type p at (written.Word place signed width) = unknown_in_expression p at width
unknown_in_type p at (written.Range place low high) = or_else (unknown_in_expression p at low) (unknown_in_expression p at high)
unknown_in_type p at (written.Enumeration place elements) = None
unknown_in_type p at (written.Instance place name given) = unknown_in_all p at given

abbrev pub unknown_in_dimension : Program → ℕ → Dimension → Option Refusal
unknown_in_dimension p at d = or_else (unknown_in_expression p at d.low) (unknown_in_expression p at d.high)

-- in the bounds of an array, from the outermost on, and then in the type of its elements
abbrev pub unknown_in_variable : Program → ℕ → Variable → Option Refusal
unknown_in_variable p at v = or_else (first_of (unknown_in_dimension p at) v.dimensions) (unknown_in_type p at v.declared)

abbrev pub unknown_in_assignment : Program → ℕ → Assignment → Option Refusal
unknown_in_assignment p at a = or_else (unknown_in_expression p at a.target) (unknown_in_expression p at a.value)

-- the first identifier in a section that leads nowhere, where it stands in the instance of this number
abbrev pub unknown_in_section : Program → ℕ → Section → Option Refusal
unknown_in_section p at (section.Variables kind vs) = first_of (unknown_in_variable p at) vs
unknown_in_section p at (section.Definitions ds) = first_of (λ (d : Definition). unknown_in_expression p at d.body) ds
unknown_in_section p at (section.Constants symbols) = None
unknown_in_section p at (section.Assignments as') = first_of (unknown_in_assignment p at) as'
unknown_in_section p at (section.Constraint c) = unknown_in_expression p at c.formula
unknown_in_section p at (section.Specification s) = unknown_in_expression p at s.formula

abbrev pub unknown_in_sections : Program → ℕ → List Section → Option Refusal
unknown_in_sections p at sections = first_of (unknown_in_section p at) sections

-- a refusal of these instances, the first of which has number n, by a rule for each
abbrev pub first_instance : (ℕ → Instance → Option Refusal) → ℕ → List Instance → List (Option Refusal)
first_instance rule n [] = []
first_instance rule n (x ∷ xs) = rule n x ∷ first_instance rule (n + 1) xs

-- each name of each instance leads somewhere
abbrev pub unknown_names : Program → Option Refusal
unknown_names p = first_of (λ r. r) (first_instance (λ n x. unknown_in_sections p n (sections_of p x.of_module)) 0 (instances_of p))
