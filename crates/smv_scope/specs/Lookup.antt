-- Where names lead. A name is looked up in the instance that it stands in (manual 2.3.13, References to Module
-- Components).
use Rattle.std.specs.Prelude.{ℕ, zero, suc, if◌then◌else◌, List, [], ◌∷◌, Option, None, Some, position, slice_get, bytes_eq}
use Rattle.smv_tree.specs.declared.tree.Program.{Program}
use Rattle.smv_tree.specs.declared.tree.Parameter.{Parameter}
use Rattle.smv_tree.specs.declared.tree.Variable.{Variable}
use Rattle.smv_tree.specs.declared.tree.VariableKind.{VariableKind}
use Rattle.smv_tree.specs.declared.tree.Definition.{Definition}
use Rattle.smv_tree.specs.declared.tree.TypeExpr.{TypeExpr}
use Rattle.smv_tree.specs.declared.tree.TypeExpr.TheVariants as written
use Rattle.smv_tree.specs.declared.tree.Identifier.{Identifier}
use Rattle.smv_tree.specs.declared.tree.Name.{Name}
use Rattle.smv_tree.specs.declared.tree.Start.{Start}
use Rattle.smv_tree.specs.declared.tree.Start.TheVariants as start
use Rattle.smv_tree.specs.declared.tree.Expr.{Expr, Expr-F, out-Expr}
use Rattle.smv_scope.specs.declared.instance.Instance.{Instance}
use Rattle.smv_scope.specs.declared.instance.Parent.{Parent}
use Rattle.smv_scope.specs.Modules.{parameters_of, variables_of, definitions_of, is_array}
use Rattle.smv_scope.specs.Instances.{instances_of, child_number, module_at}
use Rattle.smv_scope.specs.Holders.{holds, holder_number}
use Rattle.smv_scope.specs.Enumerated.{symbol_number}
pub use Rattle.smv_scope.specs.Target.{Target}

abbrev pub holder_target : Option ℕ → Target
holder_target None = Target.Unknown
holder_target (Some n) = Target.Variable n

abbrev pub instance_target : Option ℕ → Target
instance_target None = Target.Unknown
instance_target (Some i) = Target.Whole i

-- a variable of an instance has a value, or is an instance
abbrev pub typed_target : Program → ℕ → ℕ → Variable → Target
typed_target p at v x = if holds x then holder_target (holder_number p at v) else instance_target (child_number p at v)

abbrev pub variable_target : Program → ℕ → ℕ → Option (VariableKind × Variable) → Target
variable_target p at v None = Target.Unknown
variable_target p at v (Some x) = typed_target p at v x.1

abbrev pub body_target : ℕ → ℕ → Option Definition → Target
body_target at k None = Target.Unknown
body_target at k (Some d) = Target.Defined at k d.body

abbrev pub definition_target : ℕ → List Definition → Option ℕ → Target
definition_target at definitions None = Target.Unknown
definition_target at definitions (Some k) = body_target at k (slice_get definitions k)

-- the variable of this name, or else the definition
abbrev pub named_target : Program → ℕ → ℕ → List ℕ → Option ℕ → Target
named_target p at m name (Some v) = variable_target p at v (slice_get (variables_of p m) v)
named_target p at m name None = definition_target at (definitions_of p m) (position (λ (d : Definition). bytes_eq name d.name) (definitions_of p m))

-- a member of an instance of this module: a variable or a definition, and no parameter
abbrev pub member_of_module : Program → ℕ → Option ℕ → List ℕ → Target
member_of_module p at None name = Target.Unknown
member_of_module p at (Some m) name = named_target p at m name (position (λ (x : VariableKind × Variable). bytes_eq name x.1.name) (variables_of p m))

abbrev pub member_target : Program → ℕ → List ℕ → Target
member_target p at name = member_of_module p at (module_at p at) name

abbrev pub arguments_in_type : TypeExpr → List Expr
arguments_in_type (written.Instance place name given) = given
arguments_in_type other = []

-- what the instance that a variable is, is given
abbrev pub arguments_with : Variable → List Expr
arguments_with x = if is_array x then [] else arguments_in_type x.declared

abbrev pub arguments_in : Option (VariableKind × Variable) → List Expr
arguments_in None = []
arguments_in (Some x) = arguments_with x.1

abbrev pub arguments_of_module : Program → ℕ → Option ℕ → List Expr
arguments_of_module p v None = []
arguments_of_module p v (Some m) = arguments_in (slice_get (variables_of p m) v)

-- what the instance that is this variable of its parent is given
abbrev pub arguments_by : Program → Parent → List Expr
arguments_by p parent = arguments_of_module p parent.variable (module_at p parent.instance)

abbrev pub argument_target : ℕ → ℕ → ℕ → Option Expr → Target
argument_target at k owner None = Target.Unknown
argument_target at k owner (Some e) = Target.Given at k owner e

-- what a parameter of an instance was given, in the parent that gives it
abbrev pub given_by : Program → ℕ → ℕ → Option Parent → Target
given_by p at k None = Target.Unknown
given_by p at k (Some parent) = argument_target at k parent.instance (slice_get (arguments_by p parent) k)

abbrev pub parent_of : Option Instance → Option Parent
parent_of None = None
parent_of (Some x) = x.parent

abbrev pub parent_at : Program → ℕ → Option Parent
parent_at p at = parent_of (slice_get (instances_of p) at)

abbrev pub symbol_target : Option ℕ → Target
symbol_target None = Target.Unknown
symbol_target (Some n) = Target.Symbol n

-- what a name leads to in its module, or else the symbol of this name, which a name of the module hides
abbrev pub or_symbol : Program → List ℕ → Target → Target
or_symbol p name Target.Unknown = symbol_target (symbol_number p name)
or_symbol p name other = other

-- the parameter of this number, or else the member of this name, or else the symbol
abbrev pub parameter_or_member : Program → ℕ → List ℕ → Option ℕ → Target
parameter_or_member p at name (Some k) = given_by p at k (parent_at p at)
parameter_or_member p at name None = or_symbol p name (member_target p at name)

abbrev pub own_of_module : Program → ℕ → Option ℕ → List ℕ → Target
own_of_module p at None name = Target.Unknown
own_of_module p at (Some m) name = parameter_or_member p at name (position (λ (x : Parameter). bytes_eq name x.name) (parameters_of p m))

-- an own name of an instance: a parameter, a variable or a definition of its module, or a symbol
abbrev pub own_target : Program → ℕ → List ℕ → Target
own_target p at name = own_of_module p at (module_at p at) name

abbrev pub start_target : Program → ℕ → Start → Target
start_target p at (start.Own x) = own_target p at x.name
start_target p at (start.Itself place) = Target.Whole at

-- The target of the first members behind an instance, where `go` is that of the others behind the instance they lead
-- to.
abbrev pub behind_instance : (ℕ → Target) → Target → Target
behind_instance go (Target.Whole i) = go i
behind_instance go other = Target.Unknown

-- an instance, and then members of it, each but the last of which is an instance
abbrev pub members_target : Program → ℕ → List Identifier → Target
members_target p at [] = Target.Whole at
members_target p at (x ∷ []) = member_target p at x.name
members_target p at (x ∷ y ∷ rest) = behind_instance (λ i. members_target p i (y ∷ rest)) (member_target p at x.name)

-- A start before members has to be an instance, itself or by what parameters were given; `given` follows those.
abbrev pub before_members : (ℕ → Expr → Target) → (ℕ → Target) → Target → Target
before_members given go (Target.Whole i) = go i
before_members given go (Target.Given at k owner e) = given owner e
before_members given go other = Target.Unknown

abbrev pub whole_only : (ℕ → Target) → Target → Target
whole_only go (Target.Whole i) = go i
whole_only go Target.TooFar = Target.TooFar
whole_only go other = Target.Unknown

abbrev pub name_target_by : Program → (ℕ → Expr → Target) → ℕ → Start → List Identifier → Target
name_target_by p instance at s [] = start_target p at s
name_target_by p instance at s (x ∷ rest) =
    before_members (λ owner e. whole_only (λ i. members_target p i (x ∷ rest)) (instance owner e)) (λ i. members_target p i (x ∷ rest)) (start_target p at s)

-- a target that is an instance, itself or by what parameters were given
abbrev pub as_instance : (ℕ → Expr → Target) → Target → Target
as_instance instance (Target.Whole i) = Target.Whole i
as_instance instance (Target.Given at k owner e) = instance owner e
as_instance instance Target.TooFar = Target.TooFar
as_instance instance other = Target.Unknown

-- The instance to which an expression leads as a name, in parentheses or not, where at most so many parameters and
-- parentheses are followed one in another.
abbrev pub instance_by_node : Program → (ℕ → Expr → Target) → ℕ → Expr-F Expr → Target
instance_by_node p instance at (Expr-F.Name name) = as_instance instance (name_target_by p instance at name.start name.members)
instance_by_node p instance at (Expr-F.Group place e) = instance at e
instance_by_node p instance at other = Target.Unknown

unfoldable pub instance_within : Program → ℕ → ℕ → Expr → Target
instance_within p zero at e = Target.TooFar
instance_within p (suc depth) at e = instance_by_node p (instance_within p depth) at (out-Expr e)

-- so many levels may be open, and so many names are followed one in another: an own choice of this project
abbrev pub depth_limit : ℕ
depth_limit = 2000

-- where a name leads that stands in the instance of this number
unfoldable pub name_target : Program → ℕ → Name → Target
name_target p at name = name_target_by p (instance_within p depth_limit) at name.start name.members
