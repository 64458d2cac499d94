-- Declarations that say the same in each instance of their module, and those that may not.
use Rattle.std.specs.Prelude.{◌≡◌, ℕ, List, map, Option, None, Some, Vec}
use Rattle.std.specs.Borrow.{Bor}
use Rattle.smv_value.specs.declared.operator.Operator.{Operator}
use Rattle.smv_tree.specs.declared.place.Place.{Place}
use Rattle.smv_tree.specs.declared.refusal.Refusal.{Refusal}
use Rattle.smv_tree.specs.declared.tree.Program.{Program}
use Rattle.smv_tree.specs.declared.tree.Section.{Section}
use Rattle.smv_tree.specs.declared.tree.Dimension.{Dimension}
use Rattle.smv_tree.specs.declared.tree.Expr.{Expr}
use Rattle.smv_tree.specs.declared.tree.Expr.TheVariants as expr
use Rattle.smv_tree.specs.declared.tree.Name.{Name}
use Rattle.smv_tree.specs.declared.tree.TypeExpr.{TypeExpr}
use Rattle.smv_tree.specs.declared.tree.Variable.{Variable}
use Rattle.smv_tree.specs.declared.tree.VariableKind.{VariableKind}
use Rattle.smv_scope.specs.Instances.{module_at}
use Rattle.smv_scope.specs.Lookup.{Target}
use Rattle.smv_scope.specs.Modules.{sections_of}
use Rattle.smv_resolve.specs.Resolved.{Resolved, followed, levelled, resolved_links}
use Rattle.smv_verdicts.specs.Verdicts.{first_of}
use Rattle.smv_declared.specs.Refusals.{dimension_limits, element_limits, limits_by, types_refusal_in, variable_refusal}

-- Expressions.

-- as what a name stands for it is the same in each instance of all modules
abbrev pub IsAlike : Expr → Type 0
IsAlike e = (p : Program) (n at to d : ℕ) → followed p n at e d ≡ followed p n to e d

-- a definition whose body is
abbrev pub LeadsAlike : Target → Type 0
LeadsAlike (Target.Defined at k e) = IsAlike e
LeadsAlike other = ⊥

-- it is the same in each instance of the module of this one
abbrev pub IsClosed : Program → ℕ → Expr → Type 0
IsClosed p from e = (to : ℕ) → module_at p to ≡ module_at p from → (n d : ℕ) → levelled p n to e d ≡ levelled p n from e d

abbrev pub IsClosedName : Program → ℕ → Name → Type 0
IsClosedName p from name = IsClosed p from (expr.Name name)

-- so is each of these: what is made of each is the same, if it is for all that are the same in each instance
abbrev pub AreClosed : Program → ℕ → List Expr → Type 0
AreClosed p from es = (f g : Expr → Resolved) → ((e : Expr) → IsClosed p from e → f e ≡ g e) → map f es ≡ map g es

-- so is each operand of these links
abbrev pub AreClosedLinks : Program → ℕ → List (Place × Operator × Expr) → Type 0
AreClosedLinks p from links =
    (f g : Expr → Resolved) → ((e : Expr) → IsClosed p from e → f e ≡ g e) → (left : Resolved) → resolved_links f left links ≡ resolved_links g left links

-- Declarations.

abbrev pub AreClosedLimits : Program → ℕ → Expr → Expr → Type 0
AreClosedLimits p from low high = (to : ℕ) → module_at p to ≡ module_at p from → limits_by p to low high ≡ limits_by p from low high

abbrev pub AreClosedDimensions : Program → ℕ → List Dimension → Type 0
AreClosedDimensions p from ds = (to : ℕ) → module_at p to ≡ module_at p from → map (dimension_limits p to) ds ≡ map (dimension_limits p from) ds

abbrev pub IsClosedType : Program → ℕ → TypeExpr → Type 0
IsClosedType p from t = (to : ℕ) → module_at p to ≡ module_at p from → element_limits p to t ≡ element_limits p from t

abbrev pub IsClosedVariable : Program → ℕ → Variable → Type 0
IsClosedVariable p from v = (to : ℕ) → module_at p to ≡ module_at p from → (kind : VariableKind) → variable_refusal p to kind v ≡ variable_refusal p from kind v

-- the first rule that a declaration breaks
abbrev pub refusal_of : Program → ℕ → VariableKind × Variable → Option Refusal
refusal_of p at x = variable_refusal p at x.0 x.1

-- what is lent, read
abbrev pub read : List (VariableKind × Bor Variable) → List (VariableKind × Variable)
read xs = map (λ (x : VariableKind × Bor Variable). (x.0, x.1.now)) xs

-- Where all of them break no rule in this instance, the others say of each instance of its module what all do.
abbrev pub SayAll : Program → ℕ → List (VariableKind × Variable) → List (VariableKind × Variable) → Type 0
SayAll p from all again =
    first_of (refusal_of p from) all ≡ None → (to : ℕ) → module_at p to ≡ module_at p from → first_of (refusal_of p to) again ≡ first_of (refusal_of p to) all

-- these say of each instance of this module what the sections do
abbrev pub SayInSections : Program → Option ℕ → List Section → List (VariableKind × Variable) → Type 0
SayInSections p m sections again = (to : ℕ) → module_at p to ≡ m → first_of (types_refusal_in p to) sections ≡ first_of (refusal_of p to) again

-- of each module that is noted, what is noted says what all its declarations do
abbrev pub AreJudged : {Z : Type 0} → Program → (ℕ → Option (Vec (VariableKind × Bor Variable) Z)) → Type 0
AreJudged {Z} p judged = (m : ℕ) (again : Vec (VariableKind × Bor Variable) Z) → judged m ≡ Some again → SayInSections p (Some m) (sections_of p m) (read again.items)
