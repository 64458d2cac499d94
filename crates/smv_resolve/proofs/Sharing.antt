-- What a name leads to is told by the number of the parameter or of the definition.
use Rattle.std.proofs.Common.{◌≡◌, ℕ, Bool, false, true, if◌then◌else◌, List, [], ◌∷◌, Option, Some, None, refl, sym, ap, ◌∙◌, subst}
use Rattle.std.specs.Prelude.{position, slice_get, bytes_eq}
use Rattle.smv_tree.specs.declared.tree.Program.{Program}
use Rattle.smv_tree.specs.declared.tree.Parameter.{Parameter}
use Rattle.smv_tree.specs.declared.tree.Variable.{Variable}
use Rattle.smv_tree.specs.declared.tree.VariableKind.{VariableKind}
use Rattle.smv_tree.specs.declared.tree.Definition.{Definition}
use Rattle.smv_tree.specs.declared.tree.Identifier.{Identifier}
use Rattle.smv_tree.specs.declared.tree.Name.{Name}
use Rattle.smv_tree.specs.declared.tree.Start.{Start}
use Rattle.smv_tree.specs.declared.tree.Start.TheVariants as start
use Rattle.smv_tree.specs.declared.tree.Expr.{Expr}
use Rattle.smv_scope.specs.declared.instance.Parent.{Parent}
use Rattle.smv_scope.specs.Modules.{parameters_of, variables_of, definitions_of}
use Rattle.smv_scope.specs.Instances.{child_number, module_at}
use Rattle.smv_scope.specs.Holders.{holds, holder_number}
use Rattle.smv_scope.specs.Enumerated.{symbol_number}
use Rattle.smv_scope.specs.Lookup.{Target, holder_target, instance_target, typed_target, variable_target, body_target, definition_target, named_target, member_of_module, member_target, arguments_by, argument_target, given_by, parent_at, symbol_target, or_symbol, parameter_or_member, own_of_module, start_target, behind_instance, members_target, before_members, whole_only, name_target_by, instance_within, depth_limit, name_target}
use Rattle.smv_resolve.specs.Resolved.{Resolved}
use Rattle.smv_resolve.specs.Finding.{definition_in, shared_target, below_target}

-- what the target says of a parameter or of a definition is so
abbrev Right : Program → Target → Type 0
Right p (Target.Given at k owner e) = given_by p at k (parent_at p at) ≡ Target.Given at k owner e
Right p (Target.Defined at k e) = definition_in p at k (module_at p at) ≡ Target.Defined at k e
Right p (Target.Variable n) = Unit {0}
Right p (Target.Whole i) = Unit {0}
Right p (Target.Symbol n) = Unit {0}
Right p Target.Unknown = Unit {0}
Right p Target.TooFar = Unit {0}

right_holder : (p : Program) (o : Option ℕ) → Right p (holder_target o)
right_holder p None = tt
right_holder p (Some n) = tt

right_instance : (p : Program) (o : Option ℕ) → Right p (instance_target o)
right_instance p None = tt
right_instance p (Some n) = tt

right_typed : (p : Program) (at v : ℕ) (x : Variable) → Right p (typed_target p at v x)
right_typed p at v x = by (holds x)
  where
    by : (b : Bool) → Right p (if b then holder_target (holder_number p at v) else instance_target (child_number p at v))
    by true = right_holder p (holder_number p at v)
    by false = right_instance p (child_number p at v)

right_variable : (p : Program) (at v : ℕ) (o : Option (VariableKind × Variable)) → Right p (variable_target p at v o)
right_variable p at v None = tt
right_variable p at v (Some x) = right_typed p at v x.1

right_body : (p : Program) (at k m : ℕ) (o : Option Definition) → module_at p at ≡ Some m → slice_get (definitions_of p m) k ≡ o → Right p (body_target at k o)
right_body p at k m None e is = tt
right_body p at k m (Some d) e is = ap (definition_in p at k) e ∙ ap (body_target at k) is

right_definition : (p : Program) (at m : ℕ) (o : Option ℕ) → module_at p at ≡ Some m → Right p (definition_target at (definitions_of p m) o)
right_definition p at m None e = tt
right_definition p at m (Some k) e = right_body p at k m (slice_get (definitions_of p m) k) e refl

right_named : (p : Program) (at m : ℕ) (name : List ℕ) (o : Option ℕ) → module_at p at ≡ Some m → Right p (named_target p at m name o)
right_named p at m name None e = right_definition p at m (position (λ (d : Definition). bytes_eq name d.name) (definitions_of p m)) e
right_named p at m name (Some v) e = right_variable p at v (slice_get (variables_of p m) v)

right_member_of : (p : Program) (at : ℕ) (name : List ℕ) (o : Option ℕ) → module_at p at ≡ o → Right p (member_of_module p at o name)
right_member_of p at name None e = tt
right_member_of p at name (Some m) e = right_named p at m name (position (λ (x : VariableKind × Variable). bytes_eq name x.1.name) (variables_of p m)) e

right_member : (p : Program) (at : ℕ) (name : List ℕ) → Right p (member_target p at name)
right_member p at name = right_member_of p at name (module_at p at) refl

right_argument : (p : Program) (at k : ℕ) (parent : Parent) (o : Option Expr) → parent_at p at ≡ Some parent → slice_get (arguments_by p parent) k ≡ o →
    Right p (argument_target at k parent.instance o)
right_argument p at k parent None e is = tt
right_argument p at k parent (Some x) e is = ap (given_by p at k) e ∙ ap (argument_target at k parent.instance) is

right_given : (p : Program) (at k : ℕ) (o : Option Parent) → parent_at p at ≡ o → Right p (given_by p at k o)
right_given p at k None e = tt
right_given p at k (Some parent) e = right_argument p at k parent (slice_get (arguments_by p parent) k) e refl

right_symbol : (p : Program) (o : Option ℕ) → Right p (symbol_target o)
right_symbol p None = tt
right_symbol p (Some n) = tt

right_or_symbol : (p : Program) (name : List ℕ) (t : Target) → Right p t → Right p (or_symbol p name t)
right_or_symbol p name (Target.Variable n) r = r
right_or_symbol p name (Target.Whole i) r = r
right_or_symbol p name (Target.Given at k owner e) r = r
right_or_symbol p name (Target.Defined at k e) r = r
right_or_symbol p name (Target.Symbol n) r = r
right_or_symbol p name Target.Unknown r = right_symbol p (symbol_number p name)
right_or_symbol p name Target.TooFar r = r

right_parameter : (p : Program) (at : ℕ) (name : List ℕ) (o : Option ℕ) → Right p (parameter_or_member p at name o)
right_parameter p at name None = right_or_symbol p name (member_target p at name) (right_member p at name)
right_parameter p at name (Some k) = right_given p at k (parent_at p at) refl

right_own_of : (p : Program) (at : ℕ) (name : List ℕ) (o : Option ℕ) → Right p (own_of_module p at o name)
right_own_of p at name None = tt
right_own_of p at name (Some m) = right_parameter p at name (position (λ (x : Parameter). bytes_eq name x.name) (parameters_of p m))

right_start : (p : Program) (at : ℕ) (s : Start) → Right p (start_target p at s)
right_start p at (start.Own x) = right_own_of p at x.name (module_at p at)
right_start p at (start.Itself place) = tt

right_behind : (p : Program) (go : ℕ → Target) → ((i : ℕ) → Right p (go i)) → (t : Target) → Right p (behind_instance go t)
right_behind p go h (Target.Variable n) = tt
right_behind p go h (Target.Whole i) = h i
right_behind p go h (Target.Given at k owner e) = tt
right_behind p go h (Target.Defined at k e) = tt
right_behind p go h (Target.Symbol n) = tt
right_behind p go h Target.Unknown = tt
right_behind p go h Target.TooFar = tt

right_members : (p : Program) (xs : List Identifier) (at : ℕ) → Right p (members_target p at xs)
right_members p [] at = tt
right_members p (x ∷ []) at = right_member p at x.name
right_members p (x ∷ y ∷ rest) at = right_behind p (λ i. members_target p i (y ∷ rest)) (λ i. right_members p (y ∷ rest) i) (member_target p at x.name)

right_whole : (p : Program) (go : ℕ → Target) → ((i : ℕ) → Right p (go i)) → (t : Target) → Right p (whole_only go t)
right_whole p go h (Target.Variable n) = tt
right_whole p go h (Target.Whole i) = h i
right_whole p go h (Target.Given at k owner e) = tt
right_whole p go h (Target.Defined at k e) = tt
right_whole p go h (Target.Symbol n) = tt
right_whole p go h Target.Unknown = tt
right_whole p go h Target.TooFar = tt

right_before : (p : Program) (given : ℕ → Expr → Target) (go : ℕ → Target) → ((i : ℕ) (e : Expr) → Right p (given i e)) → ((i : ℕ) → Right p (go i)) → (t : Target) →
    Right p (before_members given go t)
right_before p given go g h (Target.Variable n) = tt
right_before p given go g h (Target.Whole i) = h i
right_before p given go g h (Target.Given at k owner e) = g owner e
right_before p given go g h (Target.Defined at k e) = tt
right_before p given go g h (Target.Symbol n) = tt
right_before p given go g h Target.Unknown = tt
right_before p given go g h Target.TooFar = tt

right_by : (p : Program) (instance : ℕ → Expr → Target) (at : ℕ) (s : Start) (xs : List Identifier) → Right p (name_target_by p instance at s xs)
right_by p instance at s [] = right_start p at s
right_by p instance at s (x ∷ rest) =
    right_before p (λ owner e. whole_only (λ i. members_target p i (x ∷ rest)) (instance owner e)) (λ i. members_target p i (x ∷ rest))
    (λ owner e. right_whole p (λ i. members_target p i (x ∷ rest)) (λ i. right_members p (x ∷ rest) i) (instance owner e)) (λ i. right_members p (x ∷ rest) i)
    (start_target p at s)

right_name : (p : Program) (at : ℕ) (name : Name) → Right p (name_target p at name)
unfolding name_target
right_name p at name = right_by p (instance_within p depth_limit) at name.start name.members

-- a parameter
pub shared_given : (p : Program) (i : ℕ) (name : Name) (at k owner : ℕ) (e : Expr) → Target.Given at k owner e ≡ name_target p i name →
    (below : ℕ → Expr → Resolved) → below_target below (shared_target p (record { is_definition = false; at = at; number = k })) ≡ below owner e
unfolding shared_target
shared_given p i name at k owner e is below =
    let r : Right p (Target.Given at k owner e) = (let P : Target → Type 0 = Right p in subst P (sym is) (right_name p i name)) in
    ap (below_target below) r

-- a definition
pub shared_defined : (p : Program) (i : ℕ) (name : Name) (at k : ℕ) (e : Expr) → Target.Defined at k e ≡ name_target p i name →
    (below : ℕ → Expr → Resolved) → below_target below (shared_target p (record { is_definition = true; at = at; number = k })) ≡ below at e
unfolding shared_target
shared_defined p i name at k e is below =
    let r : Right p (Target.Defined at k e) = (let P : Target → Type 0 = Right p in subst P (sym is) (right_name p i name)) in
    ap (below_target below) r
