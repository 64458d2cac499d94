-- An own name that leads to a variable with a value, a definition or a symbol leads somewhere in each instance of its
-- module.
use Rattle.std.proofs.Common.{◌≡◌, ℕ, Bool, true, false, if◌then◌else◌, List, [], Option, None, Some, refl, sym, ap, subst, ◌∙◌}
use Rattle.std.specs.Prelude.{position, slice_get, bytes_eq}
use Rattle.smv_tree.specs.declared.tree.Program.{Program}
use Rattle.smv_tree.specs.declared.tree.Definition.{Definition}
use Rattle.smv_tree.specs.declared.tree.Expr.{Expr}
use Rattle.smv_tree.specs.declared.tree.Identifier.{Identifier}
use Rattle.smv_tree.specs.declared.tree.Name.{Name}
use Rattle.smv_tree.specs.declared.tree.Parameter.{Parameter}
use Rattle.smv_tree.specs.declared.tree.Start.{Start}
use Rattle.smv_tree.specs.declared.tree.Start.TheVariants as start
use Rattle.smv_tree.specs.declared.tree.Variable.{Variable}
use Rattle.smv_tree.specs.declared.tree.VariableKind.{VariableKind}
use Rattle.smv_scope.specs.declared.instance.Parent.{Parent}
use Rattle.smv_scope.specs.Enumerated.{symbol_number}
use Rattle.smv_scope.specs.Holders.{holds, holder_number, number_in}
use Rattle.smv_scope.specs.Instances.{child_number, module_at}
use Rattle.smv_scope.specs.Lookup.{Target, argument_target, arguments_by, body_target, definition_target, given_by, holder_target, instance_target, member_of_module, named_target, or_symbol, own_of_module, own_target, parameter_or_member, parent_at, symbol_target, variable_target}
use Rattle.smv_scope.specs.Modules.{definitions_of, parameters_of, variables_of}
use Rattle.smv_names.specs.Named.{unknown_from, unknown_last}
use Rattle.smv_names.specs.OpenNames.{IsClosedName, StaysKnown}

-- it leads somewhere
IsKnown : Target → Type 0
IsKnown t = (x : Identifier) → unknown_last x t ≡ None

-- no parameter is one of these

no_argument : (at k owner : ℕ) (o : Option Expr) → StaysKnown (argument_target at k owner o) → ⊥
no_argument at k owner None h = h
no_argument at k owner (Some e) h = h

no_parameter : (p : Program) (at k : ℕ) (o : Option Parent) → StaysKnown (given_by p at k o) → ⊥
no_parameter p at k None h = h
no_parameter p at k (Some parent) h = no_argument at k parent.instance (slice_get (arguments_by p parent) k) h

symbol_known : (o : Option ℕ) → StaysKnown (symbol_target o) → (x : Identifier) → unknown_last x (symbol_target o) ≡ None
symbol_known None h x = absurd h
symbol_known (Some n) h x = refl

module _ (p : Program) (from to m : ℕ) (name : List ℕ) (there : module_at p to ≡ Some m) where
  -- where the first stays known, or else the symbol of this name, so is the second
  Follows : Target → Target → Type 0
  Follows s t = StaysKnown (or_symbol p name s) → (x : Identifier) → unknown_last x (or_symbol p name t) ≡ None

  neither : StaysKnown (or_symbol p name Target.Unknown) → (x : Identifier) → unknown_last x (or_symbol p name Target.Unknown) ≡ None
  neither h x = symbol_known (symbol_number p name) h x

  child : (s t : Option ℕ) → StaysKnown (or_symbol p name (instance_target s)) → (x : Identifier) → unknown_last x (or_symbol p name (instance_target t)) ≡ None
  child (Some i) t h x = absurd h
  child None None h x = neither h x
  child None (Some i) h x = refl

  holder : (v : ℕ) (x : Identifier) → unknown_last x (or_symbol p name (holder_target (holder_number p to v))) ≡ None
  holder v x = ap (λ o. unknown_last x (or_symbol p name (holder_target (number_in p to v o)))) there

  typed : (v : ℕ) (held : Bool) → StaysKnown (or_symbol p name (if held then holder_target (holder_number p from v) else instance_target (child_number p from v)))
      → (x : Identifier) → unknown_last x (or_symbol p name (if held then holder_target (holder_number p to v) else instance_target (child_number p to v))) ≡ None
  typed v true h x = holder v x
  typed v false h x = child (child_number p from v) (child_number p to v) h x

  variable : (v : ℕ) (o : Option (VariableKind × Variable)) → StaysKnown (or_symbol p name (variable_target p from v o)) → (x : Identifier) → unknown_last x (or_symbol p name (variable_target p to v o)) ≡ None
  variable v None h x = neither h x
  variable v (Some y) h x = typed v (holds y.1) h x

  body : (k : ℕ) (o : Option Definition) → StaysKnown (or_symbol p name (body_target from k o)) → (x : Identifier) → unknown_last x (or_symbol p name (body_target to k o)) ≡ None
  body k None h x = neither h x
  body k (Some d) h x = refl

  definition : (ds : List Definition) (o : Option ℕ) → StaysKnown (or_symbol p name (definition_target from ds o)) → (x : Identifier) → unknown_last x (or_symbol p name (definition_target to ds o)) ≡ None
  definition ds None h x = neither h x
  definition ds (Some k) h x = body k (slice_get ds k) h x

  named : (o : Option ℕ) → StaysKnown (or_symbol p name (named_target p from m name o)) → (x : Identifier) → unknown_last x (or_symbol p name (named_target p to m name o)) ≡ None
  named (Some v) h x = variable v (slice_get (variables_of p m) v) h x
  named None h x = definition (definitions_of p m) (position (λ (d : Definition). bytes_eq name d.name) (definitions_of p m)) h x

  member : module_at p from ≡ Some m → StaysKnown (or_symbol p name (member_of_module p from (module_at p from) name)) → (x : Identifier) → unknown_last x (or_symbol p name (member_of_module p to (module_at p to) name)) ≡ None
  member here h x =
      let P : Option ℕ → Type 0 = λ o. StaysKnown (or_symbol p name (member_of_module p from o name)) in
      ap (λ o. unknown_last x (or_symbol p name (member_of_module p to o name))) there
      ∙ named (position (λ (y : VariableKind × Variable). bytes_eq name y.1.name) (variables_of p m)) (subst P here h) x

  own : module_at p from ≡ Some m → (o : Option ℕ) → StaysKnown (parameter_or_member p from name o) → (x : Identifier) → unknown_last x (parameter_or_member p to name o) ≡ None
  own here (Some k) h x = absurd (no_parameter p from k (parent_at p from) h)
  own here None h x = member here h x

module _ (p : Program) (from to : ℕ) (name : List ℕ) where
  own_of : (o : Option ℕ) → module_at p from ≡ o → module_at p to ≡ o → StaysKnown (own_of_module p from o name) → (x : Identifier) → unknown_last x (own_of_module p to o name) ≡ None
  own_of None here there h x = absurd h
  own_of (Some m) here there h x = own p from to m name there here (position (λ (y : Parameter). bytes_eq name y.name) (parameters_of p m)) h x

  pub own_known : module_at p to ≡ module_at p from → StaysKnown (own_target p from name) → (x : Identifier) → unknown_last x (own_target p to name) ≡ None
  own_known same h x =
      let P : Option ℕ → Type 0 = λ o. unknown_last x (own_of_module p to o name) ≡ None in
      subst P (sym same) (own_of (module_at p from) refl same h x)

pub closed_own : (p : Program) (from : ℕ) (name : Name) (x : Identifier) → name.start ≡ start.Own x → name.members ≡ [] → StaysKnown (own_target p from x.name) → IsClosedName p from name
closed_own p from name x is alone h to same =
    ap (λ (s : Start). unknown_from p to s name.members) is ∙ ap (unknown_from p to (start.Own x)) alone ∙ own_known p from to x.name same h x

pub closed_itself : (p : Program) (from : ℕ) (name : Name) (s : Start) → name.members ≡ [] → name.start ≡ s → ((at : ℕ) → unknown_from p at s [] ≡ None) → IsClosedName p from name
closed_itself p from name s alone is none to same =
    ap (λ (t : Start). unknown_from p to t name.members) is ∙ ap (unknown_from p to s) alone ∙ none to
