-- A name of a definition that is a literal is the same in each instance of a module.
use Rattle.std.proofs.Common.{◌≡◌, ℕ, zero, suc, Bool, true, false, cond, List, [], Option, None, Some, refl, sym, ap, subst, ◌∙◌}
use Rattle.std.specs.Prelude.{position, slice_get, bytes_eq}
use Rattle.smv_tree.specs.declared.tree.Program.{Program}
use Rattle.smv_tree.specs.declared.tree.Definition.{Definition}
use Rattle.smv_tree.specs.declared.tree.Parameter.{Parameter}
use Rattle.smv_tree.specs.declared.tree.Expr.{Expr}
use Rattle.smv_tree.specs.declared.tree.Expr.TheVariants as expr
use Rattle.smv_tree.specs.declared.tree.Identifier.{Identifier}
use Rattle.smv_tree.specs.declared.tree.Name.{Name}
use Rattle.smv_tree.specs.declared.tree.Start.{Start}
use Rattle.smv_tree.specs.declared.tree.Start.TheVariants as start
use Rattle.smv_tree.specs.declared.tree.Variable.{Variable}
use Rattle.smv_tree.specs.declared.tree.VariableKind.{VariableKind}
use Rattle.smv_scope.specs.declared.instance.Parent.{Parent}
use Rattle.smv_scope.specs.Holders.{holds, holder_number}
use Rattle.smv_scope.specs.Instances.{child_number, module_at}
use Rattle.smv_scope.specs.Lookup.{Target, argument_target, arguments_by, body_target, definition_target, depth_limit, given_by, holder_target, instance_target, instance_within, member_of_module, member_target, name_target, name_target_by, named_target, or_symbol, own_of_module, own_target, parameter_or_member, parent_at, start_target, symbol_target, variable_target}
use Rattle.smv_scope.specs.Modules.{definitions_of, parameters_of, variables_of}
use Rattle.smv_scope.specs.Enumerated.{symbol_number}
use Rattle.smv_resolve.specs.Levels.{levels_before, levels_before_members}
use Rattle.smv_resolve.specs.Resolved.{Resolved, followed, levelled, lowered, opened, place_of_start, resolved_name, resolved_target}
use Rattle.smv_resolve.specs.declared.node.Naming.TheVariants as naming
use Rattle.smv_resolve.proofs.NodesOf.{levelled-name}
use Rattle.smv_declared.specs.Closed.{IsAlike, IsClosed, LeadsAlike}

-- both are one definition of two instances, whose body is the same in both
record Agree (from to : ℕ) (here there : Target) : Type 0 where
  k : ℕ
  e : Expr
  alike : IsAlike e
  is : here ≡ Target.Defined from k e
  same : there ≡ Target.Defined to k e

body : (from to k : ℕ) (o : Option Definition) → LeadsAlike (body_target from k o) → Agree from to (body_target from k o) (body_target to k o)
body from to k None h = absurd h
body from to k (Some d) h = record { k = k; e = d.body; alike = h; is = refl; same = refl }

definition : (from to : ℕ) (ds : List Definition) (o : Option ℕ) → LeadsAlike (definition_target from ds o) → Agree from to (definition_target from ds o) (definition_target to ds o)
definition from to ds None h = absurd h
definition from to ds (Some k) h = body from to k (slice_get ds k) h

-- no variable is a definition
no_holder : (held : Bool) (number child : Option ℕ) → LeadsAlike (cond held (holder_target number) (instance_target child)) → ⊥
no_holder true None child h = h
no_holder true (Some n) child h = h
no_holder false number None h = h
no_holder false number (Some i) h = h

no_variable : (p : Program) (at v : ℕ) (o : Option (VariableKind × Variable)) → LeadsAlike (variable_target p at v o) → ⊥
no_variable p at v None h = h
no_variable p at v (Some x) h = no_holder (holds x.1) (holder_number p at v) (child_number p at v) h

-- nor is a parameter

no_argument : (at k owner : ℕ) (o : Option Expr) → LeadsAlike (argument_target at k owner o) → ⊥
no_argument at k owner None h = h
no_argument at k owner (Some e) h = h

no_parameter : (p : Program) (at k : ℕ) (o : Option Parent) → LeadsAlike (given_by p at k o) → ⊥
no_parameter p at k None h = h
no_parameter p at k (Some parent) h = no_argument at k parent.instance (slice_get (arguments_by p parent) k) h

no_symbol : (o : Option ℕ) → LeadsAlike (symbol_target o) → ⊥
no_symbol None h = h
no_symbol (Some n) h = h

module _ (p : Program) (from to : ℕ) (name : List ℕ) where
  named : (m : ℕ) (o : Option ℕ) → LeadsAlike (named_target p from m name o) → Agree from to (named_target p from m name o) (named_target p to m name o)
  named m None h = definition from to (definitions_of p m) (position (λ (d : Definition). bytes_eq name d.name) (definitions_of p m)) h
  named m (Some v) h = absurd (no_variable p from v (slice_get (variables_of p m) v) h)

  member : (o : Option ℕ) → LeadsAlike (member_of_module p from o name) → Agree from to (member_of_module p from o name) (member_of_module p to o name)
  member None h = absurd h
  member (Some m) h = named m (position (λ (x : VariableKind × Variable). bytes_eq name x.1.name) (variables_of p m)) h

  member_of_both : module_at p to ≡ module_at p from → LeadsAlike (member_target p from name) → Agree from to (member_target p from name) (member_target p to name)
  member_of_both same h =
      let P : Option ℕ → Type 0 = λ o. Agree from to (member_target p from name) (member_of_module p to o name) in
      subst P (sym same) (member (module_at p from) h)

  symbol : (here there : Target) → (LeadsAlike here → Agree from to here there) → LeadsAlike (or_symbol p name here) → Agree from to (or_symbol p name here) (or_symbol p name there)
  symbol (Target.Variable n) there agree h = absurd h
  symbol (Target.Whole i) there agree h = absurd h
  symbol (Target.Given at k owner e) there agree h = absurd h
  symbol (Target.Defined at k e) there agree h =
      let a = agree h in
      record { k = a.k; e = a.e; alike = a.alike; is = a.is; same = ap (or_symbol p name) a.same }
  symbol (Target.Symbol n) there agree h = absurd h
  symbol Target.Unknown there agree h = absurd (no_symbol (symbol_number p name) h)
  symbol Target.TooFar there agree h = absurd h

  parameter : module_at p to ≡ module_at p from → (o : Option ℕ) → LeadsAlike (parameter_or_member p from name o) →
      Agree from to (parameter_or_member p from name o) (parameter_or_member p to name o)
  parameter same None h = symbol (member_target p from name) (member_target p to name) (member_of_both same) h
  parameter same (Some k) h = absurd (no_parameter p from k (parent_at p from) h)

  own : module_at p to ≡ module_at p from → (o : Option ℕ) → LeadsAlike (own_of_module p from o name) → Agree from to (own_of_module p from o name) (own_of_module p to o name)
  own same None h = absurd h
  own same (Some m) h = parameter same (position (λ (x : Parameter). bytes_eq name x.name) (parameters_of p m)) h

  own_of_both : module_at p to ≡ module_at p from → LeadsAlike (own_target p from name) → Agree from to (own_target p from name) (own_target p to name)
  own_of_both same h =
      let P : Option ℕ → Type 0 = λ o. Agree from to (own_target p from name) (own_of_module p to o name) in
      subst P (sym same) (own same (module_at p from) h)

-- what a name without members is
plain_name : (p : Program) (at n d : ℕ) (name : Name) (x : Identifier) → name.start ≡ start.Own x → name.members ≡ [] →
    levelled p n at (expr.Name name) d ≡ resolved_target (λ owner e. opened (followed p n owner e) d) (place_of_start name.start) (own_target p at x.name)
unfolding levels_before name_target
plain_name p at n d name x begins alone =
    levelled-name p at n d name
    ∙ ap (λ (k : ℕ). lowered k (resolved_name p (followed p n) at name) d) (ap (levels_before_members p at name.start) alone)
    ∙ ap (λ (ms : List Identifier). resolved_target (λ owner e. opened (followed p n owner e) d) (place_of_start name.start) (name_target_by p (instance_within p depth_limit) at name.start ms)) alone
    ∙ ap (λ (s : Start). resolved_target (λ owner e. opened (followed p n owner e) d) (place_of_start name.start) (start_target p at s)) begins

opened_alike : (e : Expr) → IsAlike e → (p : Program) (n at to d : ℕ) → opened (followed p n at e) d ≡ opened (followed p n to e) d
opened_alike e alike p n at to zero = refl
opened_alike e alike p n at to (suc d) = alike p n at to d

pub closed-name : (p : Program) (from : ℕ) (name : Name) (x : Identifier) → name.start ≡ start.Own x → name.members ≡ [] → LeadsAlike (own_target p from x.name) →
    IsClosed p from (expr.Name name)
closed-name p from name x begins alone alike to same n d =
    let a = own_of_both p from to x.name same alike in
    let R = resolved_target (λ owner e. opened (followed p n owner e) d) (place_of_start name.start) in
    plain_name p to n d name x begins alone
    ∙ ap R a.same
    ∙ ap (λ (r : Resolved). Resolved.Named (place_of_start name.start) naming.Defined r) (opened_alike a.e a.alike p n to from d)
    ∙ sym (ap R a.is)
    ∙ sym (plain_name p from n d name x begins alone)
