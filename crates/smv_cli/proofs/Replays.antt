-- The trace of a run that breaks a specification, or of a lasso that violates it, is accepted.
use Rattle.std.proofs.Common.{◌≡◌, Contains, ◌↔◌, ◌≤◌, ◌-◌, ℕ, Bool, true, List, length, Some, IfSome, ap, subst, arith}
use Rattle.std.proofs.lemmas.List.Elements.{All-contains_itself, All-filter}
use Rattle.std.proofs.lemmas.Option.{get_or_from_slice_get, slice_get_within}
use Rattle.std.specs.declared.option.Option.{Option}
use Rattle.smv_tree.specs.declared.tree.Program.{Program}
use Rattle.smv_tree.specs.declared.tree.SpecificationKind.TheVariants as claim
use Rattle.smv_value.specs.declared.value.Value.{Value}
use Rattle.smv_resolve.specs.declared.item.ItemKind.{ItemKind}
use Rattle.smv_resolve.specs.declared.item.ItemKind.TheVariants as item
use Rattle.smv_resolve.specs.Items.{ResolvedItem}
use Rattle.smv_layout.specs.Layout.{items_of}
use Rattle.smv_meaning.specs.Faults.{IsFaultFree, speaks_of_paths}
use Rattle.smv_meaning.specs.Lassos.{Lasso, Violates}
use Rattle.smv_meaning.specs.Runs.{Breaks, is_claim, specifications_of}
use Rattle.bit_states.specs.Layouts.{HasTypes, input_types}
use Rattle.bit_conditions.specs.Inhabited.{all_have_values}
use Rattle.trace_replay.specs.declared.rule.ReplayRule.{ReplayRule}
use Rattle.trace_replay.specs.declared.rule.Replayed.{Replayed}
use Rattle.trace_replay.specs.declared.rule.Replayed.TheVariants.{Accepted, Rejected}
use Rattle.trace_replay.specs.declared.trace.Trace.{Trace}
use Rattle.trace_replay.specs.Lassos.{Shows, ShowsViolated, lasso_trace}
use Rattle.trace_replay.specs.Rows.{run_trace}
use Rattle.trace_replay.specs.Tests.{ShowsBroken, specification_at}
use Rattle.trace_replay.proofs.FaultFree.{free_lasso, free_run}
use Rattle.smv_cli.proofs.SomeInputs.{some_inputs}

pub is_numbered : (p : Program) (number : ℕ) (spec : ResolvedItem) → specification_at p number ≡ Some spec → number ≤ length (specifications_of p)
is_numbered p number spec h = let within = slice_get_within (specifications_of p) (number - 1) spec h in omega (arith, within)

-- a specification that has a number is one of the program
pub is_among : (p : Program) (number : ℕ) (spec : ResolvedItem) → specification_at p number ≡ Some spec → Contains (specifications_of p) spec
is_among p number spec h =
    let specs = specifications_of p in
    (number - 1, slice_get_within specs (number - 1) spec h, get_or_from_slice_get specs (number - 1) spec spec h)

-- nothing faults along a run, where no item of the program faults and there are inputs
pub shown : (p : Program) → IsFaultFree p → HasTypes p → all_have_values (input_types p) ≡ true → (spec : ResolvedItem) (states inputs : List (List Value)) (t : Trace)
    → t ≡ run_trace p states inputs → Breaks p spec states inputs → ShowsBroken p spec t
shown p free types have spec states inputs t told broken =
    let some = some_inputs p types have in
    record { states = states; inputs = inputs; told = told; broken = broken; faultless = free_run p free some.given some.typed states inputs broken.run }

pub never_rejected : (p : Program) (number : ℕ) (spec : ResolvedItem) (t : Trace) (r : Replayed) (rule : ReplayRule) (n : ℕ) → specification_at p number ≡ Some spec
    → IfSome (specification_at p number) (λ x. (r ≡ Accepted) ↔ ShowsBroken p x t) → ShowsBroken p spec t → r ≡ Rejected rule n → ⊥
never_rejected p number spec t r rule n numbered h broken is =
    let both = subst (λ (o : Option ResolvedItem). IfSome o (λ x. (r ≡ Accepted) ↔ ShowsBroken p x t)) numbered h in
    let accepted : r ≡ Accepted = both.1 broken in
    let never : ⊥ = cc in never

-- nor along a lasso
pub shown_by_lasso : (p : Program) → IsFaultFree p → (number : ℕ) (spec : ResolvedItem) → specification_at p number ≡ Some spec → spec.kind ≡ item.Specification claim.Temporal
    → (w : Lasso) (t : Trace) → t ≡ lasso_trace p w → Violates p spec w → ShowsViolated p spec t
shown_by_lasso p free number spec numbered kind w t told violates =
    let found = is_among p number spec numbered in
    let claimed : ResolvedItem → Bool = λ x. is_claim x.kind in
    let within : Contains (items_of p) spec =
    subst (Contains (items_of p)) found.2 (All-filter claimed (Contains (items_of p)) (items_of p) (All-contains_itself (items_of p)) found.0 spec found.1) in
    record { lasso = w; told = told; violates = violates; faultless = free_lasso p free spec within (ap speaks_of_paths kind) w violates.lasso.lasso }

pub lasso_never_rejected : (p : Program) (number : ℕ) (spec : ResolvedItem) (t : Trace) (r : Replayed) (rule : ReplayRule) (n : ℕ) → specification_at p number ≡ Some spec
    → spec.kind ≡ item.Specification claim.Temporal → IfSome (specification_at p number) (λ x. Shows x.kind p x t r) → ShowsViolated p spec t → r ≡ Rejected rule n → ⊥
lasso_never_rejected p number spec t r rule n numbered temporal h violated is =
    let at_spec = subst (λ (o : Option ResolvedItem). IfSome o (λ x. Shows x.kind p x t r)) numbered h in
    let both : (r ≡ Accepted) ↔ ShowsViolated p spec t = subst (λ (k : ItemKind). Shows k p spec t r) temporal at_spec in
    let accepted : r ≡ Accepted = both.1 violated in
    let never : ⊥ = cc in never
