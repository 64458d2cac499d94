-- The literals of the atoms are given, and what is built has monitor and counter.
use Rattle.std.proofs.Common.{Err, List, Ok, Result, sym, subst, ℕ}
use Rattle.std.specs.Prelude.{IfOk}
use Rattle.clause_core.specs.declared.literal.Lit.{Lit}
use Rattle.clause_core.specs.Systems.{Gives, TransitionSystem}
use Rattle.ltl_meaning.specs.Temporal.{Temporal, formula_of}
use Rattle.ltl_meaning.specs.Unfolded.{unfolded}
use Rattle.ltl_monitor.specs.Counted.{IsCounted}
use Rattle.ltl_monitor.specs.States.{IsMonitor}
use Rattle.smv_tree.specs.declared.tree.Program.{Program}
use Rattle.smv_resolve.specs.Items.{ResolvedItem, item_by}
use Rattle.bit_formula.specs.Standing.{FormulaSystem, StandsForFormula}
use Rattle.smv_recheck.specs.Counted.{IsCountedSystem}
use Rattle.smv_recheck.proofs.Gives.{gives_right}
use Rattle.smv_recheck.proofs.counting.counted_system.Goals as goal

module _ (p : Program) (spec : ResolvedItem) (r : FormulaSystem) (stands : StandsForFormula p spec r) where
  given : Gives r.system.state_bits r.atoms r.system.defs
  given = subst (λ (n : ℕ). Gives n r.atoms r.system.defs) (sym stands.bits) (gives_right _ r.system.fair r.atoms r.system.defs stands.defs)

  counted : {E : Type 0} (m : TransitionSystem) (k : ℕ) (made : Result TransitionSystem E) → IsMonitor r.system (unfolded r.formula) r.atoms m → Gives m.state_bits m.fair m.defs → IfOk made (IsCounted m k) → IfOk made (IsCountedSystem p spec k)
  counted m k (Ok c) monitored gives is = record { formula = r; monitor = m; stands = stands; monitored = monitored; gives = gives; counted = is }
  counted m k (Err e) monitored gives is = is

pub monitored-requires-clause-numbers : goal.monitored-requires-clause-numbers
monitored-requires-clause-numbers c = rw (c.atoms.ensures, c.formula.ensures) c.in_ok-built.ensures.numbers

pub monitored-requires-clause-within : goal.monitored-requires-clause-within
monitored-requires-clause-within c = rw (c.system.ensures, c.atoms.ensures) c.in_ok-built.ensures.within

pub monitored-requires-clause-given : goal.monitored-requires-clause-given
monitored-requires-clause-given c =
    let r = c.in_ok-built.built in
    rw (c.system.ensures, c.atoms.ensures) (given c.args.flat.now.typed.scope.program (item_by c.args.flat.now.typed.nodes c.args.spec.now) r c.in_ok-built.ensures)

pub returns : goal.returns
returns c =
    let r = c.in_ok-built.built in
    let m = c.in_ok-monitored.monitored.system in
    let monitors : IsMonitor r.system (unfolded r.formula) r.atoms m =
    subst (λ (s : TransitionSystem). IsMonitor s (unfolded r.formula) r.atoms m) c.system.ensures
    (subst (λ (f : Temporal). IsMonitor c.system.result.now (unfolded f) r.atoms m) c.formula.ensures
    (subst (λ (atoms : List Lit). IsMonitor c.system.result.now (unfolded (formula_of c.formula.result.now.root)) atoms m) c.atoms.ensures c.in_ok-monitored.ensures)) in
    counted c.args.flat.now.typed.scope.program (item_by c.args.flat.now.typed.nodes c.args.spec.now) r c.in_ok-built.ensures m c.args.bound c.counted.result monitors c.law.ensures.gives c.counted.ensures
