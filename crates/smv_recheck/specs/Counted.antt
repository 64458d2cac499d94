-- The system by which the certificate of a temporal formula is judged.
use Rattle.std.specs.Prelude.{ℕ}
use Rattle.clause_core.specs.Systems.{TransitionSystem, Gives}
use Rattle.ltl_meaning.specs.Unfolded.{unfolded}
use Rattle.ltl_monitor.specs.Counted.{IsCounted}
use Rattle.ltl_monitor.specs.States.{IsMonitor}
use Rattle.smv_tree.specs.declared.tree.Program.{Program}
use Rattle.smv_resolve.specs.Items.{ResolvedItem}
use Rattle.bit_formula.specs.Standing.{FormulaSystem, StandsForFormula}

-- It counts signals up to k: it is that of the program and the formula, with the monitor of the formula beside it, and with the
-- signal and its counter beside that.
pub record IsCountedSystem (p : Program) (spec : ResolvedItem) (k : ℕ) (c : TransitionSystem) : Type 0 where
  pub formula : FormulaSystem
  pub monitor : TransitionSystem
  pub stands : StandsForFormula p spec formula
  pub monitored : IsMonitor formula.system (unfolded formula.formula) formula.atoms monitor
  pub gives : Gives monitor.state_bits monitor.fair monitor.defs
  pub counted : IsCounted monitor k c
