-- The laws of all lassos.
use Rattle.smv_meaning.proofs.Turns.{goes_on, without_back}
use Rattle.smv_meaning.proofs.lasso_runs.lassos.Goals as goal

pub returns-clause-steps : goal.returns-clause-steps
returns-clause-steps c = goes_on

pub returns-clause-run : goal.returns-clause-run
returns-clause-run c = without_back
