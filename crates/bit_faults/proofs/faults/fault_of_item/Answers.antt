-- The graph stays as it is where paths are spoken of.
use Rattle.bit_outcomes.proofs.Kept.{extends_refl}
use Rattle.bit_faults.proofs.faults.fault_of_item.Goals as goal

pub returns-in_ok-edge-clause-extends : goal.returns-in_ok-edge-clause-extends
returns-in_ok-edge-clause-extends c = extends_refl c.args.graph.now
