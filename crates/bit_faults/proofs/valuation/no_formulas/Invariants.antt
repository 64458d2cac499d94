-- No edge of any node so far.
use Rattle.std.proofs.Common.{◌≡◌}
use Rattle.bit_faults.proofs.OfFormulas.{no_edges}
use Rattle.bit_faults.proofs.valuation.no_formulas.Given as goal

abbrev pub invariant-nodes : goal.invariant-nodes
invariant-nodes l = l.made ≡ no_edges l.i
