use Rattle.std.proofs.Common.{◌≡◌, ℕ, ◌<◌, length}
use Rattle.bit_graph.specs.Values.{assigned, values}
use Rattle.bit_graph.proofs.evaluation.evaluate.Given as goal

abbrev pub invariant-nodes : goal.invariant-nodes
invariant-nodes l = record {
  count : length l.known.items ≡ l.k;
  value : (j : ℕ) → j < l.k → assigned l.known.items j ≡ values (assigned l.inputs) l.graph j;
}
