-- What is asked so far, and then what is handed down so far.
use Rattle.std.proofs.Common.{◌≡◌, ◌↔◌, ℕ, Bool, true, length, take}
use Rattle.std.specs.List.{All}
use Rattle.bit_graph.specs.Meaning.{Consistent}
use Rattle.clause_core.specs.Literals.{Within}
use Rattle.bit_clauses.specs.Asserted.{all_hold}
use Rattle.bit_clauses.specs.Claims.{Meant}
use Rattle.bit_clauses.proofs.cutting.cut.Given as goal

abbrev pub invariant-asked : goal.invariant-asked
invariant-asked l = record {
  on : length l.claims.on.items ≡ length l.graph;
  off : length l.claims.off.items ≡ length l.graph;
  within : All (Within (length l.graph)) l.made;
  means : (v : ℕ → Bool) → Consistent v l.graph → Meant v l.made l.claims l.size ↔ (all_hold v (take l.e-index l.asked) ≡ true);
}

abbrev pub invariant-nodes : goal.invariant-nodes
invariant-nodes l = record {
  on : length l.claims.on.items ≡ length l.graph;
  off : length l.claims.off.items ≡ length l.graph;
  within : All (Within (length l.graph)) l.made;
  means : (v : ℕ → Bool) → Consistent v l.graph → Meant v l.made l.claims l.k ↔ (all_hold v l.asked ≡ true);
}
