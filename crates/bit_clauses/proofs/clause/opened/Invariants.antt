-- The literals so far, and the edges that are left.
use Rattle.std.proofs.Common.{◌≡◌, ◌||◌, ℕ, Bool, drop, length}
use Rattle.std.specs.List.{All}
use Rattle.bit_graph.specs.Meaning.{Consistent, Stands}
use Rattle.clause_core.specs.Literals.{Within}
use Rattle.bit_clauses.specs.Nodes.{any_edge, any_true}
use Rattle.bit_clauses.proofs.clause.opened.Given as goal

abbrev pub invariant-parts : goal.invariant-parts
invariant-parts l = record {
  stand : All (Stands l.graph) l.parts.items;
  within : Within (length l.graph) l.clause.items;
  value : (v : ℕ → Bool) → Consistent v l.graph → (any_true v l.clause.items || any_edge v l.parts.items) ≡ any_edge v l.edges;
}

abbrev pub invariant-rest : goal.invariant-rest
invariant-rest l = record {
  within : Within (length l.graph) l.clause.items;
  value : (v : ℕ → Bool) → Consistent v l.graph → (any_true v l.clause.items || any_edge v (drop l.e-index l.e-items)) ≡ any_edge v l.edges;
}
