use Rattle.std.proofs.Common.{◌≡◌, ℕ, ◌+◌, ◌*◌, ◌≤◌, take, None}
use Rattle.smv_tree.specs.declared.tree.Expr.{Expr}
use Rattle.smv_resolve.specs.Resolved.{levelled, resolved_links}
use Rattle.smv_resolve.specs.Finding.{IsFound, Grows, AllKnown}
use Rattle.smv_resolve.specs.StuckParts.{stuck_part}
use Rattle.smv_resolve.proofs.Levels.{AreFound, beside_to, below_to, levelled_at}
use Rattle.smv_resolve.proofs.StuckParts.{NoneOf, link_part, below_part, part_at}
use Rattle.smv_resolve.proofs.expressions.+expressions.Given as goal

abbrev pub decreases-find : goal.decreases-find
decreases-find l = 6 * l.room

abbrev pub decreases-find_below : goal.decreases-find_below
decreases-find_below l = 6 * l.room + 1

abbrev pub decreases-find_shared : goal.decreases-find_shared
decreases-find_shared l = 6 * l.room + 2

abbrev pub decreases-find_named : goal.decreases-find_named
decreases-find_named l = 6 * l.room + 3

abbrev pub decreases-find_name : goal.decreases-find_name
decreases-find_name l = 6 * l.room + 5

abbrev pub decreases-find_target : goal.decreases-find_target
decreases-find_target l = 6 * l.room + 4

abbrev pub decreases-find_next : goal.decreases-find_next
decreases-find_next l = 6 * l.room + 2

abbrev pub decreases-find_apply : goal.decreases-find_apply
decreases-find_apply l = 6 * l.room + 2

abbrev pub decreases-find_chain : goal.decreases-find_chain
decreases-find_chain l = 6 * l.room + 2

-- the chain up to the link
abbrev pub invariant-find_chain-loop-link : goal.invariant-find_chain-loop-link
invariant-find_chain-loop-link l = record {
  known : AllKnown l.scope.program l.memo;
  grows : Grows l.initial.memo.nodes l.memo.nodes;
  found : IsFound l.memo.nodes l.depth (λ n d. resolved_links (λ (e : Expr). levelled l.scope.program n l.at e d) (levelled l.scope.program n l.at l.first d) (take l.link-index l.links)) l.left;
  start : (n : ℕ) → l.depth ≤ n → stuck_part l.scope.program n l.at l.first l.depth ≡ None;
  none : NoneOf l.depth (link_part (part_at l.scope.program l.at)) (take l.link-index l.links);
}

-- the operands so far
abbrev pub invariant-find_apply-loop-e : goal.invariant-find_apply-loop-e
invariant-find_apply-loop-e l = record {
  known : AllKnown l.scope.program l.memo;
  grows : Grows l.initial.memo.nodes l.memo.nodes;
  found : AreFound l.memo.nodes l.depth (beside_to (levelled_at l.scope.program l.at) l.beside l.below l.e-index) l.operands.items l.height;
  none : NoneOf l.depth (part_at l.scope.program l.at) (take l.e-index l.beside);
}

abbrev pub invariant-find_apply-loop-lower : goal.invariant-find_apply-loop-lower
invariant-find_apply-loop-lower l = record {
  known : AllKnown l.scope.program l.memo;
  grows : Grows l.fn.memo.nodes l.memo.nodes;
  found : AreFound l.memo.nodes l.depth (below_to (levelled_at l.scope.program l.at) l.beside l.below l.lower-index) l.operands.items l.height;
  first : NoneOf l.depth (part_at l.scope.program l.at) l.beside;
  none : NoneOf l.depth (below_part l.place (part_at l.scope.program l.at)) (take l.lower-index l.below);
}
