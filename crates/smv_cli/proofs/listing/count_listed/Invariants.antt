-- The items so far are counted, whatever nodes they stand over.
use Rattle.std.proofs.Common.{◌≡◌, ◌≤◌, List, length}
use Rattle.smv_resolve.specs.declared.node.ExprNode.{ExprNode}
use Rattle.smv_cli.proofs.Listings.{shown_items}
use Rattle.smv_cli.proofs.listing.count_listed.Given as goal

abbrev pub invariant-loop-item : goal.invariant-loop-item
invariant-loop-item l = record {
  counted : (nodes : List ExprNode) → l.number ≡ length (shown_items nodes l.item-index l.items);
  small : l.number ≤ l.item-index;
}
