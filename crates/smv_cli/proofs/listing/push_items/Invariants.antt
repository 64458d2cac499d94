-- The lines of the items so far are there, and the next number is known.
use Rattle.std.proofs.Common.{◌≡◌, ◌≤◌, ◌++◌, length}
use Rattle.smv_cli.specs.Listing.{items_text}
use Rattle.smv_cli.proofs.Listings.{shown_items}
use Rattle.smv_cli.proofs.listing.push_items.Given as goal

abbrev pub invariant-loop-item : goal.invariant-loop-item
invariant-loop-item l = record {
  lines : l.text.items ≡ l.initial.text.items ++ items_text l.typed.scope.program 0 (shown_items l.typed.nodes l.item-index l.items);
  counted : l.number ≡ length (shown_items l.typed.nodes l.item-index l.items);
  small : l.number ≤ l.item-index;
}
