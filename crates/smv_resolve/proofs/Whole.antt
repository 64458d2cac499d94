-- The items of all instances are those of the program.
use Rattle.std.proofs.Common.{◌≡◌, List, [], ◌++◌, map, None, Err, sym, ap, ◌∙◌}
use Rattle.smv_tree.specs.declared.tree.Program.{Program}
use Rattle.smv_scope.specs.declared.instance.Instance.{Instance}
use Rattle.smv_resolve.specs.declared.node.ExprNode.{ExprNode}
use Rattle.smv_resolve.specs.declared.item.Item.{Item}
use Rattle.smv_resolve.specs.declared.resolve.ResolveStop.{ResolveStop}
use Rattle.smv_resolve.specs.declared.resolve.ResolveStop.TheVariants as stop
use Rattle.smv_scope.specs.Instances.{instances_of}
use Rattle.smv_resolve.specs.Items.{items_below, items_of, item_by, first_stuck}
use Rattle.smv_resolve.specs.Listing.{AllStand, Added, Adds}
use Rattle.smv_resolve.specs.Answers.{ResolvesItems}

pub none_stand : (nodes : List ExprNode) (items : List Item) → items ≡ [] → AllStand nodes items
unfolding AllStand
none_stand nodes items e = rw e tt

module _ (p : Program) (tree slice : List Instance) (old new : List ExprNode) (before after : List Item) where
  pub all_added : slice ≡ tree → tree ≡ instances_of p → before ≡ [] → Added old new before after (items_below p 0 slice) →
      (map (item_by new) after ≡ items_of p) × (first_stuck (items_of p) ≡ None)
  unfolding items_of
  all_added s t b a =
      let e : items_below p 0 slice ≡ items_below p 0 (instances_of p) = ap (items_below p 0) (s ∙ t) in
      (a.items ∙ ap (λ (xs : List Item). map (item_by old) xs ++ items_below p 0 slice) b ∙ e, ap first_stuck (sym e) ∙ a.clear)

  pub all_halts : (h : ResolveStop) → slice ≡ tree → tree ≡ instances_of p → Adds old new before after (items_below p 0 slice) (Err h) → ResolvesItems p (Err h)
  unfolding items_of
  all_halts (stop.Stuck place) s t a =
      let e : items_below p 0 slice ≡ items_below p 0 (instances_of p) = ap (items_below p 0) (s ∙ t) in
      ap first_stuck (sym e) ∙ a
  all_halts stop.NoMemory s t a = tt
