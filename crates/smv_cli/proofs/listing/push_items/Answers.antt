-- One more line, or none.
use Rattle.std.proofs.Common.{◌<◌, ◌∙◌, ◌++◌, ℕ, Vec, Global, None, get_or, length, ap, sym, arith, refl}
use Rattle.smv_resolve.specs.Items.{item_by}
use Rattle.smv_cli.specs.Listing.{items_text}
use Rattle.smv_cli.proofs.Listings.{items_told, none_shown}
use Rattle.smv_cli.proofs.listing.push_items.Goals as goal

pub loop-item-preserved : goal.loop-item-preserved
loop-item-preserved c =
    let p = c.args.typed.now.scope.program in
    let nodes = c.args.typed.now.nodes in
    let items = c.args.items.now in
    let i = c.loop-item.item-index in
    let old = c.args.text.now.items in
    let before = c.loop-item.invariant in
    let within : i < length items = c.loop-item-test.true in
    elim c.if-not-is_claim.branch [
      | goal.then-not-is_claim+in_ok-push_item b ↦
          let told = items_told p nodes items i (record { at = 0; kind = _; place = _; begins = _; target = None; value = 0 }) c.loop-item.number old c.loop-item.text.items b.push_item.new.text.items within (sym b.if-not-is_claim.ensures) before.counted before.lines (b.in_ok-push_item.ensures (item_by nodes (get_or items i (record { at = 0; kind = _; place = _; begins = _; target = None; value = 0 }))) refl refl refl) in
          record {
            lines = ap (λ (t : Vec ℕ Global). t.items) b.text-is ∙ told.0;
            counted = b.number-is ∙ told.1;
            small = omega (arith, b.number-is, before.small);
          }
      | goal.else-not-is_claim b ↦
          let shown = none_shown nodes items i (record { at = 0; kind = _; place = _; begins = _; target = None; value = 0 }) within (sym b.if-not-is_claim.ensures) in
          record {
            lines = ap (λ (t : Vec ℕ Global). t.items) b.text-is ∙ before.lines ∙ ap (λ l. old ++ items_text p 0 l) (sym shown);
            counted = b.number-is ∙ before.counted ∙ ap length (sym shown);
            small = omega (arith, b.number-is, before.small);
          }
    ]
