-- One more item, or none.
use Rattle.std.proofs.Common.{◌<◌, ◌∙◌, None, length, ap, sym, arith}
use Rattle.smv_cli.proofs.Listings.{none_shown, one_more_shown}
use Rattle.smv_cli.proofs.listing.count_listed.Goals as goal

pub loop-item-preserved : goal.loop-item-preserved
loop-item-preserved c =
    let items = c.args.items.now in
    let i = c.loop-item.item-index in
    let before = c.loop-item.invariant in
    let within : i < length items = c.loop-item-test.true in
    elim c.if-not-is_claim.branch [
      | goal.then-not-is_claim b ↦ record {
        counted = λ nodes. b.number-is ∙ one_more_shown nodes items i (record { at = 0; kind = _; place = _; begins = _; target = None; value = 0 }) c.loop-item.number within (sym b.if-not-is_claim.ensures) (before.counted nodes);
        small = omega (arith, b.number-is, before.small);
      }
      | goal.else-not-is_claim b ↦ record {
        counted = λ nodes. b.number-is ∙ before.counted nodes ∙ ap length (sym (none_shown nodes items i (record { at = 0; kind = _; place = _; begins = _; target = None; value = 0 }) within (sym b.if-not-is_claim.ensures)));
        small = omega (arith, b.number-is, before.small);
      }
    ]
