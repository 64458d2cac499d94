use Rattle.std.proofs.Common.{◌*◌, ◌+◌, drop, ap, ◌∙◌}
use Rattle.smv_declared.specs.Types.{size_of}
use Rattle.smv_slots.proofs.Elements.{size_more}
use Rattle.smv_slots.proofs.sizes.size_of.Goals as goal

pub loop-bounds-preserved : goal.loop-bounds-preserved
loop-bounds-preserved c =
    let bs = c.args.dimensions.now in
    let i = c.loop-bounds.bounds-index in
    ap (λ n. n * size_of (drop (i + 1) bs)) c.in-Some.ensures.1 ∙ size_more bs i _ c.loop-bounds.size c.loop-bounds-test.true ∙ c.loop-bounds.invariant
