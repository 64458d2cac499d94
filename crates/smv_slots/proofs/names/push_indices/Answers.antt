use Rattle.std.proofs.Common.{string_bytes, ◌∙◌}
use Rattle.smv_slots.proofs.Elements.{index_more}
use Rattle.smv_slots.proofs.names.push_indices.Goals as goal

pub loop-d-preserved : goal.loop-d-preserved
loop-d-preserved c =
    index_more c.args.dimensions.now c.loop-d.d _ c.loop-d.left c.in_ok-size.size c.position_in-position.result.0 c.position_in-position.result.1 (string_bytes c.loop-d.name)
    (string_bytes c.push_index.new.name) c.loop-d-test.true c.in_ok-size.ensures c.position_in-position.ensures.position c.position_in-position.ensures.rest c.in_ok-push_index.ensures
    ∙ c.loop-d.invariant
