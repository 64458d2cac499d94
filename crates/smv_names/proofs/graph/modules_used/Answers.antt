use Rattle.std.proofs.Common.{[]}
use Rattle.smv_names.specs.Reached.{modules_in}
use Rattle.smv_names.proofs.Adding.{flat_map-next}
use Rattle.smv_names.proofs.graph.modules_used.Goals as goal

pub loop-section-preserved : goal.loop-section-preserved
loop-section-preserved c =
    flat_map-next (modules_in c.args.modules.now) c.as_slice-section-items.result.now c.loop-section.section-index c.section-item.result [] c.loop-section.used.items c.push_modules_in.new.used.items
    c.loop-section-test.true c.section-item.is c.loop-section.invariant c.in_ok-push_modules_in.ensures
