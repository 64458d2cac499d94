use Rattle.std.proofs.Common.{sym}
use Rattle.smv_scope.specs.Modules.{definitions_in}
use Rattle.smv_scope.proofs.Indexing.{flat_map-more, flat_map-all}
use Rattle.smv_scope.proofs.modules.push_definitions_of.Goals as goal

pub loop-section-preserved : goal.loop-section-preserved
loop-section-preserved c =
    flat_map-more definitions_in c.args.sections.now c.loop-section.section-index c.section-item.result _ _ _ _
    c.loop-section-test.true c.section-item.is c.in_ok-push_definitions.ensures (sym c.definitions_in.ensures) c.loop-section.invariant

pub returns : goal.returns
returns c = flat_map-all definitions_in c.args.sections.now c.loop-section.section-index _ _ c.loop-section-test.false c.loop-section.invariant
