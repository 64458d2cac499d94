use Rattle.smv_scope.specs.Modules.{variables_in}
use Rattle.smv_scope.proofs.Indexing.{flat_map-more, flat_map-all}
use Rattle.smv_scope.proofs.Variables.{lent}
use Rattle.smv_scope.proofs.modules.push_variables_of.Goals as goal

pub loop-section-preserved : goal.loop-section-preserved
loop-section-preserved c =
    flat_map-more variables_in c.args.sections.now c.loop-section.section-index c.section-item.result _ (lent c.loop-section.all.items) _ _
    c.loop-section-test.true c.section-item.is c.in_ok-push_variables.ensures c.variables_in-kind.ensures c.loop-section.invariant

pub returns : goal.returns
returns c = flat_map-all variables_in c.args.sections.now c.loop-section.section-index _ _ c.loop-section-test.false c.loop-section.invariant
