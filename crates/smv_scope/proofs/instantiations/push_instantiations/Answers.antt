use Rattle.std.proofs.Common.{◌∙◌}
use Rattle.smv_scope.specs.Instantiations.{instances_by}
use Rattle.smv_scope.proofs.Variables.{children_more, children_done}
use Rattle.smv_scope.proofs.instantiations.push_instantiations.Goals as goal

pub loop-v-preserved : goal.loop-v-preserved
loop-v-preserved c = λ at.
    children_more c.args.program.now.modules at (instances_by at c.loop-v.list) (instances_by at c.push_instantiation.new.list) c.args.variables.now c.loop-v.v c.index-variables-v.result c.loop-v-test.true c.index-variables-v.is
    (c.in_ok-push_instantiation.ensures at)
    ∙ c.loop-v.invariant at

pub returns : goal.returns
returns c = λ at. children_done c.args.program.now.modules at (instances_by at c.loop-v.list) c.args.variables.now c.loop-v.v c.loop-v-test.false ∙ c.loop-v.invariant at
