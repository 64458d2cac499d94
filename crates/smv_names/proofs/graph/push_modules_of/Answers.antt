use Rattle.smv_names.specs.Reached.{module_of_variable}
use Rattle.smv_names.proofs.Adding.{flat_map-next}
use Rattle.smv_names.proofs.graph.push_modules_of.Goals as goal

pub loop-variable-preserved : goal.loop-variable-preserved
loop-variable-preserved c =
    flat_map-next (module_of_variable c.args.modules.now) c.args.variables.now c.loop-variable.variable-index c.variable-item.result c.args.used.now.items c.loop-variable.used.items c.push_module_of.new.used.items
    c.loop-variable-test.true c.variable-item.is c.loop-variable.invariant c.in_ok-push_module_of.ensures
