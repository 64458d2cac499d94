-- The module of the instance.
use Rattle.smv_names.proofs.Opened.{module_found}
use Rattle.smv_names.proofs.names.unknown_names.Goals as goal

pub unknown_in_instance-requires-clause-is : goal.unknown_in_instance-requires-clause-is
unknown_in_instance-requires-clause-is c =
    module_found c.args.scope.now.program c.args.scope.now.tree c.as_slice-x-items.result.now c.loop-n.n _ c.args.scope.now.unfolded c.as_slice-x-items.ensures c.loop-n-test.true
