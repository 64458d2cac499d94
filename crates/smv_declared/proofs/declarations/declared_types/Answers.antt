-- The types of one instance more.
use Rattle.std.proofs.Common.{arith, refl}
use Rattle.std.proofs.lemmas.Grind.{common_steps}
use Rattle.smv_declared.proofs.Joined.{instance_further, module_found}
use Rattle.smv_declared.proofs.declarations.declared_types.Goals as goal

pub add_instance-requires-clause-is : goal.add_instance-requires-clause-is
add_instance-requires-clause-is c =
    module_found c.args.scope.now.program c.args.scope.now.tree c.as_slice-x-items.result.now c.loop-at.at _ c.args.scope.now.unfolded c.as_slice-x-items.ensures c.loop-at-test.true

pub loop-at-preserved : goal.loop-at-preserved
loop-at-preserved c = record {
  left = grind (arith, common_steps);
  added =
      instance_further c.args.scope.now.program c.args.scope.now.tree c.as_slice-x-items.result.now c.loop-at.at _ _ c.add_instance.new.tally
      c.loop-at-test.true c.as_slice-x-items.ensures refl (c.in_ok-add_instance.ensures.types _ c.loop-at.invariant.added);
  noted = c.in_ok-add_instance.ensures.noted;
}
