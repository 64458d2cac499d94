-- The types of no variables, and of one more.
use Rattle.std.proofs.Common.{refl, arith}
use Rattle.std.proofs.lemmas.Grind.{common_steps}
use Rattle.smv_tree.specs.declared.tree.Variable.{Variable}
use Rattle.smv_declared.specs.Types.{types_with}
use Rattle.smv_declared.proofs.Joined.{none_yet, one_further}
use Rattle.smv_declared.proofs.declarations.add_variables.Goals as goal

pub loop-variable-init : goal.loop-variable-init
loop-variable-init c = record {
  left = refl;
  added = λ all so_far. none_yet (λ (v : Variable). types_with c.args.scope.now.program c.args.at v) c.args.variables.now all c.args.tally.now so_far;
}

pub loop-variable-preserved : goal.loop-variable-preserved
loop-variable-preserved c = record {
  left = grind (arith, common_steps);
  added = λ all so_far.
      one_further (λ (v : Variable). types_with c.args.scope.now.program c.args.at v) c.args.variables.now c.loop-variable.variable-index c.variable-item.result all c.add_variable.new.tally
      c.loop-variable-test.true c.variable-item.is (c.in_ok-add_variable.ensures.types _ (c.loop-variable.invariant.added all so_far));
}
