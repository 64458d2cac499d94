-- The set has one name more.
use Rattle.std.proofs.Common.{arith}
use Rattle.std.proofs.lemmas.Grind.{common_steps}
use Rattle.smv_names.proofs.Adding.{list_any-last}
use Rattle.smv_names.proofs.declared.repeated.Goals as goal

pub loop-named-preserved : goal.loop-named-preserved
loop-named-preserved c = record {
  seen = λ name. grind (arith, common_steps, list_any-last, c.loop-named.invariant.seen name, c.in_ok-add_name.ensures.known name);
  left = grind (arith, common_steps, c.loop-named.invariant.seen c.named-item.result.1.now);
}
