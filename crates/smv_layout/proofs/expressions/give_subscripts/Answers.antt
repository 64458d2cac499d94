-- One index more.
use Rattle.std.proofs.lemmas.List.{get_or_default}
use Rattle.smv_resolve.proofs.Growing.{Grows-two}
use Rattle.smv_layout.proofs.Giving.{given_more}
use Rattle.smv_layout.proofs.expressions.give_subscripts.Goals as goal

pub loop-x-preserved : goal.loop-x-preserved
loop-x-preserved c = record {
  grows = Grows-two c.loop-x.invariant.grows c.in_ok-node.ensures.grows;
  given =
      given_more c.args.nodes.now c.loop-x.nodes c.push.new.nodes c.args.place c.args.subscripts.now c.loop-x.given c.push-in-loop-x.new.self c.loop-x.x-index c.in_ok-node.node _ c.requires
      c.loop-x.invariant.grows c.in_ok-node.ensures.grows c.loop-x-test.true (get_or_default _ _ _ _ c.loop-x-test.true) c.loop-x.invariant.given c.in_ok-node.ensures.node c.in_ok-push.ensures.ok;
}
