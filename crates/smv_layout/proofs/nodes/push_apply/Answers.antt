-- The operands stand behind the nodes before, and then the operator over them.
use Rattle.std.proofs.Common.{◌≡◌, List, get_or, map, sym, ap, ◌∙◌, arith, append-nil}
use Rattle.std.proofs.lemmas.List.{get_or_default}
use Rattle.smv_resolve.specs.Resolved.{Resolved, operands_of, part_of, parts_of}
use Rattle.smv_resolve.proofs.Growing.{Grows-self, Grows-two, parts_operand, last_are}
use Rattle.smv_layout.specs.Nodes.{IsNode}
use Rattle.smv_layout.proofs.nodes.push_apply.Goals as goal

pub loop-k-init : goal.loop-k-init
loop-k-init c = record { grows = Grows-self c.args.nodes.now; parts = λ s. sym (append-nil (parts_of c.args.nodes.now)) }

pub loop-k-preserved : goal.loop-k-preserved
loop-k-preserved c = record {
  grows = Grows-two c.loop-k.invariant.grows c.in_ok-push.ensures.grows;
  parts = λ s.
      parts_operand c.args.nodes.now c.loop-k.nodes c.push.new.nodes c.args.operands.now c.loop-k.k-index (get_or c.args.operands.now c.loop-k.k-index 0) c.loop-k-test.true
      (get_or_default c.args.operands.now c.loop-k.k-index 0 (get_or c.args.operands.now c.loop-k.k-index 0) c.loop-k-test.true) s
      (c.loop-k.invariant.parts s) c.in_ok-push.ensures.parts;
}
