use Rattle.std.proofs.lemmas.List.{get_or_default}
use Rattle.std.proofs.Common.{get_or, sym, ap, ◌∙◌, arith, append-nil}
use Rattle.smv_resolve.specs.Resolved.{Resolved, operands_of, parts_of}
use Rattle.smv_resolve.proofs.Growing.{Grows-self, Grows-two, parts_operand, last_are}
use Rattle.smv_resolve.proofs.memo.push_apply.Goals as goal

pub loop-k-init : goal.loop-k-init
loop-k-init c = record { grows = Grows-self c.args.memo.now.nodes; known = λ p k. k; parts = sym (append-nil (parts_of c.args.memo.now.nodes)) }

pub loop-k-preserved : goal.loop-k-preserved
loop-k-preserved c = record {
  grows = Grows-two c.loop-k.invariant.grows c.in_ok-push.ensures.grows;
  known = λ p k. c.in_ok-push.ensures.known p (c.loop-k.invariant.known p k);
  parts =
      parts_operand c.args.memo.now.nodes c.loop-k.memo.nodes c.push.new.memo.nodes c.args.operands.now c.loop-k.k-index (get_or c.args.operands.now c.loop-k.k-index 0) c.loop-k-test.true
      (get_or_default c.args.operands.now c.loop-k.k-index 0 (get_or c.args.operands.now c.loop-k.k-index 0) c.loop-k-test.true) c.requires
      c.loop-k.invariant.parts c.in_ok-push.ensures.parts;
}

pub returns-clause-grows : goal.returns-clause-grows
returns-clause-grows c = Grows-two c.loop-k.invariant.grows c.in_ok-node.ensures.grows

pub returns-clause-known : goal.returns-clause-known
returns-clause-known c = λ p k. c.in_ok-node.ensures.known p (c.loop-k.invariant.known p k)

pub returns-clause-value : goal.returns-clause-value
returns-clause-value c =
    c.in_ok-node.ensures.value
    ∙ ap (λ rs. Resolved.Apply c.args.place c.args.operator (operands_of rs))
    (last_are c.args.memo.now.nodes c.loop-k.memo.nodes c.args.operands.now c.loop-k.k-index (omega (arith, c.loop-k-test.false)) c.loop-k.invariant.parts)
