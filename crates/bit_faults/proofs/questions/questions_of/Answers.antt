-- One question more.
use Rattle.std.proofs.Common.{[], subst, sym}
use Rattle.bit_faults.specs.Questions.{AreQuestions}
use Rattle.bit_faults.proofs.Asking.{questions_next, questions_none}
use Rattle.bit_faults.proofs.OfSides.{domains_kept, valuation_kept}
use Rattle.bit_faults.proofs.questions.questions_of.Goals as goal

pub loop-item-init : goal.loop-item-init
loop-item-init c = record {
  inputs = c.requires.inputs;
  valuation = c.requires.valuation;
  domains = c.requires.domains;
  made = subst (AreQuestions c.args.typed.now.scope.program []) (sym c.new-made.ensures.items) (questions_none c.args.typed.now.scope.program);
}

pub question_of-requires-clause-known : goal.question_of-requires-clause-known
question_of-requires-clause-known c = c.requires.known c.loop-item.item-index _ c.loop-item-test.true

pub loop-item-preserved : goal.loop-item-preserved
loop-item-preserved c =
    let typed = c.args.typed.now in
    let before = c.loop-item.invariant in
    let asked = c.in_ok-question in
    record {
      inputs = asked.ensures.extends.inputs c.args.named before.inputs;
      valuation = valuation_kept c.loop-item.graph c.question_of.new.graph asked.ensures.extends typed c.args.valuation.now before.valuation;
      domains = domains_kept c.loop-item.graph c.question_of.new.graph asked.ensures.extends typed c.args.domains.now before.domains;
      made = subst (AreQuestions typed.scope.program _) (sym c.in_ok-push.ensures.items)
          (questions_next typed.scope.program typed.nodes c.args.items.now c.loop-item.item-index _ c.loop-item.made.items asked.question c.loop-item-test.true before.made asked.ensures.question);
    }
