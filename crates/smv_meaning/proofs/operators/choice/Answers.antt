-- One condition and its branch.
use Rattle.std.proofs.Common.{◌≡◌, ◌∙◌, sym, ap, arith, get_or, None, Some, false}
use Rattle.smv_meaning.specs.Outcomes.{failed, truth}
use Rattle.smv_meaning.proofs.Choosing.{choice_failed, choice_false}
use Rattle.smv_meaning.proofs.operators.choice.Goals as goal

pub loop-at-preserved : goal.loop-at-preserved
loop-at-preserved c =
    let o = c.index-operands-at.result in
    let is : truth (get_or c.args.operands.now c.loop-at.at o) ≡ Some false =
    cc (ap truth c.index-operands-at.is, c.truth.ensures, c.in-Some-false.is, c.in-Some-false.field-0-test) in
    record {
      within = omega (arith, c.loop-at-test.true);
      left = sym (choice_false c.args.rule c.args.place c.args.operands.now c.loop-at.at o c.loop-at-test.true is) ∙ c.loop-at.invariant.left;
    }

pub returns-in-None : goal.returns-in-None
returns-in-None c =
    let o = c.index-operands-at.result in
    let is : truth (get_or c.args.operands.now c.loop-at.at o) ≡ None = cc (ap truth c.index-operands-at.is, c.truth.ensures, c.in-None.is) in
    c.failed.ensures
    ∙ ap failed c.index-operands-at.is
    ∙ sym (choice_failed c.args.rule c.args.place c.args.operands.now c.loop-at.at o c.loop-at-test.true is)
    ∙ c.loop-at.invariant.left
