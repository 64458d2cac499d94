use Rattle.std.proofs.Common.{ap}
use Rattle.std.specs.Prelude.{option_copied}
use Rattle.sound_check.proofs.Meeting.{steps_show, steps_fail}
use Rattle.sound_check.proofs.parts.derives.Goals as goal

pub returns-in-Yes : goal.returns-in-Yes
returns-in-Yes c =
    steps_show c.args.question.now.vars c.in_ok-checker-in-Some.checker c.args.question.now.clauses c.steps.result.now (option_copied c.args.steps) c.in-Some.steps.now
    (ap option_copied c.in-Some.is) c.in_ok-checker-in-Some.ensures c.steps.ensures.value c.in-Yes.ensures.says

pub returns : goal.returns
returns c =
    steps_fail c.args.question.now.vars c.in_ok-checker-in-Some.checker c.args.question.now.clauses c.steps.result.now (option_copied c.args.steps) c.in-Some.steps.now c.in-No.step
    (ap option_copied c.in-Some.is) c.in_ok-checker-in-Some.ensures c.steps.ensures.value c.in-No.ensures.says
