use Rattle.std.proofs.Common.{refl}
use Rattle.cert_check.proofs.Verdicts.{all_follow_says}
use Rattle.cert_check.proofs.parts.all_follow.Goals as goal

pub returns-in-No-clause-says : goal.returns-in-No-clause-says
returns-in-No-clause-says c =
    all_follow_says c.args.checker.now c.args.clauses.now c.args.steps.now c.in-No.step c.len.result _ refl c.len.ensures.value c.in-No.ensures.says
