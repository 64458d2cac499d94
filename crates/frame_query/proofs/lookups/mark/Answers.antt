use Rattle.std.proofs.Common.{◌<◌, length, arith}
use Rattle.frame_query.proofs.Looked.{same_signs, other_signs, sign_more, sign_skip}
use Rattle.frame_query.proofs.lookups.mark.Goals as goal
use Rattle.frame_query.proofs.lookups.mark.Goals.{else-l-sign-via-then-l-sign+else-l-len, else-l-sign-via-else-l-sign}

pub returns-then-l-len-clause-marked : goal.returns-then-l-len-clause-marked
returns-then-l-len-clause-marked c before h =
    let low : c.args.l.var < length c.args.marks.now.items = omega (arith, c.if-l-len.true, c.len.ensures) in
    sign_more c.args.sign before c.args.marks.now.items c.args.l h (same_signs c.args.l.positive c.args.sign c.if-l-sign.true) low

pub returns-else-l-sign-clause-marked : goal.returns-else-l-sign-clause-marked
returns-else-l-sign-clause-marked c before h =
    elim c.else-l-sign.branch [
      | else-l-sign-via-then-l-sign+else-l-len w ↦
          sign_skip c.args.sign before c.args.marks.now.items c.args.l h (λ is low. omega (arith, low, w.if-l-len.false, w.len.ensures))
      | else-l-sign-via-else-l-sign w ↦ sign_skip c.args.sign before c.args.marks.now.items c.args.l h (λ is low. other_signs c.args.l.positive c.args.sign w.if-l-sign.false is)
    ]
