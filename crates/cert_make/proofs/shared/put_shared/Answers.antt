use Rattle.std.proofs.Common.{◌≡◌, ◌<◌, length, arith}
use Rattle.std.proofs.lemmas.List.{nil_from_length}
use Rattle.cert_make.proofs.Refuting.{fits_steps}
use Rattle.cert_make.proofs.Sharing.{shared_none, shared_some}
use Rattle.cert_make.proofs.shared.put_shared.Goals as goal

pub put-requires-clause-fits : goal.put-requires-clause-fits
put-requires-clause-fits c = fits_steps c.args.to.now.form c.args.checker.now c.args.given.now c.in_ok-steps.steps c.requires.form c.requires.room c.in_ok-steps.ensures.says

pub returns-then-len-eq0-clause-put : goal.returns-then-len-eq0-clause-put
returns-then-len-eq0-clause-put c =
    let none : length c.in_ok-steps.steps.steps ≡ 0 = omega (arith, c.len.ensures.value, c.if-len-eq0.true) in
    shared_none c.args.checker.now c.args.given.now c.args.log.now c.args.to.now c.in_ok-steps.steps c.requires.none (nil_from_length _ none) c.in_ok-steps.ensures.covers

pub returns-clause-put : goal.returns-clause-put
returns-clause-put c =
    let some : 0 < length c.in_ok-steps.steps.steps = omega (arith, c.len.ensures.value, c.if-len-eq0.false) in
    shared_some c.args.checker.now c.args.given.now c.args.log.now c.args.to.now c.put.new.self c.in_ok-steps.steps c.put.ensures some c.in_ok-steps.ensures.says
    c.in_ok-steps.ensures.covers
