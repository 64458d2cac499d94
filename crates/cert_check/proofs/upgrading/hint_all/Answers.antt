use Rattle.cert_check.proofs.Joining.{upgraded}
use Rattle.cert_check.proofs.upgrading.hint_all.Goals as goal

pub returns-clause-certifies : goal.returns-clause-certifies
returns-clause-certifies c =
    (upgraded c.args.system.now c.args.cert.now c.args.to.now c.hint_first.new.to c.hint_kept.new.to c.hint_safe.new.to c.requires.certifies c.requires.form c.requires.counter
    c.requires.clauses c.requires.shared c.in_ok-hint_first.ensures.shown c.in_ok-hint_first.ensures.rest c.in_ok-hint_kept.ensures.shown c.in_ok-hint_kept.ensures.rest
    c.in_ok-hint_safe.ensures.puts).0

pub returns-clause-upgrade : goal.returns-clause-upgrade
returns-clause-upgrade c =
    (upgraded c.args.system.now c.args.cert.now c.args.to.now c.hint_first.new.to c.hint_kept.new.to c.hint_safe.new.to c.requires.certifies c.requires.form c.requires.counter
    c.requires.clauses c.requires.shared c.in_ok-hint_first.ensures.shown c.in_ok-hint_first.ensures.rest c.in_ok-hint_kept.ensures.shown c.in_ok-hint_kept.ensures.rest
    c.in_ok-hint_safe.ensures.puts).1
