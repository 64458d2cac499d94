-- The report of the command.
use Rattle.std.proofs.Common.{ℕ, IfOk, subst, sym}
use Rattle.command_words.specs.declared.command.Command.{Command}
use Rattle.smv_cli.specs.Written.{CommandDone, CommandPart}
use Rattle.smv_cli.proofs.top.report.Goals as goal

pub returns-in-Recheck-clause-ok : goal.returns-in-Recheck-clause-ok
returns-in-Recheck-clause-ok g c =
    let taken = g.K.Sink.taken in
    subst (λ (command : Command). IfOk c.recheck.result (λ (status : ℕ). CommandDone command c.args.text.now (taken c.args.sink.now) (taken c.recheck.new.sink) status)) (sym c.in-Recheck.is) c.recheck.ensures.ok

pub returns-in-Recheck-clause-part : goal.returns-in-Recheck-clause-part
returns-in-Recheck-clause-part g c =
    let taken = g.K.Sink.taken in
    subst (λ (command : Command). CommandPart command c.args.text.now (taken c.args.sink.now) (taken c.recheck.new.sink)) (sym c.in-Recheck.is) c.recheck.ensures.part

pub returns-in-Flat-clause-ok : goal.returns-in-Flat-clause-ok
returns-in-Flat-clause-ok g c =
    let taken = g.K.Sink.taken in
    subst (λ (command : Command). IfOk c.list.result (λ (status : ℕ). CommandDone command c.args.text.now (taken c.args.sink.now) (taken c.list.new.sink) status)) (sym c.in-Flat.is) c.list.ensures.ok

pub returns-in-Flat-clause-part : goal.returns-in-Flat-clause-part
returns-in-Flat-clause-part g c =
    let taken = g.K.Sink.taken in
    subst (λ (command : Command). CommandPart command c.args.text.now (taken c.args.sink.now) (taken c.list.new.sink)) (sym c.in-Flat.is) c.list.ensures.part
