-- A report that is judged again.
use Rattle.std.proofs.Common.{refl}
use Rattle.command_words.specs.declared.command.Command.TheVariants.{Recheck}
use Rattle.smv_recheck.specs.Refusing.{IsRefused}
use Rattle.smv_cli.specs.Report.{IsJudgedAgain}
use Rattle.smv_cli.proofs.Reports.{refused-part, refused-result, rechecked-result, rechecked-part, nothing-part}
use Rattle.smv_cli.proofs.top.recheck.Goals as goal

pub returns-in-Err-Refused-clause-ok : goal.returns-in-Err-Refused-clause-ok
returns-in-Err-Refused-clause-ok g c =
    let refusal = c.in-Err-Refused.refusal in
    let broken : IsRefused c.args.text.now refusal = rw c.in-Err-Refused.field-0-is at c.in-Err-Refused.ensures.refused in
    refused-result (Recheck c.args.upgrade) c.args.text.now refusal (g.K.Sink.taken c.args.sink.now) (g.K.Sink.taken c.refuse.new.sink) c.refuse.result broken c.refuse.ensures.ok

pub returns-in-Err-Refused-clause-part : goal.returns-in-Err-Refused-clause-part
returns-in-Err-Refused-clause-part g c =
    let refusal = c.in-Err-Refused.refusal in
    let broken : IsRefused c.args.text.now refusal = rw c.in-Err-Refused.field-0-is at c.in-Err-Refused.ensures.refused in
    refused-part (Recheck c.args.upgrade) c.args.text.now refusal (g.K.Sink.taken c.args.sink.now) (g.K.Sink.taken c.refuse.new.sink) broken c.refuse.ensures.front

pub returns-in-Ok-clause-ok : goal.returns-in-Ok-clause-ok
returns-in-Ok-clause-ok g c =
    let text = c.args.text.now in
    let upgrade = c.args.upgrade in
    let checked = c.in-Ok.checked in
    let is = c.in-Ok.ensures.checked in
    let law = c.what_is_shown_holds.ensures in
    let again : IsJudgedAgain text upgrade checked = record {
      program = is.0;
      checked = is.1;
      holds = λ j spec r at here. (
        λ shown. (law.fault_free is.0 text upgrade checked j r is.1 here shown, law.shown_true is.0 text upgrade checked j spec r is.1 at here shown),
        law.shown_false is.0 text upgrade checked j spec r is.1 at here,
      );
    } in
    rechecked-result (Recheck upgrade) upgrade refl text checked (g.K.Sink.taken c.args.sink.now) (g.K.Sink.taken c.report_checked.new.sink) c.report_checked.result again c.report_checked.ensures.ok

pub returns-in-Ok-clause-part : goal.returns-in-Ok-clause-part
returns-in-Ok-clause-part g c =
    let text = c.args.text.now in
    let upgrade = c.args.upgrade in
    let checked = c.in-Ok.checked in
    let is = c.in-Ok.ensures.checked in
    let law = c.what_is_shown_holds.ensures in
    let again : IsJudgedAgain text upgrade checked = record {
      program = is.0;
      checked = is.1;
      holds = λ j spec r at here. (
        λ shown. (law.fault_free is.0 text upgrade checked j r is.1 here shown, law.shown_true is.0 text upgrade checked j spec r is.1 at here shown),
        law.shown_false is.0 text upgrade checked j spec r is.1 at here,
      );
    } in
    rechecked-part (Recheck upgrade) upgrade refl text checked (g.K.Sink.taken c.args.sink.now) (g.K.Sink.taken c.report_checked.new.sink) again c.report_checked.ensures.part

pub returns-in-Err-NoMemory-clause-part : goal.returns-in-Err-NoMemory-clause-part
returns-in-Err-NoMemory-clause-part g c = nothing-part (Recheck c.args.upgrade) c.args.text.now (g.K.Sink.taken c.args.sink.now)
