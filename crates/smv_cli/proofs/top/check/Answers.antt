-- A report on a text whose specifications are decided.
use Rattle.std.proofs.Common.{ℕ, IfOk, subst, sym}
use Rattle.command_words.specs.declared.command.Effort.{Effort}
use Rattle.smv_cli.specs.Prepared.{IsPreparedWith, IsRefusedOrFaulty}
use Rattle.smv_cli.specs.Written.{WritesModelReport, WritesPartOfModelReport, program_in}
use Rattle.smv_cli.proofs.Reports.{refused_on_check, refused-part, refused-result, heading-part, judged-result, judged-part, nothing-part, small_enough}
use Rattle.smv_cli.proofs.top.check.Goals as goal

pub report_model-requires-clause-prepared : goal.report_model-requires-clause-prepared
report_model-requires-clause-prepared g c _ _ =
    let model = c.in-Ok.model in
    subst (λ (e : Effort). IsPreparedWith (program_in model) e model.preparation) (sym c.in-Ok.ensures.effort) c.in-Ok.ensures.prepared

pub returns-in-Err-Refused-clause-ok : goal.returns-in-Err-Refused-clause-ok
returns-in-Err-Refused-clause-ok g c =
    let refusal = c.in-Err-Refused.refusal in
    let broken : IsRefusedOrFaulty c.args.text.now refusal = rw c.in-Err-Refused.field-0-is at c.in-Err-Refused.ensures.refused in
    refused-result c.args.command.now c.args.text.now refusal (g.K.Sink.taken c.args.sink.now) (g.K.Sink.taken c.refuse.new.sink) c.refuse.result
    (refused_on_check c.args.command.now c.args.effort.now c.args.text.now refusal c.requires.asked broken) c.refuse.ensures.ok

pub returns-in-Err-Refused-clause-part : goal.returns-in-Err-Refused-clause-part
returns-in-Err-Refused-clause-part g c =
    let refusal = c.in-Err-Refused.refusal in
    let broken : IsRefusedOrFaulty c.args.text.now refusal = rw c.in-Err-Refused.field-0-is at c.in-Err-Refused.ensures.refused in
    refused-part c.args.command.now c.args.text.now refusal (g.K.Sink.taken c.args.sink.now) (g.K.Sink.taken c.refuse.new.sink)
    (refused_on_check c.args.command.now c.args.effort.now c.args.text.now refusal c.requires.asked broken) c.refuse.ensures.front

pub returns-in_ok-put_heading-in-Ok-clause-ok : goal.returns-in_ok-put_heading-in-Ok-clause-ok
returns-in_ok-put_heading-in-Ok-clause-ok g c =
    let taken = g.K.Sink.taken in
    let model = c.in-Ok.model in
    let p = program_in model in
    judged-result c.args.command.now c.args.effort.now c.requires.asked c.args.text.now p model.preparation (taken c.args.sink.now) (taken c.put_heading.new.sink) (taken c.report_model.new.sink) c.report_model.result c.in-Ok.ensures.model
    c.in-Ok.ensures.prepared c.in_ok-put_heading-in-Ok.ensures.ok
    (subst (λ (e : Effort). IfOk c.report_model.result (λ (status : ℕ). WritesModelReport p e model.preparation (taken c.put_heading.new.sink) (taken c.report_model.new.sink) status))
    c.in-Ok.ensures.effort c.report_model.ensures.ok)

pub returns-in_ok-put_heading-in-Ok-clause-part : goal.returns-in_ok-put_heading-in-Ok-clause-part
returns-in_ok-put_heading-in-Ok-clause-part g c =
    let taken = g.K.Sink.taken in
    let model = c.in-Ok.model in
    let p = program_in model in
    judged-part c.args.command.now c.args.effort.now c.requires.asked c.args.text.now p model.preparation (taken c.args.sink.now) (taken c.put_heading.new.sink) (taken c.report_model.new.sink) c.in-Ok.ensures.model
    c.in-Ok.ensures.prepared c.in_ok-put_heading-in-Ok.ensures.ok
    (subst (λ (e : Effort). WritesPartOfModelReport p e model.preparation (taken c.put_heading.new.sink) (taken c.report_model.new.sink)) c.in-Ok.ensures.effort c.report_model.ensures.part)

pub returns-in_ok-put_heading-in-Ok-clause-small : goal.returns-in_ok-put_heading-in-Ok-clause-small
returns-in_ok-put_heading-in-Ok-clause-small g c = small_enough c.report_model.result c.report_model.ensures.small

pub returns-in_err-put_heading-in-Ok-clause-part : goal.returns-in_err-put_heading-in-Ok-clause-part
returns-in_err-put_heading-in-Ok-clause-part g c =
    let taken = g.K.Sink.taken in
    heading-part c.args.command.now c.args.effort.now c.requires.asked c.args.text.now (program_in c.in-Ok.model) c.in-Ok.model.preparation (taken c.args.sink.now) (taken c.put_heading.new.sink) c.in-Ok.ensures.model
    c.in-Ok.ensures.prepared c.put_heading.ensures.front

pub returns-in-Err-NoMemory-clause-part : goal.returns-in-Err-NoMemory-clause-part
returns-in-Err-NoMemory-clause-part g c = nothing-part c.args.command.now c.args.text.now (g.K.Sink.taken c.args.sink.now)
