-- A report on a text whose slots and items are listed.
use Rattle.std.proofs.Common.{refl}
use Rattle.command_words.specs.declared.command.Command.TheVariants.{Flat}
use Rattle.smv_front.specs.Sources.{IsRefusedBy}
use Rattle.smv_cli.proofs.Reports.{refused-part, refused-result, listed-result, listed-part, nothing-part}
use Rattle.smv_cli.proofs.top.list.Goals as goal

pub returns-in-Err-Refused-clause-ok : goal.returns-in-Err-Refused-clause-ok
returns-in-Err-Refused-clause-ok g c =
    let refusal = c.in-Err-Refused.refusal in
    let broken : IsRefusedBy c.args.text.now refusal = rw c.in-Err-Refused.field-0-is at c.in-Err-Refused.ensures.refused in
    refused-result Flat c.args.text.now refusal (g.K.Sink.taken c.args.sink.now) (g.K.Sink.taken c.refuse.new.sink) c.refuse.result broken c.refuse.ensures.ok

pub returns-in-Err-Refused-clause-part : goal.returns-in-Err-Refused-clause-part
returns-in-Err-Refused-clause-part g c =
    let refusal = c.in-Err-Refused.refusal in
    let broken : IsRefusedBy c.args.text.now refusal = rw c.in-Err-Refused.field-0-is at c.in-Err-Refused.ensures.refused in
    refused-part Flat c.args.text.now refusal (g.K.Sink.taken c.args.sink.now) (g.K.Sink.taken c.refuse.new.sink) broken c.refuse.ensures.front

pub returns-in-Ok-clause-ok : goal.returns-in-Ok-clause-ok
returns-in-Ok-clause-ok g c =
    listed-result Flat refl c.args.text.now c.in-Ok.flat.typed.scope.program (g.K.Sink.taken c.args.sink.now) (g.K.Sink.taken c.report_listing.new.sink) c.report_listing.result c.in-Ok.ensures.model c.report_listing.ensures.ok

pub returns-in-Ok-clause-part : goal.returns-in-Ok-clause-part
returns-in-Ok-clause-part g c =
    listed-part Flat refl c.args.text.now c.in-Ok.flat.typed.scope.program (g.K.Sink.taken c.args.sink.now) (g.K.Sink.taken c.report_listing.new.sink) c.in-Ok.ensures.model c.report_listing.ensures.part

pub returns-in-Err-NoMemory-clause-part : goal.returns-in-Err-NoMemory-clause-part
returns-in-Err-NoMemory-clause-part g c = nothing-part Flat c.args.text.now (g.K.Sink.taken c.args.sink.now)
