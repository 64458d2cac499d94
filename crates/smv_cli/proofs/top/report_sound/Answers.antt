-- What stands in front of the records is written, and then the records.
use Rattle.std.proofs.Common.{◌≡◌, ◌∙◌, ℕ, List, IfOk, ap, length, subst, sym}
use Rattle.std.proofs.lemmas.List.{length-map}
use Rattle.smv_resolve.specs.declared.item.Item.{Item}
use Rattle.smv_resolve.specs.Items.{ResolvedItem}
use Rattle.smv_meaning.specs.Runs.{specifications_of}
use Rattle.smv_cli.specs.declared.checking.Checking.{Checking}
use Rattle.smv_cli.specs.Written.{WritesRecords, WritesSomeRecords, item_in, program_in}
use Rattle.smv_cli.proofs.OfPreparing.{block-alone, block-part, counted_specs, sound-part, sound-result}
use Rattle.smv_cli.proofs.top.report_sound.Goals as goal

pub returns-clause-ok : goal.returns-clause-ok
returns-clause-ok g c =
    let taken = g.K.Sink.taken in
    let model = c.args.model.now in
    let p = program_in model in
    sound-result p model.effort c.args.sound.now (length c.args.specs.now) (counted_specs model c.args.specs.now c.requires.listed) (taken c.args.sink.now) (taken c.put_block.new.sink) (taken c.put_records.new.sink)
    c.put_records.result c.in_ok-put_block.ensures.ok
    (subst (λ (xs : List ResolvedItem). IfOk c.put_records.result (λ (status : ℕ). WritesRecords p model.effort xs (taken c.put_block.new.sink) (taken c.put_records.new.sink) status)) c.requires.listed c.put_records.ensures.ok)

pub returns-clause-part : goal.returns-clause-part
returns-clause-part g c =
    let taken = g.K.Sink.taken in
    let model = c.args.model.now in
    let p = program_in model in
    sound-part p model.effort c.args.sound.now (length c.args.specs.now) (counted_specs model c.args.specs.now c.requires.listed) (taken c.args.sink.now) (taken c.put_block.new.sink) (taken c.put_records.new.sink)
    c.in_ok-put_block.ensures.ok
    (subst (λ (xs : List ResolvedItem). WritesSomeRecords p model.effort xs (taken c.put_block.new.sink) (taken c.put_records.new.sink)) c.requires.listed c.put_records.ensures.part)

pub returns-in_default-clause-part : goal.returns-in_default-clause-part
returns-in_default-clause-part g c =
    let taken = g.K.Sink.taken in
    let model = c.args.model.now in
    block-alone (program_in model) model.effort c.args.sound.now (length c.args.specs.now) (counted_specs model c.args.specs.now c.requires.listed) (taken c.args.sink.now) (taken c.put_block.new.sink) c.in_ok-put_block.ensures.ok

pub returns-in_err-put_block-clause-part : goal.returns-in_err-put_block-clause-part
returns-in_err-put_block-clause-part g c =
    let taken = g.K.Sink.taken in
    let model = c.args.model.now in
    block-part (program_in model) model.effort c.args.sound.now (length c.args.specs.now) (counted_specs model c.args.specs.now c.requires.listed) (taken c.args.sink.now) (taken c.put_block.new.sink) c.put_block.ensures.front
