-- Where preparing shows it, no item faults. The records where preparing spent the effort are those of the model.
use Rattle.std.proofs.Common.{◌≡◌, ◌∙◌, ℕ, List, IfOk, ap, map, subst, sym}
use Rattle.smv_resolve.specs.declared.item.Item.{Item}
use Rattle.smv_resolve.specs.Items.{ResolvedItem}
use Rattle.smv_meaning.specs.Runs.{specifications_of}
use Rattle.smv_cli.specs.declared.preparing.Preparation.{Preparation}
use Rattle.smv_cli.specs.Prepared.{IsPreparedWith}
use Rattle.smv_cli.specs.Written.{WritesOpenRecords, WritesSomeOpenRecords, WritesModelReport, WritesPartOfModelReport, item_in, program_in}
use Rattle.smv_cli.proofs.OfPreparing.{open-part, open-result}
use Rattle.smv_cli.proofs.top.report_model.Goals as goal

pub report_sound-requires-clause-ready : goal.report_sound-requires-clause-ready
report_sound-requires-clause-ready g c _ _ =
    let model = c.args.model.now in
    let p = program_in model in
    let shown = subst (IsPreparedWith p model.effort) c.in-Sound.is c.requires.prepared in
    record { built = c.requires.begun.built; narrow = c.requires.begun.narrow; range = c.requires.begun.range; fault_free = shown.fault_free }

pub returns-clause-ok : goal.returns-clause-ok
returns-clause-ok g c =
    let taken = g.K.Sink.taken in
    let model = c.args.model.now in
    let p = program_in model in
    let drawn = c.in-Spent.drawn in
    let budget = c.in-Spent.budget in
    let all : map (item_in model) c.as_slice-in-Spent.result.now ≡ specifications_of p = ap (λ (xs : List Item). map (item_in model) xs) c.as_slice-in-Spent.ensures ∙ c.in-Ok.ensures.resolved in
    subst (λ (how : Preparation). IfOk c.put_open.result (λ (status : ℕ). WritesModelReport p model.effort how (taken c.args.sink.now) (taken c.put_open.new.sink) status)) (sym c.in-Spent.is)
    (open-result p model.effort drawn budget (taken c.args.sink.now) (taken c.put_open.new.sink) c.put_open.result
    (subst (λ (xs : List ResolvedItem). IfOk c.put_open.result (λ (status : ℕ). (status ≡ 2) × WritesOpenRecords drawn budget xs (taken c.args.sink.now) (taken c.put_open.new.sink))) all (c.put_open.ensures.ok model.flat.typed.nodes)))

pub returns-clause-part : goal.returns-clause-part
returns-clause-part g c =
    let taken = g.K.Sink.taken in
    let model = c.args.model.now in
    let p = program_in model in
    let drawn = c.in-Spent.drawn in
    let budget = c.in-Spent.budget in
    let all : map (item_in model) c.as_slice-in-Spent.result.now ≡ specifications_of p = ap (λ (xs : List Item). map (item_in model) xs) c.as_slice-in-Spent.ensures ∙ c.in-Ok.ensures.resolved in
    subst (λ (how : Preparation). WritesPartOfModelReport p model.effort how (taken c.args.sink.now) (taken c.put_open.new.sink)) (sym c.in-Spent.is)
    (open-part p model.effort drawn budget (taken c.args.sink.now) (taken c.put_open.new.sink)
    (subst (λ (xs : List ResolvedItem). WritesSomeOpenRecords drawn budget xs (taken c.args.sink.now) (taken c.put_open.new.sink)) all (c.put_open.ensures.part model.flat.typed.nodes)))
