-- One more record is written, or a part of it.
use Rattle.std.proofs.Common.{◌≡◌, ◌∙◌, ◌+◌, ◌<◌, ◌≤◌, ℕ, length, get_or, refl, arith}
use Rattle.std.proofs.lemmas.List.{length-map}
use Rattle.smv_resolve.specs.Items.{item_by}
use Rattle.smv_cli.specs.declared.record.Reason.TheVariants as reason
use Rattle.smv_cli.specs.declared.record.Record.{Record}
use Rattle.smv_cli.specs.declared.record.SpecVerdict.TheVariants.{Unknown}
use Rattle.smv_cli.specs.Records.{OpenOf}
use Rattle.smv_cli.specs.Written.{status_with}
use Rattle.smv_cli.proofs.Claims.{listed, listed_at, not_claimed, recorded_all, recorded_none}
use Rattle.smv_cli.proofs.Recording.{WritesRecords-push, WritesSomeRecords-push, WritesSomeRecords-whole}
use Rattle.smv_cli.proofs.print.put_open.Goals as goal

pub unreachable-requires : goal.unreachable-requires
unreachable-requires g c = not_claimed c.args.specs.now c.open_specs.i _ (omega (arith, c.open_specs-test.true)) c.requires.claims c.in_default.not-Specification

pub open_specs-init : goal.open_specs-init
open_specs-init g c = record {
  so_far = λ nodes. (0, recorded_none (OpenOf c.args.drawn c.args.budget) (g.K.Sink.taken c.args.sink.now));
  same = refl;
}

pub open_specs-preserved : goal.open_specs-preserved
open_specs-preserved g c =
    let taken = g.K.Sink.taken in
    let says = OpenOf c.args.drawn c.args.budget in
    let specs = c.args.specs.now in
    let i = c.open_specs.i in
    let made : Record = record { number = i + 1; kind = c.in-Specification.kind; verdict = Unknown (reason.Preparing c.args.drawn c.args.budget) } in
    record {
      so_far = λ nodes. (
          let before = c.open_specs.invariant.so_far nodes in
          let within : i < length (listed nodes specs) = omega (arith, c.open_specs-test.true, length-map specs (item_by nodes)) in (
            status_with before.0 made.verdict,
            WritesRecords-push says (listed nodes specs) i _ made (taken c.args.sink.now) (taken c.open_specs.sink) (taken c.put_record.new.sink) before.0 _ within
                (listed_at says nodes specs i _ c.in-Specification.kind made c.in-Specification.is refl refl refl) before.1 c.in_ok-put_record.ensures.ok refl,
          )
          );
      same = c.in_ok-put_record.ensures.kept ∙ c.open_specs.invariant.same;
    }

pub returns-in_err-put_record-clause-part : goal.returns-in_err-put_record-clause-part
returns-in_err-put_record-clause-part g c = λ nodes.
    let taken = g.K.Sink.taken in
    let says = OpenOf c.args.drawn c.args.budget in
    let specs = c.args.specs.now in
    let i = c.open_specs.i in
    let made : Record = record { number = i + 1; kind = c.in-Specification.kind; verdict = Unknown (reason.Preparing c.args.drawn c.args.budget) } in
    let before = c.open_specs.invariant.so_far nodes in
    let within : i < length (listed nodes specs) = omega (arith, c.open_specs-test.true, length-map specs (item_by nodes)) in
    WritesSomeRecords-push says (listed nodes specs) i _ made (taken c.args.sink.now) (taken c.open_specs.sink) (taken c.put_record.new.sink) before.0 within
    (listed_at says nodes specs i _ c.in-Specification.kind made c.in-Specification.is refl refl refl) before.1 c.put_record.ensures.front

pub returns-clause-ok : goal.returns-clause-ok
returns-clause-ok g c = λ nodes.
    let taken = g.K.Sink.taken in
    let specs = c.args.specs.now in
    let before = c.open_specs.invariant.so_far nodes in (
      refl,
      (
        before.0,
        recorded_all (OpenOf c.args.drawn c.args.budget) (listed nodes specs) c.open_specs.i (taken c.args.sink.now) (taken c.open_specs.sink) before.0
            (omega (arith, length-map specs (item_by nodes))) before.1,
      ),
    )

pub returns-clause-part : goal.returns-clause-part
returns-clause-part g c = λ nodes.
    let taken = g.K.Sink.taken in
    let before = c.open_specs.invariant.so_far nodes in
    WritesSomeRecords-whole (OpenOf c.args.drawn c.args.budget) (listed nodes c.args.specs.now) c.open_specs.i (taken c.args.sink.now) (taken c.open_specs.sink) before.0 before.1
