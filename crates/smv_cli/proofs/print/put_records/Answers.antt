-- One more record is written, or a part of it.
use Rattle.std.proofs.Common.{◌≡◌, ◌∙◌, ◌+◌, ◌-◌, ◌<◌, ℕ, List, Some, length, get_or, slice_get, sym, ap, arith}
use Rattle.std.proofs.lemmas.List.{length-map}
use Rattle.std.proofs.lemmas.Option.{slice_get-get_or}
use Rattle.std.proofs.Math.ListN.{get_or-map}
use Rattle.smv_resolve.specs.declared.item.Item.{Item}
use Rattle.smv_resolve.specs.declared.node.ExprNode.{ExprNode}
use Rattle.smv_resolve.specs.Items.{ResolvedItem, item_by}
use Rattle.smv_tree.specs.declared.tree.Program.{Program}
use Rattle.smv_meaning.specs.Runs.{specifications_of}
use Rattle.trace_replay.specs.Tests.{specification_at}
use Rattle.smv_cli.specs.Records.{RightOf}
use Rattle.smv_cli.specs.Written.{program_in}
use Rattle.smv_cli.proofs.Claims.{listed, listed_at, not_claimed}
use Rattle.smv_cli.proofs.Recording.{WritesRecords-push, WritesSomeRecords-push, WritesSomeRecords-whole}
use Rattle.smv_cli.proofs.print.put_records.Goals as goal

pub unreachable-requires : goal.unreachable-requires
unreachable-requires g c = not_claimed c.args.specs.now c.specs.i _ (omega (arith, c.specs-test.true)) c.requires.claims c.in_default.not-Specification

numbered_claim : (p : Program) (nodes : List ExprNode) (specs : List Item) (i : ℕ) (s : Item) → i < length specs → listed nodes specs ≡ specifications_of p → specification_at p (i + 1) ≡ Some (item_by nodes (get_or specs i s))
numbered_claim p nodes specs i s within same =
    let back : i + 1 - 1 ≡ i = omega arith in
    ap (slice_get (specifications_of p)) back
    ∙ ap (λ (xs : List ResolvedItem). slice_get xs i) (sym same)
    ∙ slice_get-get_or (listed nodes specs) i (item_by nodes s) (omega (arith, within, length-map specs (item_by nodes)))
    ∙ ap (λ (x : ResolvedItem). Some x) (get_or-map (item_by nodes) specs i s)

pub judge-requires-clause-numbered : goal.judge-requires-clause-numbered
judge-requires-clause-numbered g c _ _ = numbered_claim (program_in c.args.model.now) c.args.model.now.flat.typed.nodes c.args.specs.now c.specs.i _ c.specs-test.true c.requires.listed

pub specs-preserved : goal.specs-preserved
specs-preserved g c =
    let taken = g.K.Sink.taken in
    let p = program_in c.args.model.now in
    let nodes = c.args.model.now.flat.typed.nodes in
    let effort = c.args.model.now.effort in
    let specs = c.args.specs.now in
    let i = c.specs.i in
    let made = c.in-Ok.made in
    let within : i < length (listed nodes specs) = omega (arith, c.specs-test.true, length-map specs (item_by nodes)) in
    record {
      so_far = WritesRecords-push (RightOf p effort) (listed nodes specs) i _ made (taken c.args.sink.now) (taken c.specs.sink) (taken c.put_record.new.sink) c.specs.status c.status_with-status.result within
          (listed_at (RightOf p effort) nodes specs i _ c.in-Specification.kind made c.in-Specification.is c.in-Ok.ensures.number c.in-Ok.ensures.kind c.in-Ok.ensures.right)
          c.specs.invariant.so_far c.in_ok-put_record.ensures.ok c.status_with-status.ensures.value;
      small = omega arith;
      same = c.in_ok-put_record.ensures.kept ∙ c.specs.invariant.same;
      pool = c.in-Ok.ensures.pool;
    }

pub returns-in_err-put_record-clause-part : goal.returns-in_err-put_record-clause-part
returns-in_err-put_record-clause-part g c =
    let taken = g.K.Sink.taken in
    let p = program_in c.args.model.now in
    let nodes = c.args.model.now.flat.typed.nodes in
    let effort = c.args.model.now.effort in
    let specs = c.args.specs.now in
    let i = c.specs.i in
    let made = c.in-Ok.made in
    let within : i < length (listed nodes specs) = omega (arith, c.specs-test.true, length-map specs (item_by nodes)) in
    WritesSomeRecords-push (RightOf p effort) (listed nodes specs) i _ made (taken c.args.sink.now) (taken c.specs.sink) (taken c.put_record.new.sink) c.specs.status within
    (listed_at (RightOf p effort) nodes specs i _ c.in-Specification.kind made c.in-Specification.is c.in-Ok.ensures.number c.in-Ok.ensures.kind c.in-Ok.ensures.right)
    c.specs.invariant.so_far c.put_record.ensures.front

pub returns-in_default-judge-clause-part : goal.returns-in_default-judge-clause-part
returns-in_default-judge-clause-part g c =
    let taken = g.K.Sink.taken in
    WritesSomeRecords-whole (RightOf (program_in c.args.model.now) c.args.model.now.effort) (listed c.args.model.now.flat.typed.nodes c.args.specs.now) c.specs.i (taken c.args.sink.now) (taken c.specs.sink) c.specs.status c.specs.invariant.so_far

pub returns-clause-part : goal.returns-clause-part
returns-clause-part g c =
    let taken = g.K.Sink.taken in
    WritesSomeRecords-whole (RightOf (program_in c.args.model.now) c.args.model.now.effort) (listed c.args.model.now.flat.typed.nodes c.args.specs.now) c.specs.i (taken c.args.sink.now) (taken c.specs.sink) c.specs.status c.specs.invariant.so_far
