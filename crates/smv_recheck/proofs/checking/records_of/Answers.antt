-- One more record, and all of them.
use Rattle.std.proofs.Common.{◌≡◌, ◌+◌, List, ap, length, subst, sym, arith}
use Rattle.std.proofs.lemmas.List.{length-map}
use Rattle.smv_resolve.specs.Items.{item_by}
use Rattle.smv_recheck.specs.declared.judgement.Record.{Record}
use Rattle.smv_recheck.specs.Checking.{AreRecords}
use Rattle.smv_recheck.specs.Refusing.{spec_count}
use Rattle.smv_recheck.proofs.Recording.{SoFar, all_done, at_place, one_more}
use Rattle.smv_recheck.proofs.checking.records_of.Goals as goal

pub loop-j-preserved : goal.loop-j-preserved
loop-j-preserved c =
    let p = c.args.flat.now.typed.scope.program in
    let b = c.args.built.now in
    let soundness = c.args.soundness in
    let again = c.args.again in
    let traces = c.args.beside.now.traces in
    let certificates = c.args.beside.now.certificates.items in
    let j = c.loop-j.j in
    subst (λ (rs : List Record). SoFar p b soundness again traces certificates (j + 1) rs) (sym c.in_ok-push.ensures.items)
    (one_more p b soundness again traces certificates j c.loop-j.records.items _ c.in_ok-record.record c.loop-j.invariant
    (at_place p c.args.flat.now.typed.nodes c.args.specs.now j _ c.loop-j-test.true c.requires.listed) c.in_ok-record.ensures)

pub returns : goal.returns
returns c =
    let p = c.args.flat.now.typed.scope.program in
    let specs = c.args.specs.now in
    let nodes = c.args.flat.now.typed.nodes in
    let e : c.loop-j.j ≡ spec_count p = omega (arith, length-map specs (item_by nodes), ap length c.requires.listed) in
    subst (λ (rs : List Record). AreRecords p c.args.built.now c.args.soundness c.args.again c.args.beside.now.traces c.args.beside.now.certificates.items rs) (sym c.from_vec.ensures)
    (all_done p c.args.built.now c.args.soundness c.args.again c.args.beside.now.traces c.args.beside.now.certificates.items c.loop-j.j c.loop-j.records.items c.loop-j.invariant e)
