use Rattle.std.proofs.Common.{◌≡◌, ◌<◌, take, length, arith, ap, ◌∙◌}
use Rattle.std.specs.List.{count_by}
use Rattle.std.proofs.lemmas.List.{get_or_read, take_all}
use Rattle.std.proofs.lemmas.List.Sums.{sum_by_more}
use Rattle.frame_core.specs.declared.parts.Lemma.{Lemma}
use Rattle.frame_core.specs.FrameLaw.{no_lemma, lemma_at}
use Rattle.frame_core.specs.Counting.{is_live_at}
use Rattle.frame_core.proofs.Counts.{counts_as}
use Rattle.frame_core.proofs.counting.count_at.Goals as goal

pub loop-n-preserved : goal.loop-n-preserved
loop-n-preserved c =
    let ls = c.args.lemmas.now in
    let n = c.loop-n.n in
    let lt : n < length ls = omega arith in
    let l : Lemma = c.index-lemmas-n.result in
    let e : l ≡ lemma_at ls n = get_or_read ls n l lt c.index-lemmas-n.is no_lemma in
    let m = sum_by_more (counts_as c.args.level) ls n no_lemma lt in
    let v = c.counts_as-count.ensures.value ∙ ap (counts_as c.args.level) e in
    let inv = c.loop-n.invariant.value in
    let s = c.counts_as-count.ensures.small in
    let s2 = c.loop-n.invariant.small in
    record { value = omega arith; small = omega arith }

pub returns : goal.returns
returns c =
    let e : take c.loop-n.n c.args.lemmas.now ≡ c.args.lemmas.now = take_all _ _ (omega arith) in
    c.loop-n.invariant.value ∙ ap (count_by (is_live_at c.args.level)) e
