-- What the array breaks, and what its index does.
use Rattle.std.proofs.Common.{◌∙◌, sym, ap, arith}
use Rattle.smv_resolve.specs.Resolved.{part_at}
use Rattle.smv_verdicts.specs.Verdicts.{or_else}
use Rattle.smv_types.specs.Judged.{as_refusal}
use Rattle.smv_types.proofs.Judging.{index_both, index_few, judged_is, one_of_three, told_is}
use Rattle.smv_types.proofs.kinds.inner_of_index.Goals as goal

pub returns-then-table-lt2 : goal.returns-then-table-lt2
returns-then-table-lt2 c = λ slots types rs h. sym (index_few slots types c.args.place rs (omega (arith, h.judged.long, c.if-table-lt2.true)))

pub returns : goal.returns
returns c = λ slots types rs h.
    let told = told_is slots types rs c.args.operands.now c.args.table.now h in
    let judged = judged_is slots types rs c.args.operands.now c.args.table.now h in
    c.first-2.ensures ∙ ap (or_else (as_refusal c.judged_at-array.result.defined)) c.first.ensures
    ∙ one_of_three (ap (λ j. as_refusal j.defined) c.judged_at-array.ensures ∙ (judged 0).defined) (ap (λ j. as_refusal j.inner) c.judged_at-array.ensures ∙ (judged 0).inner)
    (c.waiting-index.ensures slots types (part_at rs 0) (part_at rs 1) (c.told_at.ensures ∙ told 0) (c.told_at-2.ensures ∙ told 1) (rw c.judged_at.ensures (judged 1)))
    ∙ index_both slots types c.args.place rs (omega (arith, h.judged.long, c.if-table-lt2.false))
