-- What the index breaks, and then the element.
use Rattle.std.proofs.Common.{◌∙◌, sym, ap, arith}
use Rattle.smv_resolve.specs.Resolved.{part_at}
use Rattle.smv_types.specs.Judged.{as_refusal}
use Rattle.smv_types.specs.Kinds.{inner_refusal}
use Rattle.smv_types.proofs.Judging.{choice_both, choice_few}
use Rattle.smv_types.proofs.kinds.inner_of_choice.Goals as goal

pub returns-then-table-lt2 : goal.returns-then-table-lt2
returns-then-table-lt2 c = λ slots types rs h. sym (choice_few slots types c.args.place rs (omega (arith, h.long, c.if-table-lt2.true)))

pub returns : goal.returns
returns c = λ slots types rs h.
    c.chosen.ensures slots types (part_at rs 0) (inner_refusal slots types (part_at rs 1)) (rw c.judged_at.ensures (h.each 0))
    (ap (λ j. as_refusal j.inner) c.judged_at-2.ensures ∙ (h.each 1).inner)
    ∙ choice_both slots types c.args.place rs (omega (arith, h.long, c.if-table-lt2.false))
