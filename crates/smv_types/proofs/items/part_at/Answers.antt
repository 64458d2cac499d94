-- What is read at a number is of the part of this number.
use Rattle.std.proofs.Common.{◌∙◌, ap}
use Rattle.smv_types.specs.Judged.{told_at}
use Rattle.smv_types.proofs.Judging.{judged_is, told_is}
use Rattle.smv_types.proofs.items.part_at.Goals as goal

pub returns : goal.returns
returns c = λ slots types parts h.
    let operands = c.args.table.now.operands.items in
    let table = c.args.table.now.judged in
    record {
      kind = ap (λ x. x.kind) (c.told_at.ensures ∙ ap (λ xs. told_at xs c.args.k) c.as_slice.ensures.value ∙ told_is slots types parts operands table h c.args.k);
      judged = rw c.at.ensures (judged_is slots types parts operands table h c.args.k);
    }
