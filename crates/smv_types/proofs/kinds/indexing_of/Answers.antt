-- What is told or noted of the first operand.
use Rattle.std.proofs.Common.{◌∙◌, ap}
use Rattle.std.specs.Option.{is_some}
use Rattle.smv_types.proofs.Judging.{equal_indexing, equal_says, judged_is, subscript_indexing, subscript_says, told_is}
use Rattle.smv_types.specs.Kinds.{told}
use Rattle.smv_resolve.specs.Resolved.{part_at}
use Rattle.smv_types.proofs.kinds.indexing_of.Goals as goal

pub returns-in-Subscript : goal.returns-in-Subscript
returns-in-Subscript c = λ slots types place rs h.
    rw (c.in-Subscript.is, c.no_indexing.ensures)
    (ap (λ b. subscript_indexing b c.judged_at.result.indexing) (c.is_some.ensures ∙ ap (λ x. is_some x.constant) (c.told_at.ensures ∙ told_is slots types rs c.args.operands.now c.args.table.now h 0))
    ∙ ap (subscript_indexing (is_some (told slots types (part_at rs 0)).constant))
    (ap (λ j. j.indexing) c.judged_at.ensures ∙ (judged_is slots types rs c.args.operands.now c.args.table.now h 0).indexing)
    ∙ subscript_says slots types place rs)

pub returns-in-Equal : goal.returns-in-Equal
returns-in-Equal c = λ slots types place rs h.
    rw c.in-Equal.is
    (ap equal_indexing (ap (λ j. j.indexing) c.judged_at.ensures ∙ (judged_is slots types rs c.args.operands.now c.args.table.now h 0).indexing)
    ∙ equal_says slots types place rs)
