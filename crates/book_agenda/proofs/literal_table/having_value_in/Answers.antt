use Rattle.std.proofs.Common.{refl}
use Rattle.clause_core.specs.declared.literal.Lit.{Lit}
use Rattle.clause_core.specs.Assignments.{assignment_of}
use Rattle.book_agenda.proofs.Tabled.{true_more}
use Rattle.book_agenda.proofs.literal_table.having_value_in.Goals as goal

pub loop-var-preserved : goal.loop-var-preserved
loop-var-preserved c =
    let values = c.args.values.now in
    let l : Lit = record { var = c.loop-var.var; positive = assignment_of values c.loop-var.var } in
    true_more c.args.words.now c.loop-var.seen c.word_of-seen.result l c.word_of-seen.ensures values refl c.loop-var.invariant

pub returns-then-seen : goal.returns-then-seen
returns-then-seen c =
    let values = c.args.values.now in
    let l : Lit = record { var = c.loop-var.var; positive = assignment_of values c.loop-var.var } in
    true_more c.args.words.now c.loop-var.seen c.word_of-seen.result l c.word_of-seen.ensures values refl c.loop-var.invariant
