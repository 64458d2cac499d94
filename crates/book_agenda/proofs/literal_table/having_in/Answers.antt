use Rattle.std.proofs.lemmas.List.{get_or_default}
use Rattle.clause_core.specs.declared.literal.Lit.{Lit}
use Rattle.clause_core.specs.Literals.{none_lit, at}
use Rattle.book_agenda.proofs.Tabled.{one_more, one_found}
use Rattle.book_agenda.proofs.literal_table.having_in.Goals as goal

pub loop-l-preserved : goal.loop-l-preserved
loop-l-preserved c =
    let lits = c.args.lits.now in
    let n = c.loop-l.l-index in
    let l : Lit = at lits n in
    one_more c.args.words.now c.loop-l.seen c.word_of-seen.result l c.word_of-seen.ensures lits n (get_or_default lits n l none_lit c.loop-l-test.true)
    c.loop-l.invariant

pub returns-then-seen : goal.returns-then-seen
returns-then-seen c =
    let lits = c.args.lits.now in
    let n = c.loop-l.l-index in
    let l : Lit = at lits n in
    one_found c.args.words.now c.loop-l.seen c.word_of-seen.result l c.word_of-seen.ensures lits n c.loop-l-test.true
    (get_or_default lits n l none_lit c.loop-l-test.true) c.loop-l.invariant
