use Rattle.std.proofs.Common.{◌∙◌}
use Rattle.std.proofs.lemmas.List.{get_or_default}
use Rattle.clause_core.specs.declared.literal.Lit.{Lit}
use Rattle.clause_core.specs.Literals.{none_lit, at}
use Rattle.book_agenda.proofs.Tabled.{adds_more}
use Rattle.book_agenda.proofs.literal_table.set_literals.Goals as goal

pub loop-l-preserved : goal.loop-l-preserved
loop-l-preserved c =
    let lits = c.args.lits.now in
    let n = c.loop-l.l-index in
    let l : Lit = at lits n in
    let i = c.loop-l.invariant in (
      c.set.ensures.length ∙ i.0,
      adds_more c.args.width c.args.row lits n l c.args.words.now.items c.loop-l.words.items c.set.new.words.items
          (get_or_default lits n l none_lit c.loop-l-test.true) i.1 c.set.ensures.set,
    )
