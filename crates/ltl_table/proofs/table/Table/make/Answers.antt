use Rattle.std.proofs.Common.{◌*◌, ap, arith}
use Rattle.ltl_meaning.specs.Temporal.{formula_of}
use Rattle.ltl_meaning.specs.Unfolded.{unfolded}
use Rattle.ltl_meaning.specs.Lasso.{on}
use Rattle.ltl_meaning.proofs.Unfold.{unfolds, unfolded_height}
use Rattle.ltl_table.proofs.Parts.{place_tells}
use Rattle.ltl_table.proofs.table.Table.make.Goals as goal

pub column-requires-clause-deep : goal.column-requires-clause-deep
column-requires-clause-deep c = omega (arith, unfolded_height (formula_of c.args.formula.now.root), c.past_height-passes.ensures.value)

pub returns : goal.returns
returns c = λ i.
    let m = ap (λ p. c.past_height-passes.result * p) c.period-period.ensures in
    let f = formula_of c.args.formula.now.root in
    let e = unfolds (on c.args.word.now) f i in
    let told = place_tells c.args.word.now c.past_height-passes.result c.in-Some-checked_add.start c.in-Some-checked_add-2.n
    (omega (arith, m, c.in-Some.ensures, c.in-Some-checked_add.ensures)) (omega (arith, c.period-period.ensures, c.in-Some-checked_add-2.ensures))
    (unfolded f) (omega (arith, unfolded_height f, c.past_height-passes.ensures.value)) c.in_ok-column.column.items c.in_ok-column.ensures i in
    (λ x. e.1 (told.0 x), λ x. told.1 (e.0 x))
