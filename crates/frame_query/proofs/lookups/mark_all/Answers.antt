use Rattle.std.proofs.Common.{List, take, length, subst, sym, ◌<◌, ◌≤◌, arith}
use Rattle.std.proofs.lemmas.List.{take_more, take_all}
use Rattle.clause_core.specs.declared.literal.Lit.{Lit}
use Rattle.clause_core.specs.Literals.{none_lit}
use Rattle.frame_query.specs.Lookups.{AreSigned}
use Rattle.frame_query.proofs.lookups.mark_all.Goals as goal

pub literals-preserved : goal.literals-preserved
literals-preserved c =
    let literals = c.args.literals.now in
    let i = c.literals.l-index in
    let lt : i < length literals = c.literals-test.true in
    let P : List Lit → Type 0 = λ xs. AreSigned c.args.sign xs c.mark.new.marks.items in
    subst P (sym (take_more literals i none_lit lt)) (c.mark.ensures.marked (take i literals) c.literals.invariant)

pub returns : goal.returns
returns c =
    let literals = c.args.literals.now in
    let i = c.literals.l-index in
    let all : length literals ≤ i = omega (arith, c.literals-test.false) in
    subst (λ (xs : List Lit). AreSigned c.args.sign xs c.literals.marks.items) (take_all i literals all) c.literals.invariant
