use Rattle.std.proofs.Common.{List, subst}
use Rattle.clause_core.specs.declared.literal.Lit.{Lit}
use Rattle.frame_core.specs.Facts.{IsPart}
use Rattle.frame_core.proofs.Changing.{IsPart-trans}
use Rattle.frame_query.proofs.attempting.ordered_by.Goals as goal

pub returns-clause-enough : goal.returns-clause-enough
returns-clause-enough c =
    let likely = c.in_ok-likely.likely.items in
    let literals = c.in_ok-literals.literals.items in
    let P : List Lit → Type 0 = λ xs. IsPart xs literals in
    IsPart-trans c.args.clause.now likely literals c.in_ok-likely.ensures.enough (subst P c.deref.ensures.value c.in_ok-literals.ensures.enough)

pub returns-clause-only : goal.returns-clause-only
returns-clause-only c =
    let likely = c.in_ok-likely.likely.items in
    let literals = c.in_ok-literals.literals.items in
    let P : List Lit → Type 0 = λ xs. IsPart literals xs in
    IsPart-trans literals likely c.args.clause.now (subst P c.deref.ensures.value c.in_ok-literals.ensures.only) c.in_ok-likely.ensures.only
