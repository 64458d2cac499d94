use Rattle.std.proofs.Common.{List, refl, subst}
use Rattle.std.specs.Prelude.{IsTrue, ◌↔◌}
use Rattle.clause_core.specs.declared.literal.Lit.{Lit}
use Rattle.frame_core.specs.Facts.{IsPart}
use Rattle.frame_query.proofs.Walked.{same_told, other_told}
use Rattle.frame_query.proofs.attempting.has_failed.Goals as goal

pub returns-then-is_part_of : goal.returns-then-is_part_of
returns-then-is_part_of c =
    let clause = c.args.clause.now in
    let r = c.is_part_of-then-is_part_of.result in
    let P : List Lit → Type 0 = λ xs. IsPart xs clause in
    let Q : List Lit → Type 0 = λ xs. IsTrue r ↔ IsPart clause xs in
    same_told r c.args.failed.now c.in-Some.other clause c.in-Some.is (subst P c.as_slice.ensures (c.if-is_part_of.ensures.0 refl))
    (subst Q c.as_slice-then-is_part_of.ensures c.is_part_of-then-is_part_of.ensures)

pub returns-else-is_part_of : goal.returns-else-is_part_of
returns-else-is_part_of c =
    let clause = c.args.clause.now in
    let r = c.is_part_of.result in
    let Q : List Lit → Type 0 = λ xs. IsTrue r ↔ IsPart xs clause in
    other_told r c.args.failed.now c.in-Some.other clause c.in-Some.is c.if-is_part_of.false (subst Q c.as_slice.ensures c.is_part_of.ensures)
