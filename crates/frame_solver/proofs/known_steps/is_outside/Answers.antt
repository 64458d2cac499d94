use Rattle.std.proofs.Common.{◌≡◌, ◌+◌, not, List, take, All, subst, arith}
use Rattle.std.proofs.lemmas.List.{take_all}
use Rattle.std.proofs.lemmas.List.Elements.{All-more}
use Rattle.clause_core.specs.declared.literal.Lit.{Lit}
use Rattle.clause_core.specs.Literals.{none_lit}
use Rattle.clause_core.specs.Assignments.{assignment_of}
use Rattle.frame_solver.proofs.Recalled.{other_bits}
use Rattle.frame_solver.proofs.known_steps.is_outside.Goals as goal

pub literals-preserved : goal.literals-preserved
literals-preserved c =
    let P : Lit → Type 0 = λ m. assignment_of c.args.values.now (c.args.from + m.var) ≡ not m.positive in
    All-more P c.args.clause.now c.literals.l-index none_lit c.literals-test.true c.literals.invariant (other_bits _ _ c.if-values-from.false)

pub returns : goal.returns
returns c outside =
    let P : List Lit → Type 0 = All (λ m. assignment_of c.args.values.now (c.args.from + m.var) ≡ not m.positive) in
    let e : take c.literals.l-index c.args.clause.now ≡ c.args.clause.now = take_all _ _ (omega arith) in
    subst P e c.literals.invariant
