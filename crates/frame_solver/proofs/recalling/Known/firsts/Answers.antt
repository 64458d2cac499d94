use Rattle.std.proofs.Common.{◌≡◌, ◌∙◌, ◌+◌, not, Bool, List, All, subst}
use Rattle.clause_core.specs.declared.literal.Lit.{Lit}
use Rattle.clause_core.specs.Assignments.{assignment_of}
use Rattle.clause_core.specs.Systems.{TransitionSystem}
use Rattle.frame_solver.specs.Firsts.{IsFirstOut}
use Rattle.frame_solver.proofs.Recalled.{finds_known, first_out}
use Rattle.frame_solver.proofs.recalling.Known.firsts.Goals as goal

pub returns-in-Some : goal.returns-in-Some
returns-in-Some c = finds_known c.args.self.now c.args.clause.now c.in-Some.l c.in_ok-part.part c.in_ok-part.ensures c.in-Some.ensures.0 c.in-Some.ensures.1

pub returns-then-is_outside : goal.returns-then-is_outside
returns-then-is_outside c =
    let sys = c.self.inside.system.now in
    let clause = c.args.clause.now in
    let state = c.in-Some-first.state in
    let same : c.in_ok-copy.copy ≡ state = c.in_ok-copy.ensures ∙ c.as_slice-then-is_outside.ensures in
    let is = rw c.in-Some-first.is at c.self.invariant.first in
    let O : List Bool → Type 0 = λ vs. All (λ (l : Lit). assignment_of vs (0 + l.var) ≡ not l.positive) clause in
    let S : TransitionSystem → Type 0 = λ s. IsFirstOut s clause c.in_ok-copy.copy in
    subst S c.self.view_is (first_out sys clause state c.in_ok-copy.copy same is (subst O c.as_slice.ensures (c.is_outside.ensures c.if-is_outside.true)))
