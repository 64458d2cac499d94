use Rattle.std.proofs.Common.{◌<◌, List, length, get_or, sym, subst, arith}
use Rattle.clause_core.specs.declared.literal.Lit.{Lit}
use Rattle.clause_core.specs.Literals.{none_lit}
use Rattle.clause_core.specs.Systems.{TransitionSystem}
use Rattle.frame_solver.specs.Firsts.{AllFirstsMeet}
use Rattle.frame_solver.proofs.Recalled.{fixed_by}
use Rattle.frame_solver.proofs.recalling.Known.note_firsts.Goals as goal

pub invariant_of-self : goal.invariant_of-self
invariant_of-self c =
    let sys = c.self.inside.system.now in
    let part = c.as_slice-literals.result.now in
    let table = c.self.inside.fixed.items in
    let S : TransitionSystem → Type 0 = λ s. AllFirstsMeet s c.in-Meet.part in
    let L : List Lit → Type 0 = AllFirstsMeet sys in
    let meets : AllFirstsMeet sys part = subst L (sym c.as_slice-literals.ensures) (subst S (sym c.self.view_is) (rw c.in-Meet.is at c.requires)) in
    let lt : (get_or part 0 none_lit).var < length table = omega (arith, c.if-l-len.true, c.len.ensures) in
    record {
      fixed = fixed_by sys table part c.if-literals-eq1.true c.self.invariant.fixed meets lt;
      first = c.self.invariant.first;
      steps = c.self.invariant.steps;
    }
