use Rattle.frame_solver.specs.Asking.{AreAsked}
use Rattle.frame_solver.proofs.asking.assumptions.Given as goal

abbrev pub invariant-groups : goal.invariant-groups
invariant-groups l = AreAsked l.base l.heads l.lemmas l.i l.also l.k l.extra l.literals.items
