use Rattle.std.proofs.Common.{◌≡◌, List, ℕ}
use Rattle.clause_core.specs.declared.literal.Lit.{Lit}
use Rattle.frame_solver.specs.Groups.{clauses_of}
use Rattle.frame_solver.specs.Engines.{IsLoaded, KeepsLoading}
use Rattle.frame_solver.proofs.renewing.catch_up.Given as goal

abbrev pub invariant-lemmas : goal.invariant-lemmas
invariant-lemmas l =
    (l.engine.loaded ≡ l.n) × KeepsLoading l.fn.engine l.engine
    × ((b : ℕ) (hs : List (List (List Lit))) → IsLoaded b hs (clauses_of l.lemmas) l.fn.engine → IsLoaded b hs (clauses_of l.lemmas) l.engine)
