use Rattle.std.proofs.Common.{List, subst, sym}
use Rattle.clause_core.specs.Systems.{TransitionSystem}
use Rattle.frame_core.specs.FrameLaw.{system_at}
use Rattle.frame_solver.specs.Firsts.{AllFirstsMeet}
use Rattle.query_tests.proofs.frame_queries.of_clause.Goals as goal

pub of_steps-requires-clause-first : goal.of_steps-requires-clause-first
of_steps-requires-clause-first c =
    let first = rw c.in-None.is at c.in_ok-answer.ensures.met in
    let P : List TransitionSystem → Type 0 = λ xs. AllFirstsMeet (system_at xs 0) c.args.clause.now in
    subst P (sym c.unmet.ensures.systems) first
