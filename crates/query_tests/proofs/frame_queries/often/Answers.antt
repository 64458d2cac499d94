use Rattle.std.proofs.Common.{List, subst, sym}
use Rattle.clause_core.specs.Systems.{TransitionSystem}
use Rattle.frame_core.specs.FrameLaw.{system_at}
use Rattle.frame_solver.specs.Firsts.{AllFirstsMeet}
use Rattle.query_tests.proofs.frame_queries.often.Goals as goal

pub relative-requires-clause-first : goal.relative-requires-clause-first
relative-requires-clause-first c =
    let P : List TransitionSystem → Type 0 = λ xs. AllFirstsMeet (system_at xs 0) c.args.clause.now in
    subst P (sym c.queries.invariant) c.requires.first
