use Rattle.frame_core.specs.FrameLaw.{system_at}
use Rattle.frame_query.proofs.Tried.{meets_more}
use Rattle.query_tests.proofs.frame_queries.unmet.Goals as goal

pub returns-in-Meet-clause-met : goal.returns-in-Meet-clause-met
returns-in-Meet-clause-met c =
    let met = rw c.in-Meet.is at c.in_ok-part.ensures.found in
    meets_more (system_at c.args.solver.now.systems 0) _ c.args.clause.now met.1 met.0
