use Rattle.std.proofs.Common.{arith}
use Rattle.sat_core.proofs.Origins.{count_both}
use Rattle.sat_core.proofs.query.learned_count.Goals as goal

pub overflow_sub-result : goal.overflow_sub-result
overflow_sub-result g c = omega (arith, count_both c.args.marks.now (g.P.Propagator.clauses c.args.inner.now), c.requires, c.clause_count.ensures)

pub returns : goal.returns
returns g c = omega (arith, count_both c.args.marks.now (g.P.Propagator.clauses c.args.inner.now), c.requires, c.clause_count.ensures)
