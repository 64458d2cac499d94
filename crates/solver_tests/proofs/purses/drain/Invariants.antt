use Rattle.std.proofs.Common.{◌-◌}
use Rattle.effort_purse.specs.Drawing.{past}
use Rattle.solver_tests.proofs.purses.drain.Given as goal

abbrev pub invariant-draws : goal.invariant-draws
invariant-draws g l = record { kept : g.P.Purse.kept l.initial.purse l.purse; ready : g.P.Purse.ready l.purse }

abbrev pub decreases-draws : goal.decreases-draws
decreases-draws g l = g.P.Purse.budget l.purse - past (g.P.Purse.tickets l.purse)
