use Rattle.std.proofs.Common.{◌≡◌}
use Rattle.effort_purse.specs.Seats.{IsSeatOf, shares_of}
use Rattle.solver_tests.proofs.purses.ask.Given as goal

abbrev pub invariant-loop-turn : goal.invariant-loop-turn
invariant-loop-turn l = record { own : IsSeatOf l.purse l.seat; shares : shares_of l.seat ≡ shares_of l.initial.seat }
