use Rattle.std.proofs.Common.{◌≡◌}
use Rattle.book_agenda.specs.Tables.{HoldsStates}
use Rattle.book_agenda.proofs.values.add_states.Given as goal

abbrev pub invariant-loop-o : goal.invariant-loop-o
invariant-loop-o l = HoldsStates l.frames.obligations l.states × (l.states.rows ≡ l.o)
