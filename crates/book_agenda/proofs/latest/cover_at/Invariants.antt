use Rattle.std.proofs.Common.{◌≡◌, ◌+◌, ◌-◌, ℕ, get_or, vec_len}
use Rattle.std.specs.Prelude.{None}
use Rattle.book_agenda.proofs.latest.cover_at.Given as goal

abbrev pub invariant-places : goal.invariant-places
invariant-places l = (k : ℕ) → get_or l.numbers.items k None ≡ get_or l.initial.numbers.items k None

abbrev pub decreases-places : goal.decreases-places
decreases-places l = l.i + 1 - vec_len l.numbers
