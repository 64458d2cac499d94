use Rattle.std.proofs.Common.{◌≡◌}
use Rattle.frame_tests.proofs.plays.wrong_in.Given as goal

abbrev pub invariant-rows : goal.invariant-rows
invariant-rows g l = (l.book.systems ≡ l.initial.book.systems) × (l.share.parts ≡ l.initial.share.parts)
