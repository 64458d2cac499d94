-- The members so far.
use Rattle.std.proofs.Common.{◌≡◌, take}
use Rattle.bit_outcomes.proofs.told.copied_members.Given as goal

abbrev pub invariant-members : goal.invariant-members
invariant-members l = l.made ≡ take l.i l.members
