-- The systems so far.
use Rattle.std.proofs.Common.{◌≡◌, map, take}
use Rattle.bit_system.specs.Sharing.{system_by}
use Rattle.bit_system.proofs.systems.systems.Given as goal

abbrev pub invariant-loop-claim : goal.invariant-loop-claim
invariant-loop-claim l = l.systems.items ≡ map (system_by l.shared l.vars) (take l.claim-index l.claims)
