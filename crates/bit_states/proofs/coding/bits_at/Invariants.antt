-- The bits so far.
use Rattle.std.proofs.Common.{◌≡◌, map, take, false}
use Rattle.std.specs.Prelude.{slice_index_or}
use Rattle.bit_states.proofs.coding.bits_at.Given as goal

abbrev pub invariant-loop-place : goal.invariant-loop-place
invariant-loop-place l = l.made.items ≡ map (λ k. slice_index_or l.bits k false) (take l.place-index l.places)
