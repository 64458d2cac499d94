-- The mended bits so far.
use Rattle.std.proofs.Common.{◌≡◌, ◌<◌, ℕ, false, length}
use Rattle.std.specs.Prelude.{slice_index_or}
use Rattle.bit_faults.specs.Mending.{mended}
use Rattle.bit_faults.proofs.mending.mended.Given as goal

abbrev pub invariant-loop-i : goal.invariant-loop-i
invariant-loop-i l = record {
  long : length l.made.items ≡ l.i;
  bits : (k : ℕ) → k < l.i → slice_index_or l.made.items k false ≡ mended l.typed.scope.program (λ j. slice_index_or l.bits j false) k;
}
