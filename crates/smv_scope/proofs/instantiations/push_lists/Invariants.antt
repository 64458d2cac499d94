-- The lists of the modules so far.
use Rattle.std.proofs.Common.{◌≡◌, ℕ, ◌<◌, length, slice_get}
use Rattle.smv_scope.specs.Modules.{sections_of}
use Rattle.smv_scope.proofs.Listing.{IsListOf}
use Rattle.smv_scope.proofs.instantiations.push_lists.Given as goal

abbrev pub invariant-loop-module : goal.invariant-loop-module
invariant-loop-module l = record {
  counted : length l.lists ≡ l.module-index;
  right : (m : ℕ) → m < length l.lists → IsListOf l.program (sections_of l.program m) (slice_get l.lists m);
}
