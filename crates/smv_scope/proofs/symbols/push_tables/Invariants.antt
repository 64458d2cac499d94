-- The tables of the modules so far.
use Rattle.std.proofs.Common.{◌≡◌, ℕ, ◌<◌, length, slice_get}
use Rattle.smv_scope.specs.Modules.{parameters_of, sections_of}
use Rattle.smv_scope.specs.Symbols.{IsTableOf}
use Rattle.smv_scope.proofs.symbols.push_tables.Given as goal

abbrev pub invariant-loop-module : goal.invariant-loop-module
invariant-loop-module l = record {
  counted : length l.tables ≡ l.module-index;
  right : (m : ℕ) → m < length l.tables → IsTableOf (parameters_of l.program m) (sections_of l.program m) (slice_get l.tables m);
}
