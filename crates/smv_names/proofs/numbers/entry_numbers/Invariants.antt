-- The keys of the entries so far.
use Rattle.std.proofs.Common.{◌≡◌, take, position}
use Rattle.std.specs.HashMap.{get}
use Rattle.smv_names.specs.declared.entries.DefinitionEntry.{DefinitionEntry}
use Rattle.smv_scope.specs.declared.target.Shared.{Shared}
use Rattle.smv_scope.specs.Targets.{shared_eq}
use Rattle.smv_names.specs.Entries.{is_keyed, read_entry}
use Rattle.smv_names.proofs.numbers.entry_numbers.Given as goal

abbrev pub invariant-loop-n : goal.invariant-loop-n
invariant-loop-n l = (q : Shared) → get shared_eq l.numbers q ≡ position (λ (x : DefinitionEntry). is_keyed q (read_entry x)) (take l.n l.entries)
