use Rattle.std.proofs.Common.{◌≡◌, ◌++◌, drop, string_bytes}
use Rattle.std.specs.List.{flat_map}
use Rattle.smv_recheck.specs.Printed.{record_text}
use Rattle.smv_recheck.proofs.printing.write_records.Given as goal

abbrev pub invariant-loop-said : goal.invariant-loop-said
invariant-loop-said l = string_bytes l.out ++ flat_map record_text (drop l.said-index l.records) ≡ string_bytes l.initial.out ++ flat_map record_text l.records
