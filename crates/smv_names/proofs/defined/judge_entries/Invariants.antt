-- What is said of the entries that are left is said of all.
use Rattle.std.proofs.Common.{Option, drop}
use Rattle.smv_tree.specs.declared.refusal.Refusal.{Refusal}
use Rattle.smv_names.specs.Defined.{entries_verdict}
use Rattle.smv_names.specs.Entries.{read_entries}
use Rattle.smv_names.proofs.defined.judge_entries.Given as goal

abbrev pub invariant-loop-n : goal.invariant-loop-n
invariant-loop-n l =
    (r : Option Refusal) → entries_verdict l.graph l.n (read_entries (drop l.n l.entries)) r → entries_verdict l.graph 0 (read_entries l.entries) r
