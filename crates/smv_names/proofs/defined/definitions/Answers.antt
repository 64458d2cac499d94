-- The graph is that of the entries.
use Rattle.std.proofs.Common.{ℕ, List, subst, sym, ap, ◌∙◌}
use Rattle.digraph.specs.Cycles.{Closed}
use Rattle.smv_names.specs.Entries.{read_entries}
use Rattle.smv_names.proofs.OfEntries.{entries_closed, same_size}
use Rattle.smv_names.proofs.defined.definitions.Goals as goal

pub judge-requires-clause-closed : goal.judge-requires-clause-closed
judge-requires-clause-closed c =
    let P : List (List ℕ) → Type 0 = λ g. Closed g in
    subst P (sym (c.as_slice-2.ensures.value ∙ c.in_ok-graph.ensures)) (entries_closed c.args.scope.now.program)

pub judge-requires-clause-same : goal.judge-requires-clause-same
judge-requires-clause-same c =
    same_size c.args.scope.now.program c.as_slice-3.result.now c.as_slice-2.result.now
    (ap read_entries c.as_slice-3.ensures.value ∙ c.in_ok-entries.ensures)
    (c.as_slice-2.ensures.value ∙ c.in_ok-graph.ensures)
