-- The cycle that was found, from its least node on.
use Rattle.std.proofs.Common.{ℕ, List, subst, sym}
use Rattle.digraph.specs.Cycles.{IsCycle, Distinct}
use Rattle.digraph.proofs.Turning.{turned}
use Rattle.digraph.proofs.canonical.canonical_cycle.Goals as goal

pub returns-in_ok-from_least-in-Some : goal.returns-in_ok-from_least-in-Some
returns-in_ok-from_least-in-Some c =
    let found = rw c.in-Some.is at c.in_ok-find_cycle.ensures in
    let P : List ℕ → Type 0 = λ r. IsCycle c.args.g.now r × Distinct r in
    turned c.args.g.now c.as_slice.result.now c.in_ok-from_least-in-Some.field-0 (subst P (sym c.as_slice.ensures) found) c.in_ok-from_least-in-Some.ensures
