use Rattle.std.proofs.Common.{◌≡◌, ℕ, ◌<◌, List, [], length, get_or}
use Rattle.clause_core.specs.declared.literal.Lit.{Lit}
use Rattle.ltl_meaning.specs.Ltl.{Ltl}
use Rattle.ltl_monitor.specs.States.{IsMonitor, IsOwnRow}
use Rattle.lasso_search.proofs.lasso.own_rows.Given as goal

abbrev pub invariant-loop-row : goal.invariant-loop-row
invariant-loop-row l =
    (length l.all.items ≡ l.row-index)
    × ((f : Ltl) (atoms : List Lit) → IsMonitor l.system f atoms l.monitored.system →
    (i : ℕ) → i < l.row-index → IsOwnRow l.system l.monitored.system (get_or l.rows i []) (get_or l.all.items i []))
