-- What stands for names is pushed on the list.
use Rattle.std.proofs.Common.{ℕ, List, Result, Ok, Err, OnOk}
use Rattle.smv_tree.specs.declared.tree.Program.{Program}
use Rattle.smv_tree.specs.declared.tree.Expr.{Expr}
use Rattle.smv_scope.specs.declared.target.Shared.{Shared}
use Rattle.smv_resolve.specs.declared.pending.Pending.{Pending}
use Rattle.smv_resolve.specs.Finding.{IsShared}
use Rattle.smv_resolve.specs.Pending.{AllLead}

pub pushed : {T E : Type 0} (p : Program) (result : Result T E) (old new : List Pending) (shared : Shared) (at : ℕ) (e : Expr) →
    OnOk result ((q : Program) → AllLead q old → IsShared q shared at e → AllLead q new) → AllLead p old → IsShared p shared at e → OnOk result (AllLead p new)
pushed p (Ok t) old new shared at e says lead is = says p lead is
pushed p (Err x) old new shared at e says lead is = tt
