-- The variables that the instances so far are.
use Rattle.std.proofs.Common.{◌≡◌, None, take, position}
use Rattle.std.specs.HashMap.{get}
use Rattle.smv_scope.specs.declared.instance.Parent.{Parent}
use Rattle.smv_scope.specs.declared.instance.Instance.{Instance}
use Rattle.smv_scope.specs.Instances.{is_declared_by}
use Rattle.smv_scope.specs.Symbols.{same_variable}
use Rattle.smv_scope.proofs.symbols.note_parents.Given as goal

abbrev pub invariant-loop-k : goal.invariant-loop-k
invariant-loop-k l = (q : Parent) → get same_variable l.initial.table q ≡ None → get same_variable l.table q ≡ position (λ (x : Instance). is_declared_by q.instance q.variable x.parent) (take l.k l.tree)
