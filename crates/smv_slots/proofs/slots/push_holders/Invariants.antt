-- What stands there and what is to come are the same as before.
use Rattle.std.proofs.Common.{◌≡◌, ◌++◌, drop, map, Bor}
use Rattle.smv_tree.specs.declared.tree.Variable.{Variable}
use Rattle.smv_tree.specs.declared.tree.VariableKind.{VariableKind}
use Rattle.smv_slots.specs.Slots.{holders_from}
use Rattle.smv_slots.proofs.slots.push_holders.Given as goal

abbrev pub invariant-loop-v : goal.invariant-loop-v
invariant-loop-v l =
    l.holders ++ holders_from l.at l.v (map (λ (x : VariableKind × Bor Variable). (x.0, x.1.now)) (drop l.v l.x-items))
    ≡ l.initial.holders ++ holders_from l.at 0 (map (λ (x : VariableKind × Bor Variable). (x.0, x.1.now)) l.x-items)
