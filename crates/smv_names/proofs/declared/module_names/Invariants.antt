-- The names of the modules so far.
use Rattle.std.proofs.Common.{◌≡◌, map, take}
use Rattle.smv_tree.specs.declared.tree.Module.{Module}
use Rattle.smv_names.specs.Lent.{read_names}
use Rattle.smv_names.proofs.declared.module_names.Given as goal

abbrev pub invariant-loop-m : goal.invariant-loop-m
invariant-loop-m l = read_names l.names.items ≡ map (λ (m : Module). (m.place, m.name)) (take l.m-index l.modules)
