-- What the modules so far use.
use Rattle.std.proofs.Common.{◌≡◌, map, take}
use Rattle.smv_names.specs.Reached.{modules_used}
use Rattle.smv_names.proofs.graph.module_graph.Given as goal

abbrev pub invariant-loop-m : goal.invariant-loop-m
invariant-loop-m l = l.graph.items ≡ map (modules_used l.program.modules) (take l.m-index l.m-items)
