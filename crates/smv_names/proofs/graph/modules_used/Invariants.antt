-- What the sections so far use.
use Rattle.std.proofs.Common.{◌≡◌, take}
use Rattle.std.specs.List.{flat_map}
use Rattle.smv_names.specs.Reached.{modules_in}
use Rattle.smv_names.proofs.graph.modules_used.Given as goal

abbrev pub invariant-loop-section : goal.invariant-loop-section
invariant-loop-section l = l.used.items ≡ flat_map (modules_in l.modules) (take l.section-index l.section-items)
