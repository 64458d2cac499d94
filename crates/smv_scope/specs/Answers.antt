-- What laying out answers.
use Rattle.std.specs.Prelude.{◌≡◌, ◌<◌, ◌≤◌, length, Result, Ok, Err}
use Rattle.smv_tree.specs.declared.tree.Program.{Program}
use Rattle.smv_scope.specs.declared.scope.Scope.{Scope}
use Rattle.smv_scope.specs.declared.layout.LayoutStop.{LayoutStop}
use Rattle.smv_scope.specs.declared.layout.LayoutStop.TheVariants as layout
use Rattle.smv_scope.specs.Instances.{instances_of, most_instances}

-- the program with its instances, if it has not too many
abbrev pub LaysOut : Program → Result Scope LayoutStop → Type 0
LaysOut p (Ok scope) = (scope.program ≡ p) × (length (instances_of p) ≤ most_instances)
LaysOut p (Err layout.TooManyInstances) = most_instances < length (instances_of p)
LaysOut p (Err layout.NoMemory) = Unit {0}
