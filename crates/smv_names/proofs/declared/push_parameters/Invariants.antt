-- The names of the parameters so far.
use Rattle.std.proofs.Common.{◌≡◌, ◌++◌, map, take}
use Rattle.smv_tree.specs.declared.tree.Parameter.{Parameter}
use Rattle.smv_names.specs.Lent.{read_names}
use Rattle.smv_names.proofs.declared.push_parameters.Given as goal

abbrev pub invariant-loop-parameter : goal.invariant-loop-parameter
invariant-loop-parameter l =
    read_names l.names.items
    ≡ read_names l.initial.names.items ++ map (λ (x : Parameter). (x.place, x.name)) (take l.parameter-index l.parameters)
