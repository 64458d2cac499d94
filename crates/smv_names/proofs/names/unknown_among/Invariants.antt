-- What is left of the names gives the refusal of all.
use Rattle.std.proofs.Common.{◌≡◌, drop}
use Rattle.smv_tree.specs.Occurring.{read}
use Rattle.smv_verdicts.specs.Verdicts.{first_of}
use Rattle.smv_names.specs.OpenNames.{unknown_name}
use Rattle.smv_names.proofs.names.unknown_among.Given as goal

abbrev pub invariant-loop-name : goal.invariant-loop-name
invariant-loop-name l =
    first_of (unknown_name l.scope.program l.at) (read (drop l.name-index l.names)) ≡ first_of (unknown_name l.scope.program l.at) (read l.names)
