-- What is left of the modules gives the refusal of all.
use Rattle.std.proofs.Common.{◌≡◌, drop}
use Rattle.smv_verdicts.specs.Verdicts.{first_of}
use Rattle.smv_names.specs.Declarations.{parameters_of_main, main_parameters}
use Rattle.smv_names.proofs.declared.main_parameters.Given as goal

abbrev pub invariant-loop-m : goal.invariant-loop-m
invariant-loop-m l = first_of parameters_of_main (drop l.m-index l.m-items) ≡ main_parameters l.program
