-- No fault so far.
use Rattle.std.proofs.Common.{◌≡◌, drop}
use Rattle.smv_meaning.specs.Tables.{first_fault}
use Rattle.smv_meaning.proofs.item_faults.first_fault.Given as goal

abbrev pub invariant-loop-fault : goal.invariant-loop-fault
invariant-loop-fault l = first_fault (drop l.fault-index l.faults) ≡ first_fault l.faults
