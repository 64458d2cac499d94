-- The digits so far, and those that are left.
use Rattle.std.proofs.Common.{◌≡◌, drop}
use Rattle.trace_table.specs.Kinds.{digits_from}
use Rattle.trace_table.proofs.kinds.digits_read.Given as goal

abbrev pub invariant-loop-d : goal.invariant-loop-d
invariant-loop-d l = digits_from l.n (drop l.d-index l.digits) ≡ digits_from 0 l.digits
