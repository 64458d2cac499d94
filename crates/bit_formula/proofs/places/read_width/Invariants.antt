-- What is reached behind the inputs so far.
use Rattle.bit_formula.proofs.Placing.{HasReached}
use Rattle.bit_formula.proofs.places.read_width.Given as goal

abbrev pub invariant-loop-k : goal.invariant-loop-k
invariant-loop-k l = HasReached l.types l.reads 0 0 l.k l.reached.read l.reached.own l.reached.other
