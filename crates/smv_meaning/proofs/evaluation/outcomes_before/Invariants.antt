-- The outcomes of the nodes so far.
use Rattle.std.proofs.Common.{◌≡◌, [], List, take}
use Rattle.smv_value.specs.declared.value.Value.{Value}
use Rattle.smv_meaning.specs.Tables.{outcomes_of}
use Rattle.smv_meaning.proofs.evaluation.outcomes_before.Given as goal

abbrev pub invariant-loop-i : goal.invariant-loop-i
invariant-loop-i l = (t : List Value) → l.later ≡ outcomes_of l.slots t [] [] l.nodes → l.made.items ≡ outcomes_of l.slots l.s l.u t (take l.i l.nodes)
