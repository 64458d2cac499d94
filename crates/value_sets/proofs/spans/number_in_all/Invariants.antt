-- How many there are so far.
use Rattle.std.proofs.Common.{take}
use Rattle.std.specs.List.{flat_map}
use Rattle.value_sets.specs.Members.{IsFew, span_values}
use Rattle.value_sets.proofs.spans.number_in_all.Given as goal

abbrev pub invariant-loop-span : goal.invariant-loop-span
invariant-loop-span l = IsFew l.number (flat_map span_values (take l.span-index l.spans))
