-- No member so far.
use Rattle.std.proofs.Common.{◌≡◌, false, take}
use Rattle.std.specs.List.{flat_map, list_any}
use Rattle.smv_value.specs.Results.{same}
use Rattle.value_sets.specs.Members.{span_values}
use Rattle.value_sets.proofs.spans.some_has.Given as goal

abbrev pub invariant-loop-span : goal.invariant-loop-span
invariant-loop-span l = list_any (same l.v) (flat_map span_values (take l.span-index l.spans)) ≡ false
