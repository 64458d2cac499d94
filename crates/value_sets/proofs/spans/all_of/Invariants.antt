-- All members so far are of the type.
use Rattle.std.proofs.Common.{◌≡◌, true, take}
use Rattle.std.specs.List.{flat_map, list_all}
use Rattle.value_types.specs.Types.{is_of_type}
use Rattle.value_sets.specs.Members.{span_values}
use Rattle.value_sets.proofs.spans.all_of.Given as goal

abbrev pub invariant-loop-span : goal.invariant-loop-span
invariant-loop-span l = list_all (λ v. is_of_type v l.t) (flat_map span_values (take l.span-index l.spans)) ≡ true
