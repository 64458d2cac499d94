-- What is left of the run is of the type where all of it is.
use Rattle.std.proofs.Common.{◌≡◌, pos, ◌+ℤ◌, ◌-ℤ◌}
use Rattle.std.specs.List.{list_all}
use Rattle.smv_value.specs.Results.{natural}
use Rattle.value_types.specs.Types.{is_of_type}
use Rattle.value_sets.specs.Members.{run}
use Rattle.value_sets.proofs.spans.each_is_of.Given as goal

abbrev pub invariant-loop-z : goal.invariant-loop-z
invariant-loop-z l = list_all (λ v. is_of_type v l.t) (run l.z l.high) ≡ list_all (λ v. is_of_type v l.t) (run l.low l.high)

abbrev pub decreases-loop-z : goal.decreases-loop-z
decreases-loop-z l = natural (l.high +ℤ pos 1 -ℤ l.z)
