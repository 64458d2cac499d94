-- The spans so far.
use Rattle.std.proofs.Common.{◌≡◌, ◌++◌, take}
use Rattle.value_sets.proofs.sets.spans_behind.Given as goal

abbrev pub invariant-loop-span : goal.invariant-loop-span
invariant-loop-span l = l.spans ≡ l.initial.spans ++ take l.span-index l.more
