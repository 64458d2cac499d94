use Rattle.std.proofs.Common.{◌≡◌, map}
use Rattle.std.specs.List.{range_with_len}
use Rattle.smv_slots.specs.Slots.{first_slot}
use Rattle.smv_layout.proofs.sizes.first_slots.Given as goal

-- the first slots of the variables so far, and the next one
abbrev pub invariant-loop-variable : goal.invariant-loop-variable
invariant-loop-variable l = record {
  firsts : l.firsts.items ≡ map (first_slot l.variables) (range_with_len 0 l.variable-index);
  next : l.next ≡ first_slot l.variables l.variable-index;
}
