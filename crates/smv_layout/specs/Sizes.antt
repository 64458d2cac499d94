-- The slots at which variables begin.
use Rattle.std.specs.Prelude.{ℕ, List, length, map}
use Rattle.std.specs.List.{range_with_len}
use Rattle.smv_declared.specs.declared.variable_type.VariableType.{VariableType}
use Rattle.smv_slots.specs.Slots.{first_slot}

-- the first slot of each variable
abbrev pub first_slots : List VariableType → List ℕ
first_slots vs = map (first_slot vs) (range_with_len 0 (length vs))
