-- Frozen slots as bits.
use Rattle.std.specs.Prelude.{Bool, true, ◌&&◌, List, [], ◌∷◌}
use Rattle.std.specs.Bool.{beq}
use Rattle.std.specs.List.{list_all, zip}
use Rattle.smv_value.specs.declared.value.Value.{Value}
use Rattle.smv_slots.specs.declared.slot.Slot.{Slot}
use Rattle.smv_meaning.specs.Runs.{keeps}

-- the bits are the same, one by one
abbrev pub are_same : List Bool → List Bool → Bool
are_same [] bs = true
are_same (a ∷ as') [] = true
are_same (a ∷ as') (b ∷ bs) = beq a b && are_same as' bs

-- each frozen slot keeps its value, where the slots of a state have these values and those
abbrev pub all_kept : List Slot → List Value → List Value → Bool
all_kept slots s t = list_all (λ (x : (Slot × Value) × Value). keeps x.0.0 x.0.1 x.1) (zip (zip slots s) t)
