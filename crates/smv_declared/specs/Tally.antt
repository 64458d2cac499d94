-- Types that are counted as they come.
use Rattle.std.specs.Prelude.{◌≡◌, ◌+◌, ◌≤◌, List, min}
use Rattle.smv_declared.specs.declared.variable_type.VariableType.{VariableType}
use Rattle.smv_declared.specs.declared.tally.Tally.{Tally}
use Rattle.smv_declared.specs.Types.{most_slots, slots_in}

-- it has the count of these types, and the types themselves while they are few
abbrev pub Tallies : List VariableType → Tally → Type 0
Tallies all t = (t.slots ≡ min (slots_in all) (most_slots + 1)) × (t.slots ≤ most_slots → t.types ≡ all)
