-- The bytes so far lead to the state.
use Rattle.std.proofs.Common.{◌≡◌, take}
use Rattle.std.specs.List.{fold}
use Rattle.trace_replay.specs.declared.forms.ValueState.TheVariants.{Start}
use Rattle.trace_replay.specs.Forms.{value_after}
use Rattle.trace_replay.proofs.forms.is_value.Given as goal

abbrev pub invariant-loop-b : goal.invariant-loop-b
invariant-loop-b l = l.state ≡ fold value_after Start (take l.b-index l.text)
