-- The bytes so far lead to the state.
use Rattle.std.proofs.Common.{◌≡◌, take}
use Rattle.std.specs.List.{fold}
use Rattle.trace_replay.specs.declared.forms.NameState.TheVariants.{Start}
use Rattle.trace_replay.specs.Forms.{name_after}
use Rattle.trace_replay.proofs.forms.is_name.Given as goal

abbrev pub invariant-loop-b : goal.invariant-loop-b
invariant-loop-b l = l.state ≡ fold name_after Start (take l.b-index l.text)
