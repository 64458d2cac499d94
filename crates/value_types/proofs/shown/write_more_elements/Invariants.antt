-- The elements so far are written.
use Rattle.std.proofs.Common.{take}
use Rattle.std.specs.Fmt.{HasWritten, IsPlainFormatter}
use Rattle.value_types.specs.Shown.{more_elements}
use Rattle.value_types.proofs.shown.write_more_elements.Given as goal

abbrev pub invariant-loop-e : goal.invariant-loop-e
invariant-loop-e g l =
    IsPlainFormatter l.initial.f → HasWritten g.W.Write.write_str_gives l.initial.f (more_elements l.names (take l.e-index l.elements)) l.f
