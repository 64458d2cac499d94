-- The lines of the numbers so far are written.
use Rattle.std.specs.Fmt.{HasWritten, IsPlainFormatter}
use Rattle.std.specs.List.{flat_map, range_with_len}
use Rattle.trace_replay.specs.Lines.{line_text, moment_entries}
use Rattle.trace_replay.proofs.printing.write_moments.Given as goal

abbrev pub invariant-loop-i : goal.invariant-loop-i
invariant-loop-i g l =
    IsPlainFormatter l.initial.f → HasWritten g.W.Write.write_str_gives l.initial.f (flat_map line_text (flat_map (moment_entries l.trace) (range_with_len 0 l.i))) l.f
