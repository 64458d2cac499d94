-- The variables so far, and those that are left.
use Rattle.std.proofs.Common.{◌≡◌, ◌++◌, drop, string_bytes}
use Rattle.trace_lines.specs.Reading.{head_row}
use Rattle.trace_view.specs.Vcd.{vars_text}
use Rattle.trace_view.proofs.vcd.write_vars.Given as goal

abbrev pub invariant-loop-j : goal.invariant-loop-j
invariant-loop-j l = string_bytes l.out ++ vars_text l.rows l.letter l.j (drop l.j (head_row l.rows)) ≡ string_bytes l.initial.out ++ vars_text l.rows l.letter 0 (head_row l.rows)
