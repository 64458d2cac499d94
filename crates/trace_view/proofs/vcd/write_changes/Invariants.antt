-- The changes so far, and those that are left.
use Rattle.std.proofs.Common.{◌≡◌, ◌++◌, drop, string_bytes}
use Rattle.trace_view.specs.Vcd.{changes_text}
use Rattle.trace_view.proofs.vcd.write_changes.Given as goal

abbrev pub invariant-loop-j : goal.invariant-loop-j
invariant-loop-j l =
    string_bytes l.out ++ changes_text l.rows l.letter l.before l.i l.j (drop l.j l.kinds) ≡ string_bytes l.initial.out ++ changes_text l.rows l.letter l.before l.i 0 l.kinds
