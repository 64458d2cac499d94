-- The characters so far, and those that are left.
use Rattle.std.proofs.Common.{◌≡◌, ◌++◌, drop, string_bytes}
use Rattle.trace_view.specs.Svg.{escaped_chars}
use Rattle.trace_view.proofs.svg.write_chars.Given as goal

abbrev pub invariant-loop-c : goal.invariant-loop-c
invariant-loop-c l = string_bytes l.out ++ escaped_chars (drop l.c-index l.chars) ≡ string_bytes l.initial.out ++ escaped_chars l.chars
