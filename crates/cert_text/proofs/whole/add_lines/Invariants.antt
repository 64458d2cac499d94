use Rattle.std.proofs.Common.{◌≡◌, ◌+◌, drop, map}
use Rattle.cert_text.specs.Reading.{read_from}
use Rattle.cert_text.proofs.whole.add_lines.Given as goal

abbrev pub invariant-loop-i : goal.invariant-loop-i
invariant-loop-i l =
    read_from l.items (l.i + 1) l.last l.reading (drop l.i (map (λ x. x.now) l.lines)) ≡ read_from l.items 1 1 l.fn.reading (map (λ x. x.now) l.lines)
