-- One line more, and a line that may not stand there.
use Rattle.std.proofs.Common.{◌≡◌, ◌<◌, List, ℕ, map, length, get_or, sym, ◌∙◌, [], Bor}
use Rattle.std.proofs.lemmas.List.{length-map, get_or-map}
use Rattle.trace_lines.proofs.OfReading.{lines_more, lines_stop}
use Rattle.trace_lines.proofs.reading.lines_read.Goals as goal

pub returns-in-None-clause-stopped : goal.returns-in-None-clause-stopped
returns-in-None-clause-stopped c =
    let ls = c.args.lines.now in
    let i = c.loop-i.i in
    let now = λ (x : Bor (List ℕ)). x.now in
    let d = get_or ls i record { ref_ptr = (0, 0); now = [] } in
    let at : d.now ≡ get_or (map now ls) i d.now = sym (get_or-map now ls i record { ref_ptr = (0, 0); now = [] } d.now c.loop-i-test.true) in
    let lt : i < length (map now ls) = simp length-map (c.loop-i-test.true) in
    sym c.loop-i.invariant ∙ lines_stop (map now ls) i c.loop-i.reading d.now lt at (sym c.in_ok-with_line.ensures ∙ c.in-None.is)

pub loop-i-preserved : goal.loop-i-preserved
loop-i-preserved c =
    let ls = c.args.lines.now in
    let i = c.loop-i.i in
    let now = λ (x : Bor (List ℕ)). x.now in
    let d = get_or ls i record { ref_ptr = (0, 0); now = [] } in
    let at : d.now ≡ get_or (map now ls) i d.now = sym (get_or-map now ls i record { ref_ptr = (0, 0); now = [] } d.now c.loop-i-test.true) in
    let lt : i < length (map now ls) = simp length-map (c.loop-i-test.true) in
    sym (lines_more (map now ls) i c.loop-i.reading d.now lt at c.in-Some.more (sym c.in_ok-with_line.ensures ∙ c.in-Some.is)) ∙ c.loop-i.invariant
