-- One line more is found, is passed over, or is the first that is not ASCII.
use Rattle.std.proofs.Common.{◌≡◌, ◌∙◌, ◌<◌, ◌+◌, ◌++◌, ◌∷◌, [], ℕ, List, map, length, get_or, sym, ap, true, false, Bor}
use Rattle.std.proofs.lemmas.List.{length-map, get_or-map}
use Rattle.smv_recheck.specs.Lines.{is_trace_line}
use Rattle.smv_recheck.proofs.CutLines.{line_pushed, line_skipped, breaks_here}
use Rattle.smv_recheck.proofs.trace_lines.cut_lines.Goals as goal
use Rattle.smv_recheck.proofs.trace_lines.cut_lines.Goals.{then-is_trace_line+else-not-is_ascii+in_ok-from_ascii+in_ok-push, else-is_trace_line}

-- the line at place i
at : (ls : List (Bor (List ℕ))) (i : ℕ) → i < length ls →
    (get_or ls i record { ref_ptr = (0, 0); now = [] }).now ≡ get_or (map (λ x. x.now) ls) i (get_or ls i record { ref_ptr = (0, 0); now = [] }).now
at ls i lt = sym (get_or-map (λ x. x.now) ls i record { ref_ptr = (0, 0); now = [] } (get_or ls i record { ref_ptr = (0, 0); now = [] }).now lt)

below : (ls : List (Bor (List ℕ))) (i : ℕ) → i < length ls → i < length (map (λ (x : Bor (List ℕ)). x.now) ls)
below ls i lt = simp length-map lt

pub returns-then-not-is_ascii : goal.returns-then-not-is_ascii
returns-then-not-is_ascii c =
    let ls = c.args.lines.now in
    let i = c.loop-i.i in
    let l = (get_or ls i record { ref_ptr = (0, 0); now = [] }).now in
    let mark : is_trace_line l ≡ true = sym c.is_trace_line.ensures ∙ c.if-is_trace_line.true in
    breaks_here (map (λ (x : Bor (List ℕ)). x.now) ls) i l c.loop-i.found.items c.is_ascii.result (below ls i c.loop-i-test.true) (at ls i c.loop-i-test.true) mark c.is_ascii.ensures.cases c.if-not-is_ascii.true c.loop-i.invariant

pub loop-i-preserved : goal.loop-i-preserved
loop-i-preserved c =
    let ls = c.args.lines.now in
    let i = c.loop-i.i in
    let l = (get_or ls i record { ref_ptr = (0, 0); now = [] }).now in
    elim c.if-is_trace_line.branch [
      | then-is_trace_line+else-not-is_ascii+in_ok-from_ascii+in_ok-push w ↦
          let mark : is_trace_line l ≡ true = sym c.is_trace_line.ensures ∙ w.if-is_trace_line.true in
          rw w.found-is (line_pushed (map (λ (x : Bor (List ℕ)). x.now) ls) i l c.loop-i.found.items w.push.new.self.items (below ls i c.loop-i-test.true) (at ls i c.loop-i-test.true) mark c.loop-i.invariant
          (w.in_ok-push.ensures.items ∙ ap (λ (t : List ℕ). c.loop-i.found.items ++ record { number = i + 1; text = t } ∷ []) w.in_ok-from_ascii.ensures))
      | else-is_trace_line w ↦
          let skip : is_trace_line l ≡ false = sym c.is_trace_line.ensures ∙ w.if-is_trace_line.false in
          line_skipped (map (λ (x : Bor (List ℕ)). x.now) ls) i l c.loop-i.found.items c.if-is_trace_line.found.items (below ls i c.loop-i-test.true) (at ls i c.loop-i-test.true) skip c.loop-i.invariant (ap (λ v. v.items) w.found-is)
    ]
