use Rattle.std.proofs.Common.{◌≡◌, ◌<◌, ◌+◌, ℕ, List, [], map, length, get_or, sym, true, false, ◌∙◌, Bor}
use Rattle.std.proofs.lemmas.List.{length-map, get_or-map}
use Rattle.cert_text.specs.Reading.{is_certificate_line}
use Rattle.cert_text.proofs.Readings.{read_skip, read_made, read_ended}
use Rattle.cert_text.proofs.whole.add_lines.Goals as goal
use Rattle.cert_text.proofs.whole.add_lines.Goals.{then-is_certificate_line+in_ok-add_line+else-not-branch, else-is_certificate_line}

-- the line at place i
at : (ls : List (Bor (List ℕ))) (i : ℕ) → i < length ls →
    (get_or ls i record { ref_ptr = (0, 0); now = [] }).now ≡ get_or (map (λ x. x.now) ls) i (get_or ls i record { ref_ptr = (0, 0); now = [] }).now
at ls i lt = sym (get_or-map (λ x. x.now) ls i record { ref_ptr = (0, 0); now = [] } (get_or ls i record { ref_ptr = (0, 0); now = [] }).now lt)

below : (ls : List (Bor (List ℕ))) (i : ℕ) → i < length ls → i < length (map (λ (x : Bor (List ℕ)). x.now) ls)
below ls i lt = simp length-map lt

pub loop-i-preserved : goal.loop-i-preserved
loop-i-preserved c =
    let ls = c.args.lines.now in
    let i = c.loop-i.i in
    let l = (get_or ls i record { ref_ptr = (0, 0); now = [] }).now in
    elim c.if-is_certificate_line.branch [
      | then-is_certificate_line+in_ok-add_line+else-not-branch w ↦
          let mark : is_certificate_line l ≡ true = sym c.is_certificate_line.ensures ∙ w.if-is_certificate_line.true in
          rw (w.reading-is, w.last-is)
          (sym (read_made c.args.items (i + 1) c.loop-i.last c.loop-i.reading w.add_line.new.self (map (λ x. x.now) ls) i l w.in_ok-add_line.field-0 (below ls i c.loop-i-test.true)
          (at ls i c.loop-i-test.true) mark w.in_ok-add_line.ensures w.if-not-branch.false) ∙ c.loop-i.invariant)
      | else-is_certificate_line w ↦
          let skip : is_certificate_line l ≡ false = sym c.is_certificate_line.ensures ∙ w.if-is_certificate_line.false in
          rw (w.reading-is, w.last-is)
          (sym (read_skip c.args.items (i + 1) c.loop-i.last c.loop-i.reading (map (λ x. x.now) ls) i l (below ls i c.loop-i-test.true) (at ls i c.loop-i-test.true) skip)
          ∙ c.loop-i.invariant)
    ]

pub returns-then-not-branch-clause-says : goal.returns-then-not-branch-clause-says
returns-then-not-branch-clause-says c =
    let ls = c.args.lines.now in
    let i = c.loop-i.i in
    let l = (get_or ls i record { ref_ptr = (0, 0); now = [] }).now in
    let mark : is_certificate_line l ≡ true = sym c.is_certificate_line.ensures ∙ c.if-is_certificate_line.true in
    sym c.loop-i.invariant
    ∙ read_ended c.args.items (i + 1) c.loop-i.last c.loop-i.reading c.add_line.new.self (map (λ x. x.now) ls) i l c.in_ok-add_line.field-0 (below ls i c.loop-i-test.true)
    (at ls i c.loop-i-test.true) mark c.in_ok-add_line.ensures c.if-not-branch.true
