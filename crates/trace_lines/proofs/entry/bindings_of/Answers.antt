-- One binding more, and a piece that is none.
use Rattle.std.proofs.Common.{◌≡◌, ◌<◌, List, ℕ, map, length, get_or, sym, ◌∙◌, [], Bor}
use Rattle.std.proofs.lemmas.List.{length-map, get_or-map}
use Rattle.trace_lines.proofs.OfEntries.{bindings_more, bindings_stop}
use Rattle.trace_lines.proofs.entry.bindings_of.Goals as goal

pub returns-in-None : goal.returns-in-None
returns-in-None c =
    let ps = c.args.pieces.now in
    let i = c.loop-piece.piece-index in
    let now = λ (x : Bor (List ℕ)). x.now in
    let d = get_or ps i record { ref_ptr = (0, 0); now = [] } in
    let at : d.now ≡ get_or (map now ps) i d.now = sym (get_or-map now ps i record { ref_ptr = (0, 0); now = [] } d.now c.loop-piece-test.true) in
    let lt : i < length (map now ps) = simp length-map (c.loop-piece-test.true) in
    sym (bindings_stop (map now ps) i c.loop-piece.row.items d.now lt at (sym c.in-None.is ∙ c.in_ok-binding_in.ensures)) ∙ c.loop-piece.invariant

pub loop-piece-preserved : goal.loop-piece-preserved
loop-piece-preserved c =
    let ps = c.args.pieces.now in
    let i = c.loop-piece.piece-index in
    let now = λ (x : Bor (List ℕ)). x.now in
    let d = get_or ps i record { ref_ptr = (0, 0); now = [] } in
    let at : d.now ≡ get_or (map now ps) i d.now = sym (get_or-map now ps i record { ref_ptr = (0, 0); now = [] } d.now c.loop-piece-test.true) in
    let lt : i < length (map now ps) = simp length-map (c.loop-piece-test.true) in
    rw c.in_ok-push-in-Some.ensures.items (sym (bindings_more (map now ps) i c.loop-piece.row.items d.now c.in-Some.binding lt at (sym c.in-Some.is ∙ c.in_ok-binding_in.ensures)) ∙ c.loop-piece.invariant)
