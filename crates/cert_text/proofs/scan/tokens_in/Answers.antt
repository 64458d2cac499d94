use Rattle.std.proofs.Common.{◌≡◌, ◌<◌, List, ℕ, map, length, get_or, sym, ◌∙◌, [], Bor}
use Rattle.std.proofs.lemmas.List.{length-map, get_or-map}
use Rattle.cert_text.proofs.Scans.{tokens_more, tokens_stop}
use Rattle.cert_text.proofs.scan.tokens_in.Goals as goal

pub returns-in-None : goal.returns-in-None
returns-in-None c =
    let ws = c.args.words.now in
    let i = c.loop-word.word-index in
    let now = λ (x : Bor (List ℕ)). x.now in
    let d = get_or ws i record { ref_ptr = (0, 0); now = [] } in
    let at : d.now ≡ get_or (map now ws) i d.now = sym (get_or-map now ws i record { ref_ptr = (0, 0); now = [] } d.now c.loop-word-test.true) in
    let lt : i < length (map now ws) = simp length-map (c.loop-word-test.true) in
    sym (tokens_stop (map now ws) i c.loop-word.tokens.items d.now lt at c.in-None.ensures) ∙ c.loop-word.invariant

pub loop-word-preserved : goal.loop-word-preserved
loop-word-preserved c =
    let ws = c.args.words.now in
    let i = c.loop-word.word-index in
    let now = λ (x : Bor (List ℕ)). x.now in
    let d = get_or ws i record { ref_ptr = (0, 0); now = [] } in
    let at : d.now ≡ get_or (map now ws) i d.now = sym (get_or-map now ws i record { ref_ptr = (0, 0); now = [] } d.now c.loop-word-test.true) in
    let lt : i < length (map now ws) = simp length-map (c.loop-word-test.true) in
    rw c.in_ok-push-in-Some.ensures.items (sym (tokens_more (map now ws) i c.loop-word.tokens.items d.now c.in-Some.t lt at c.in-Some.ensures) ∙ c.loop-word.invariant)
