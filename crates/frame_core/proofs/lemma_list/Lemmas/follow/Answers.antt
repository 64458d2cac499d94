use Rattle.std.proofs.Common.{◌≡◌, ◌<◌, ℕ, List, [], ◌∷◌, ◌++◌, ◌+◌, length, drop, get_or, sym, ap, ◌∙◌, subst, arith, length-append}
use Rattle.std.proofs.lemmas.List.{drop_more}
use Rattle.frame_core.specs.Copies.{LagsBehind}
use Rattle.frame_core.specs.FrameLaw.{lemma_at}
use Rattle.frame_core.proofs.Copied.{caught_all, caught_more}
use Rattle.frame_core.proofs.lemma_list.Lemmas.follow.Goals as goal

pub changes-preserved : goal.changes-preserved
changes-preserved c = λ lags.
    let changed = c.args.changed.now in
    let i = c.changes.n-index in
    let e : drop i changed ≡ get_or changed i 0 ∷ drop (i + 1) changed = drop_more changed i 0 c.changes-test.true in
    c.follow_at.ensures (drop (i + 1) changed) (subst (λ (z : List ℕ). LagsBehind c.args.lemmas.now z c.changes.self) e (c.changes.invariant lags))

pub returns-clause-done : goal.returns-clause-done
returns-clause-done c = λ lags.
    let h = c.adds.invariant lags in
    let short = h.0.shorter in
    let end = c.len-n-end.ensures in
    caught_all c.args.lemmas.now c.adds.self (omega (arith, h.1, end, c.adds.auto.n-end)) h.0

pub adds-preserved : goal.adds-preserved
adds-preserved c = λ lags.
    let lemmas = c.args.lemmas.now in
    let copy = c.adds.self in
    let l = c.lemma.result.now in
    let h = c.adds.invariant lags in
    let is : l ≡ lemma_at lemmas (length copy) = c.lemma.ensures ∙ ap (lemma_at lemmas) (sym h.1) in
    let lt : length copy < length lemmas = omega (arith, h.1, c.adds-test.true, c.len-n-end.ensures) in
    let more : c.add_copy.new.self ≡ copy ++ l ∷ [] = c.in_ok-add_copy.ensures.done in (
      subst (LagsBehind lemmas []) (sym more) (caught_more lemmas copy l is lt h.0),
      omega (arith, h.1, ap length more, length-append copy (l ∷ [])),
    )
