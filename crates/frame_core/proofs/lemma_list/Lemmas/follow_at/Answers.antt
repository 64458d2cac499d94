use Rattle.std.proofs.Common.{◌<◌, ◌≤◌, List, length, sym, ap, ◌∙◌, subst, arith}
use Rattle.frame_core.specs.declared.parts.Lemma.{Lemma}
use Rattle.frame_core.specs.Copies.{LagsBehind}
use Rattle.frame_core.specs.FrameLaw.{retired_at}
use Rattle.frame_core.proofs.Copied.{caught_none, caught_raised, caught_retired}
use Rattle.frame_core.proofs.lemma_list.Lemmas.follow_at.Goals as goal
use Rattle.frame_core.proofs.lemma_list.Lemmas.follow_at.Goals.{else-n-len-via-then-n-len+else-n-len-2, else-n-len-via-else-n-len}

pub returns-then-not-lemma : goal.returns-then-not-lemma
returns-then-not-lemma c = λ changed lags.
    let lemmas = c.args.lemmas.now in
    let copy = c.args.self.now in
    let lt : c.args.n < length copy = omega (arith, c.if-n-len.true, c.len.ensures) in
    subst (LagsBehind lemmas changed) (sym (c.retire.ensures ∙ ap (λ (z : List Lemma). retired_at z c.args.n) c.raise.ensures))
    (caught_retired lemmas copy c.args.n c.lemma-lemma.result.now changed lt c.lemma-lemma.ensures c.if-not-lemma.true lags)

pub returns-else-not-lemma : goal.returns-else-not-lemma
returns-else-not-lemma c = λ changed lags.
    let lemmas = c.args.lemmas.now in
    let copy = c.args.self.now in
    let lt : c.args.n < length copy = omega (arith, c.if-n-len.true, c.len.ensures) in
    subst (LagsBehind lemmas changed) (sym c.raise.ensures)
    (caught_raised lemmas copy c.args.n c.lemma-lemma.result.now changed lt c.lemma-lemma.ensures c.if-not-lemma.false lags)

pub returns-else-n-len : goal.returns-else-n-len
returns-else-n-len c = λ changed lags.
    let short = lags.shorter in
    let past : length c.args.self.now ≤ c.args.n = elim c.else-n-len.branch [
      | else-n-len-via-then-n-len+else-n-len-2 w ↦ omega (arith, short, w.if-n-len-2.false, w.len-then-n-len.ensures)
      | else-n-len-via-else-n-len w ↦ omega (arith, w.if-n-len.false, c.len.ensures)
    ] in
    caught_none c.args.lemmas.now c.args.self.now c.args.n changed past lags
