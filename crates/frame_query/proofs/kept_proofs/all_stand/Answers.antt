use Rattle.std.proofs.Common.{◌≡◌, ◌<◌, ◌≤◌, ℕ, List, length, take, get_or, All, subst, arith}
use Rattle.std.proofs.lemmas.List.{take_all, get_or_default}
use Rattle.std.proofs.lemmas.List.Elements.{All-more}
use Rattle.frame_core.specs.declared.parts.Lemma.{Lemma}
use Rattle.frame_core.specs.FrameLaw.{lemma_at, no_lemma}
use Rattle.frame_query.proofs.kept_proofs.all_stand.Goals as goal

pub numbers-preserved : goal.numbers-preserved
numbers-preserved c =
    let lemmas = c.args.lemmas.now in
    let numbers = c.args.numbers.now in
    let i = c.numbers.k-index in
    let k : ℕ = get_or numbers i 0 in
    let lt : k < length lemmas = c.requires i 0 c.numbers-test.true in
    let e : get_or lemmas k c.index-lemmas-k.result ≡ lemma_at lemmas k = get_or_default lemmas k c.index-lemmas-k.result no_lemma lt in
    let P : ℕ → Type 0 = λ m. c.args.least ≤ (lemma_at lemmas m).level in
    let L : Lemma → Type 0 = λ m. c.args.least ≤ m.level in
    All-more P numbers i 0 c.numbers-test.true c.numbers.invariant (subst L e c.if-lemmas-k.false)

pub returns : goal.returns
returns c stand =
    let P : List ℕ → Type 0 = All (λ k. c.args.least ≤ (lemma_at c.args.lemmas.now k).level) in
    let e : take c.numbers.k-index c.args.numbers.now ≡ c.args.numbers.now = take_all _ _ (omega arith) in
    subst P e c.numbers.invariant
