use Rattle.std.proofs.Common.{◌≡◌, ◌<◌, ℕ, List, length, get_or, bit_and, ◌∙◌, ap, subst, sym, arith, eq-eqb}
use Rattle.std.proofs.lemmas.List.{get_or_read}
use Rattle.frame_core.specs.declared.parts.Lemma.{Lemma}
use Rattle.frame_core.specs.Facts.{IsPart}
use Rattle.frame_core.specs.FrameLaw.{lemma_at}
use Rattle.frame_core.proofs.Signed.{part_has_bits}
use Rattle.frame_core.proofs.lemma_list.Lemmas.may_have.Goals as goal

pub returns : goal.returns
returns c = λ clause is part.
    let n = c.args.n in
    let ls : List Lemma = c.self.inside.items.items in
    let words : List ℕ = c.self.inside.signatures.items in
    let word : ℕ = get_or words n 0 in
    let lt : n < length ls = subst (λ (z : List Lemma). n < length z) (sym c.self.view_is) c.requires in
    let many = c.self.invariant.0.as_many in
    let low : n < length words = omega arith in
    let here : IsPart clause (lemma_at ls n).clause = subst (λ (z : List Lemma). IsPart clause (lemma_at z n).clause) (sym c.self.view_is) part in
    let same : bit_and c.args.signature word ≡ c.args.signature =
    part_has_bits clause (lemma_at ls n).clause c.args.signature word is (c.self.invariant.0.each n lt) here in
    let a : c.index.result.now ≡ word = get_or_read words n c.index.result.now low c.index.ensures 0 in
    eq-eqb _ _ (ap (bit_and c.args.signature) a ∙ same)
