use Rattle.std.proofs.Common.{◌≡◌, ◌<◌, ℕ, List, length, sym, ap, ◌∙◌, subst}
use Rattle.frame_core.specs.declared.parts.Lemma.{Lemma}
use Rattle.frame_core.specs.FrameLaw.{FrameState, lemma_at}
use Rattle.frame_core.specs.Changes.{IsCovered, with_retired}
use Rattle.frame_core.specs.Counting.{IsKept, less_at}
use Rattle.frame_core.proofs.Kept.{kept_retired}
use Rattle.frame_core.proofs.keeping.Frames.retire.Goals as goal

pub invariant_of-self : goal.invariant_of-self
invariant_of-self c =
    let f : FrameState =
    record { systems = c.self.inside.systems.now; lemmas = c.self.inside.lemmas; tops = c.self.inside.tops.items; obligations = c.self.inside.obligations.items } in
    let n = c.args.n in
    let counts = c.self.inside.counts.items in
    let marks = c.self.inside.marks.items in
    let lt : n < length f.lemmas = subst (λ (z : FrameState). n < length z.lemmas) (sym c.self.view_is) c.requires.in_range in
    let covered : IsCovered f n = subst (λ (z : FrameState). IsCovered z n) (sym c.self.view_is) c.requires.covered in
    let l = lemma_at f.lemmas n in
    let counted : c.count_less.new.counts.items ≡ less_at l.live counts l.level =
    c.count_less.ensures ∙ ap (λ (z : Lemma). less_at z.live counts c.lemma.result.now.level) c.lemma-2.ensures
    ∙ ap (λ (z : Lemma). less_at l.live counts z.level) c.lemma.ensures in
    subst (λ (xs : List Lemma). IsKept record f { lemmas = xs } c.count_less.new.counts.items marks) (sym c.retire.ensures)
    (subst (λ (xs : List ℕ). IsKept (with_retired f n) xs marks) (sym counted) (kept_retired f n counts marks c.self.invariant lt covered))
