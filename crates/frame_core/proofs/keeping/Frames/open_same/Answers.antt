use Rattle.std.proofs.Common.{◌≡◌, ◌<◌, ◌≤◌, ◌+◌, ℕ, List, length, set, true, sym, ap, ◌∙◌, subst, arith}
use Rattle.std.proofs.lemmas.List.{get_or_read}
use Rattle.frame_core.specs.declared.parts.Lemma.{Lemma}
use Rattle.frame_core.specs.FrameLaw.{FrameState, AllStand, top_at}
use Rattle.frame_core.specs.Changes.{IsOfSystem}
use Rattle.frame_core.specs.Counting.{IsKept, AreCounts}
use Rattle.frame_core.proofs.Kept.{kept_counted, kept_opened}
use Rattle.frame_core.proofs.keeping.Frames.open_same.Goals as goal

pub invariant_of-self : goal.invariant_of-self
invariant_of-self c =
    let f : FrameState =
    record { systems = c.self.inside.systems.now; lemmas = c.self.inside.lemmas; tops = c.self.inside.tops.items; obligations = c.self.inside.obligations.items } in
    let are : AreCounts f.lemmas c.count_below.new.counts.items =
    subst (λ (z : List Lemma). AreCounts z c.count_below.new.counts.items) c.as_slice.ensures c.in_err-count_below.ensures.counted in
    kept_counted f c.self.inside.counts.items c.count_below.new.counts.items c.self.inside.marks.items c.self.invariant are c.in_err-count_below.ensures.longer

pub invariant_of-self-2 : goal.invariant_of-self-2
invariant_of-self-2 c =
    let k = c.args.clear.now in
    let j = c.args.j in
    let f : FrameState =
    record { systems = c.self.inside.systems.now; lemmas = c.self.inside.lemmas; tops = c.self.inside.tops.items; obligations = c.self.inside.obligations.items } in
    let counts = c.count_below.new.counts.items in
    let marks = c.self.inside.marks.items in
    let lt : j < length f.systems = subst (λ (z : FrameState). j < length z.systems) (sym c.self.view_is) c.requires.in_range in
    let lt' : j < length f.tops = let e = c.self.invariant.law.tops in omega arith in
    let top : c.index-top.result.now ≡ top_at f.tops j = get_or_read f.tops j c.index-top.result.now lt' c.index-top.ensures 0 in
    let same : IsOfSystem f j true k.system = subst (λ (z : FrameState). IsOfSystem z j true k.system) (sym c.self.view_is) c.requires.same in
    let h = c.in_default.ensures.answer in
    let at : k.level ≡ top_at f.tops j = subst (λ (z : FrameState). k.level ≡ top_at z.tops j) (sym c.self.view_is) h.0 in
    let stand : AllStand f.lemmas (top_at f.tops j) k.parents =
    subst (λ (z : FrameState). AllStand z.lemmas (top_at z.tops j) k.parents) (sym c.self.view_is) h.1 in
    let are : AreCounts f.lemmas counts = subst (λ (z : List Lemma). AreCounts z counts) c.as_slice.ensures c.in_ok-count_below.ensures.counted in
    let kept = kept_counted f c.self.inside.counts.items counts marks c.self.invariant are c.in_ok-count_below.ensures.longer in
    let enough : top_at f.tops j + 1 ≤ length counts = let e = c.in_ok-count_below.ensures.enough in omega arith in
    let tops : c.set_top.new.tops.items ≡ set f.tops j (top_at f.tops j + 1) = c.set_top.ensures ∙ ap (λ (z : ℕ). set f.tops j (z + 1)) top in
    subst (λ (xs : List ℕ). IsKept record f { tops = xs } counts marks) (sym tops)
    (kept_opened f j k counts marks kept lt same c.in_default.ensures.shown at stand enough)
