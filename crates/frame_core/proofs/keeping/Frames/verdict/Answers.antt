use Rattle.std.proofs.Common.{◌≡◌, ◌<◌, ℕ, List, length, get_or, sym, ◌∙◌, subst, arith}
use Rattle.std.specs.Prelude.{Some, None}
use Rattle.std.proofs.lemmas.List.{get_or_read}
use Rattle.frame_core.specs.declared.outcomes.FramesVerdict.TheVariants.{Invariant, Reached}
use Rattle.frame_core.specs.FrameLaw.{FrameState, top_at}
use Rattle.frame_core.specs.Changes.{VerdictSays}
use Rattle.frame_core.proofs.Kept.{says_reached, says_invariant, says_none}
use Rattle.frame_core.proofs.keeping.Frames.verdict.Goals as goal

pub returns-in-Some : goal.returns-in-Some
returns-in-Some c =
    let f : FrameState =
    record { systems = c.self.inside.systems.now; lemmas = c.self.inside.lemmas; tops = c.self.inside.tops.items; obligations = c.self.inside.obligations.items } in
    let j = c.args.j in
    let lt : j < length f.systems = subst (λ (z : FrameState). j < length z.systems) (sym c.self.view_is) c.requires in
    let lm : j < length c.self.inside.marks.items = let e = c.self.invariant.all_marked in omega arith in
    let is : get_or c.self.inside.marks.items j None ≡ Some c.in-Some.n =
    sym (get_or_read c.self.inside.marks.items j c.index.result.now lm c.index.ensures None) ∙ c.in-Some.is in
    subst (λ (z : FrameState). VerdictSays z j (Some (Reached c.in-Some.n))) c.self.view_is
    (says_reached f j c.in-Some.n c.self.inside.counts.items c.self.inside.marks.items c.self.invariant lt is)

pub returns-in-Some-empty_level : goal.returns-in-Some-empty_level
returns-in-Some-empty_level c =
    let f : FrameState =
    record { systems = c.self.inside.systems.now; lemmas = c.self.inside.lemmas; tops = c.self.inside.tops.items; obligations = c.self.inside.obligations.items } in
    let j = c.args.j in
    let i = c.in-Some-empty_level.level in
    let lt : j < length f.systems = subst (λ (z : FrameState). j < length z.systems) (sym c.self.view_is) c.requires in
    let lt' : j < length f.tops = let e = c.self.invariant.law.tops in omega arith in
    let top : c.index-2.result.now ≡ top_at f.tops j = get_or_read f.tops j c.index-2.result.now lt' c.index-2.ensures 0 in
    let says = c.in-Some-empty_level.ensures in
    let zero : get_or c.self.inside.counts.items i 0 ≡ 0 = subst (λ (z : List ℕ). get_or z i 0 ≡ 0) c.deref.ensures.value says.2 in
    subst (λ (z : FrameState). VerdictSays z j (Some (Invariant i))) c.self.view_is
    (says_invariant f j i c.self.inside.counts.items c.self.inside.marks.items c.self.invariant lt says.0 (omega (arith, says.1)) zero)

pub returns-in-None : goal.returns-in-None
returns-in-None c =
    let f : FrameState =
    record { systems = c.self.inside.systems.now; lemmas = c.self.inside.lemmas; tops = c.self.inside.tops.items; obligations = c.self.inside.obligations.items } in
    let j = c.args.j in
    let lt : j < length f.systems = subst (λ (z : FrameState). j < length z.systems) (sym c.self.view_is) c.requires in
    let lt' : j < length f.tops = let e = c.self.invariant.law.tops in omega arith in
    let top : c.index-2.result.now ≡ top_at f.tops j = get_or_read f.tops j c.index-2.result.now lt' c.index-2.ensures 0 in
    let lm : j < length c.self.inside.marks.items = let e = c.self.invariant.all_marked in omega arith in
    let is : get_or c.self.inside.marks.items j None ≡ None =
    sym (get_or_read c.self.inside.marks.items j c.index.result.now lm c.index.ensures None) ∙ c.in_default.is in
    let says = c.in-None.ensures in
    subst (λ (z : FrameState). VerdictSays z j None) c.self.view_is
    (says_none f j c.self.inside.counts.items c.self.inside.marks.items c.self.invariant lt is (λ i some below zero.
    says i some (omega arith) (subst (λ (z : List ℕ). get_or z i 0 ≡ 0) (sym c.deref.ensures.value) zero)))
