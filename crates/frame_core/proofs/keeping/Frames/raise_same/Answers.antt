use Rattle.std.proofs.Common.{◌≡◌, ◌<◌, ◌-◌, ◌+◌, ℕ, List, length, get_or, ◌^◌, false, true, sym, ap, ◌∙◌, subst, arith}
use Rattle.frame_core.specs.declared.parts.Lemma.{Lemma}
use Rattle.frame_core.specs.FrameLaw.{FrameState, AllStand, IsAsHigh, lemma_at, raised_at}
use Rattle.frame_core.specs.Changes.{IsOfSystem, with_level}
use Rattle.frame_core.specs.Counting.{IsKept, more_at, less_at}
use Rattle.frame_core.proofs.Counts.{counted_raised, more_fits}
use Rattle.frame_core.proofs.States.{is_live}
use Rattle.frame_core.proofs.Kept.{kept_lifted}
use Rattle.frame_core.proofs.keeping.Frames.raise_same.Goals as goal

pub invariant_of-self : goal.invariant_of-self
invariant_of-self c =
    let p = c.args.proved.now in
    let n = c.args.n in
    let f : FrameState =
    record { systems = c.self.inside.systems.now; lemmas = c.self.inside.lemmas; tops = c.self.inside.tops.items; obligations = c.self.inside.obligations.items } in
    let counts = c.self.inside.counts.items in
    let marks = c.self.inside.marks.items in
    let lt : n < length f.lemmas = subst (λ (z : FrameState). n < length z.lemmas) (sym c.self.view_is) c.requires.in_range in
    let is : p.clause ≡ (lemma_at f.lemmas n).clause = subst (λ (z : FrameState). p.clause ≡ (lemma_at z.lemmas n).clause) (sym c.self.view_is) c.requires.clause in
    let same : IsOfSystem f 0 false p.system = subst (λ (z : FrameState). IsOfSystem z 0 false p.system) (sym c.self.view_is) c.requires.same in
    let needed : IsAsHigh f.lemmas n p.level → ⊥ = λ h.
    let h1 : IsAsHigh c.as_slice.result.now n c.level-level.result =
    subst (λ (z : List Lemma). IsAsHigh z n c.level-level.result) (sym c.as_slice.ensures) (subst (IsAsHigh f.lemmas n) (sym c.level-level.ensures) h) in
    let e = c.needs_no_raise.ensures.1 h1 in
    let g = c.if-needs_no_raise.false in cc in
    let stand : AllStand f.lemmas (p.level - 1) p.parents =
    subst (λ (z : List Lemma). AllStand z (p.level - 1) p.parents) c.as_slice-2.ensures
    (subst (λ (z : ℕ). AllStand c.as_slice-2.result.now (z - 1) p.parents) c.level-level.ensures
    (subst (AllStand c.as_slice-2.result.now (c.level-level.result - 1)) c.parents.ensures c.in_default.ensures)) in
    let before : c.lemma.result.now.level ≡ (lemma_at f.lemmas n).level = ap (λ (z : Lemma). z.level) c.lemma.ensures in
    let items : c.raise.new.self ≡ raised_at f.lemmas n p.level = c.raise.ensures ∙ ap (raised_at f.lemmas n) c.level-level.ensures in
    let fewer : c.count_less.new.counts.items ≡ less_at true counts (lemma_at f.lemmas n).level = c.count_less.ensures ∙ ap (less_at true counts) before in
    let counted : c.count_more.new.counts.items ≡ more_at (less_at true counts (lemma_at f.lemmas n).level) p.level =
    c.count_more.ensures ∙ ap (λ (z : List ℕ). more_at z c.level-level.result) fewer ∙ ap (more_at (less_at true counts (lemma_at f.lemmas n).level)) c.level-level.ensures in
    subst (λ (xs : List Lemma). IsKept record f { lemmas = xs } c.count_more.new.counts.items marks) (sym items)
    (subst (λ (xs : List ℕ). IsKept (with_level f n p.level) xs marks) (sym counted)
    (kept_lifted f n p counts marks c.self.invariant lt is same c.system-system.ensures.shown needed stand))

pub count_more-requires : goal.count_more-requires
count_more-requires c = λ below.
    let p = c.args.proved.now in
    let n = c.args.n in
    let f : FrameState =
    record { systems = c.self.inside.systems.now; lemmas = c.self.inside.lemmas; tops = c.self.inside.tops.items; obligations = c.self.inside.obligations.items } in
    let counts = c.self.inside.counts.items in
    let level = c.level-level.result in
    let lt : n < length f.lemmas = subst (λ (z : FrameState). n < length z.lemmas) (sym c.self.view_is) c.requires.in_range in
    let needed : IsAsHigh f.lemmas n level → ⊥ = λ h.
    let h1 : IsAsHigh c.as_slice.result.now n level = subst (λ (z : List Lemma). IsAsHigh z n level) (sym c.as_slice.ensures) h in
    let e = c.needs_no_raise.ensures.1 h1 in
    let g = c.if-needs_no_raise.false in cc in
    let before : c.lemma.result.now.level ≡ (lemma_at f.lemmas n).level = ap (λ (z : Lemma). z.level) c.lemma.ensures in
    let fewer : c.count_less.new.counts.items ≡ less_at true counts (lemma_at f.lemmas n).level = c.count_less.ensures ∙ ap (less_at true counts) before in
    let in' : level < length (less_at true counts (lemma_at f.lemmas n).level) = subst (λ (z : List ℕ). level < length z) fewer below in
    let fits = more_fits (raised_at f.lemmas n level) (less_at true counts (lemma_at f.lemmas n).level) level in'
    (counted_raised f.lemmas n level counts lt (is_live f n level needed) c.self.invariant.counted) in
    let len : c.len-number.result ≡ length (raised_at f.lemmas n level) = c.len-number.ensures ∙ ap length c.raise.ensures in
    let small = c.len-number.type_inv in
    subst (λ (z : List ℕ). get_or z level 0 + 1 < 2 ^ 64) (sym fewer) (omega arith)
