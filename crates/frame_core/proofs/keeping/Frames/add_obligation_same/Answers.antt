use Rattle.std.proofs.Common.{◌≡◌, ◌<◌, ◌∷◌, [], ◌++◌, ℕ, Bool, List, length, sym, ap, ◌∙◌, subst, arith}
use Rattle.std.specs.Prelude.{is_none, Option}
use Rattle.frame_core.specs.declared.parts.Obligation.{Obligation}
use Rattle.frame_core.specs.FrameLaw.{FrameState}
use Rattle.frame_core.specs.Changes.{IsOfSystem, MayHaveParent, with_obligation}
use Rattle.frame_core.specs.Counting.{IsKept, marked_at}
use Rattle.frame_core.proofs.Kept.{kept_noted}
use Rattle.frame_core.proofs.keeping.Frames.add_obligation_same.Goals as goal

pub invariant_of-self-2 : goal.invariant_of-self-2
invariant_of-self-2 c =
    let f : FrameState =
    record { systems = c.self.inside.systems.now; lemmas = c.self.inside.lemmas; tops = c.self.inside.tops.items; obligations = c.self.inside.obligations.items } in
    let g = c.args.found in
    let j = c.args.j in
    let parent = c.args.parent in
    let counts = c.self.inside.counts.items in
    let marks = c.self.inside.marks.items in
    let o : Obligation = record { system = j; values = c.into_values-values.result; parent = parent; first = c.is_first-first.result } in
    let p : Obligation = record { system = j; values = g.values; parent = parent; first = g.first } in
    let op : o ≡ p = λ i. record { system = j; values = c.into_values-values.ensures i; parent = parent; first = c.is_first-first.ensures i } in
    let items : c.push_reserved.new.self.items ≡ f.obligations ++ p ∷ [] =
    c.push_reserved.ensures.items ∙ ap (λ (xs : List Obligation). xs ++ o ∷ []) c.in_ok-reserve.ensures.items ∙ ap (λ (z : Obligation). f.obligations ++ z ∷ []) op in
    let number : c.len-number.result ≡ length f.obligations = let ok = c.self.inside.obligations.ok in let e = c.len-number.ensures in omega arith in
    let marked : c.mark.new.marks.items ≡ marked_at marks j g.first (length f.obligations) =
    c.mark.ensures ∙ ap (λ (z : Bool). marked_at marks j z c.len-number.result) c.is_first-first.ensures ∙ ap (marked_at marks j g.first) number in
    let lt : j < length f.systems = subst (λ (z : FrameState). j < length z.systems) (sym c.self.view_is) c.requires.in_range in
    let same : IsOfSystem f j (is_none parent) g.system = subst (λ (z : FrameState). IsOfSystem z j (is_none parent) g.system) (sym c.self.view_is) c.requires.same in
    let may : MayHaveParent f j g parent = subst (λ (z : FrameState). MayHaveParent z j g parent) (sym c.self.view_is) c.requires.parent in
    subst (λ (xs : List Obligation). IsKept record f { obligations = xs } counts c.mark.new.marks.items) (sym items)
    (subst (λ (ms : List (Option ℕ)). IsKept (with_obligation f j g parent) counts ms) (sym marked)
    (kept_noted f j g parent counts marks c.self.invariant lt same c.system-system.ensures.shown may))

pub invariant_of-self : goal.invariant_of-self
invariant_of-self c =
    let f : FrameState =
    record { systems = c.self.inside.systems.now; lemmas = c.self.inside.lemmas; tops = c.self.inside.tops.items; obligations = c.self.inside.obligations.items } in
    subst (λ (xs : List Obligation). IsKept record f { obligations = xs } c.self.inside.counts.items c.self.inside.marks.items)
    (sym c.in_err-reserve.ensures.items) c.self.invariant
