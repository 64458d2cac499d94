use Rattle.std.proofs.Common.{◌≡◌, ℕ, List, length, sym, ap, ◌∙◌, subst}
use Rattle.std.proofs.Math.ListN.{replicate}
use Rattle.frame_core.specs.declared.parts.Obligation.{Obligation}
use Rattle.frame_core.specs.FrameLaw.{FrameState, system_at}
use Rattle.frame_core.specs.Changes.{IsCut, fresh}
use Rattle.frame_core.specs.Counting.{IsKept}
use Rattle.frame_core.proofs.Kept.{kept_carried}
use Rattle.frame_core.proofs.keeping.Frames.carry.Goals as goal

pub invariant_of-result : goal.invariant_of-result
invariant_of-result c =
    let systems = c.args.systems.now in
    let f : FrameState =
    record { systems = c.self.inside.systems.now; lemmas = c.self.inside.lemmas; tops = c.self.inside.tops.items; obligations = c.self.inside.obligations.items } in
    let counts = c.self.inside.counts.items in
    let more = c.unmark.new.marks.items in
    let number : length systems ≡ length f.systems = subst (λ (z : FrameState). length systems ≡ length z.systems) (sym c.self.view_is) c.requires.number in
    let cut : IsCut (system_at f.systems 0) (system_at systems 0) =
    subst (λ (z : FrameState). IsCut (system_at z.systems 0) (system_at systems 0)) (sym c.self.view_is) c.requires.cut in
    let tops : c.lower.new.tops.items ≡ replicate (length systems) 0 =
    c.lower.ensures ∙ ap (λ (n : ℕ). replicate n 0) (c.self.invariant.law.tops ∙ sym number) in
    subst (λ (xs : List ℕ). IsKept record { systems = systems; lemmas = f.lemmas; tops = xs; obligations = c.clear.new.self.items } counts more) (sym tops)
    (subst (λ (os : List Obligation). IsKept record (fresh systems f.lemmas) { obligations = os } counts more) (sym c.clear.ensures.items)
    (kept_carried f systems counts c.self.inside.marks.items more c.self.invariant number c.requires.alike cut c.unmark.ensures.length c.unmark.ensures.none))
