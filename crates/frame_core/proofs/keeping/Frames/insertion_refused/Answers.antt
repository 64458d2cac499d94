use Rattle.std.proofs.Common.{◌≡◌, ◌-◌, ℕ, List, ap, ◌∙◌, refl, subst}
use Rattle.frame_core.specs.declared.parts.Lemma.{Lemma}
use Rattle.frame_core.specs.declared.parts.Parent.{Parent}
use Rattle.frame_core.specs.FrameLaw.{FrameState, AllStand}
use Rattle.frame_core.specs.Looking.{IsBehind}
use Rattle.frame_core.proofs.Held.{Holder, holder_same, holder_is, holder_none}
use Rattle.frame_core.proofs.keeping.Frames.insertion_refused.Goals as goal

pub returns-in-Some-clause-answer : goal.returns-in-Some-clause-answer
returns-in-Some-clause-answer c =
    let f = c.args.self.now in
    let p = c.args.proved.now in
    let e1 : c.self.inside.lemmas ≡ f.lemmas = ap (λ (z : FrameState). z.lemmas) c.self.view_is in
    let all : Holder f.lemmas p.clause p.level c.in_ok-n.field-0 =
    holder_same c.self.inside.lemmas f.lemmas c.clause.result.now p.clause c.level.result p.level c.in_ok-n.field-0 e1 c.clause.ensures c.level.ensures c.in_ok-n.ensures in
    (holder_is f.lemmas p.clause p.level c.in-Some.n c.in_ok-n.field-0 c.in-Some.is all, refl)

pub returns-in-Some-some_behind-clause-answer : goal.returns-in-Some-some_behind-clause-answer
returns-in-Some-some_behind-clause-answer c =
    let f = c.args.self.now in
    let p = c.args.proved.now in
    let e1 : c.self.inside.lemmas ≡ f.lemmas = ap (λ (z : FrameState). z.lemmas) c.self.view_is in
    let e2 : c.as_slice.result.now ≡ f.lemmas = c.as_slice.ensures ∙ ap (λ (z : FrameState). z.lemmas) c.self.view_is in
    let all : Holder f.lemmas p.clause p.level c.in_ok-n.field-0 =
    holder_same c.self.inside.lemmas f.lemmas c.clause.result.now p.clause c.level.result p.level c.in_ok-n.field-0 e1 c.clause.ensures c.level.ensures c.in_ok-n.ensures in
    let behind : IsBehind f.lemmas (p.level - 1) p.parents c.in-Some-some_behind.parent c.in-Some-some_behind.level =
    subst (λ (z : List Lemma). IsBehind z (p.level - 1) p.parents c.in-Some-some_behind.parent c.in-Some-some_behind.level) e2
    (subst (λ (z : ℕ). IsBehind c.as_slice.result.now (z - 1) p.parents c.in-Some-some_behind.parent c.in-Some-some_behind.level) c.level-2.ensures
    (subst (λ (z : List Parent). IsBehind c.as_slice.result.now (c.level-2.result - 1) z c.in-Some-some_behind.parent c.in-Some-some_behind.level) c.parents.ensures
    c.in-Some-some_behind.ensures)) in
    (holder_none f.lemmas p.clause p.level c.in_ok-n.field-0 c.in_default.is all, behind, refl)

pub returns-clause-answer : goal.returns-clause-answer
returns-clause-answer c =
    let f = c.args.self.now in
    let p = c.args.proved.now in
    let g : FrameState =
    record { systems = c.self.inside.systems.now; lemmas = c.self.inside.lemmas; tops = c.self.inside.tops.items; obligations = c.self.inside.obligations.items } in
    let e1 : c.self.inside.lemmas ≡ f.lemmas = ap (λ (z : FrameState). z.lemmas) c.self.view_is in
    let e2 : c.as_slice.result.now ≡ f.lemmas = c.as_slice.ensures ∙ ap (λ (z : FrameState). z.lemmas) c.self.view_is in
    let all : Holder f.lemmas p.clause p.level c.in_ok-n.field-0 =
    holder_same c.self.inside.lemmas f.lemmas c.clause.result.now p.clause c.level.result p.level c.in_ok-n.field-0 e1 c.clause.ensures c.level.ensures c.in_ok-n.ensures in
    let stand : AllStand f.lemmas (p.level - 1) p.parents =
    subst (λ (z : List Lemma). AllStand z (p.level - 1) p.parents) e2
    (subst (λ (z : ℕ). AllStand c.as_slice.result.now (z - 1) p.parents) c.level-2.ensures
    (subst (AllStand c.as_slice.result.now (c.level-2.result - 1)) c.parents.ensures c.in_default-some_behind.ensures)) in
    (holder_none f.lemmas p.clause p.level c.in_ok-n.field-0 c.in_default.is all, stand)
