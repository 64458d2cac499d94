-- Lemmas that are looked up.
use Rattle.std.proofs.Common.{◌≡◌, ℕ, ◌<◌, ◌≤◌, List, length, get_or, sym, ap, ◌∙◌, inl, inr, arith}
use Rattle.std.proofs.lemmas.List.{get_or_read}
use Rattle.frame_core.specs.declared.parts.Lemma.{Lemma}
use Rattle.frame_core.specs.declared.parts.Parent.{Parent}
use Rattle.frame_core.specs.FrameLaw.{no_lemma, lemma_at, Stands}
use Rattle.frame_core.specs.Looking.{IsKeptLevel}

-- a kept level that is high enough shows that the parent stands
pub kept_stands : (ls : List Lemma) (p : Parent) (least v : ℕ) → IsKeptLevel ls p v → least ≤ v → 0 < least → Stands ls least p
kept_stands ls p least v (inl k) le some = (k.0.0, k.0.1, omega (arith, k.1))
kept_stands ls p least v (inr k) le some = absurd (omega (arith, k.1))

pub kept_here : (ls : List Lemma) (p : Parent) (l : Lemma) → p.number < length ls → l ≡ get_or ls p.number l → l.clause ≡ p.clause →
    IsKeptLevel ls p l.level
kept_here ls p l lt is same =
    let e : l ≡ lemma_at ls p.number = get_or_read ls p.number l lt is no_lemma in
    inl ((lt, sym (ap (λ (m : Lemma). m.clause) e) ∙ same), ap (λ (m : Lemma). m.level) e)

pub kept_other : (ls : List Lemma) (p : Parent) (l : Lemma) → p.number < length ls → l ≡ get_or ls p.number l → (l.clause ≡ p.clause → ⊥) →
    IsKeptLevel ls p 0
kept_other ls p l lt is ne =
    let e : l ≡ lemma_at ls p.number = get_or_read ls p.number l lt is no_lemma in
    inr ((λ h. ne (ap (λ (m : Lemma). m.clause) e ∙ h.1)), omega arith)

pub kept_none : (ls : List Lemma) (p : Parent) → length ls ≤ p.number → IsKeptLevel ls p 0
kept_none ls p le = inr ((λ h. absurd (omega (arith, h.0))), omega arith)
