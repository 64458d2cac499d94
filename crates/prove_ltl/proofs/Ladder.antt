-- One counter more.
use Rattle.std.proofs.Common.{◌≡◌, ℕ, suc, ◌+◌, List, [], ◌∷◌, ◌++◌, length, refl, subst, ap, arith, length-append}
use Rattle.clause_core.specs.Systems.{TransitionSystem}
use Rattle.sat_core.specs.Queries.{Draws}
use Rattle.frame_core.specs.declared.parts.Lemma.{Lemma}
use Rattle.frame_history.specs.declared.entries.Limits.{Limits}
use Rattle.prove_ltl.specs.Rungs.{Rung, IsRung, AreRungs, frames_of, lemmas_after, tickets_of}

pub rungs_more : (m : TransitionSystem) (limits : Limits) (k : ℕ) (carried : List Lemma) (rs : List Rung) (r : Rung) →
    AreRungs m limits k carried rs → IsRung m limits (k + length rs) r → r.carried ≡ lemmas_after limits carried rs →
    AreRungs m limits k carried (rs ++ r ∷ [])
rungs_more m limits k carried [] r are is from =
    let e : k + 0 ≡ k = omega arith in (subst (λ (n : ℕ). IsRung m limits n r) e is, from, tt)
rungs_more m limits k carried (q ∷ rs) r are is from =
    let e : k + suc (length rs) ≡ k + 1 + length rs = omega arith in (
      are.0,
      are.1,
      rungs_more m limits (k + 1) (frames_of limits q).lemmas rs r are.2 (subst (λ (n : ℕ). IsRung m limits n r) e is) from,
    )

pub lemmas_last : (limits : Limits) (carried : List Lemma) (rs : List Rung) (r : Rung) → lemmas_after limits carried (rs ++ r ∷ []) ≡ (frames_of limits r).lemmas
lemmas_last limits carried [] r = refl
lemmas_last limits carried (q ∷ rs) r = lemmas_last limits (frames_of limits q).lemmas rs r

pub tickets_last : (rs : List Rung) (r : Rung) → tickets_of (rs ++ r ∷ []) ≡ tickets_of rs + r.drawn
tickets_last [] r = omega arith
tickets_last (q ∷ rs) r = let rest = tickets_last rs r in omega (arith, rest)

pub long_after : (a b : List ℕ) (n : ℕ) → Draws a b n → length b ≡ length a + n
long_after a b n d =
    let long = length-append a d.0 in
    let e = ap (λ (z : List ℕ). length z) d.1 in
    let p = d.2 in
    omega (arith, long, e, p)
