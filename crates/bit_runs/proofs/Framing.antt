-- What frames say of reached states.
use Rattle.std.proofs.Common.{ℕ, zero, suc, ◌<◌, Bool, List, subst, inl, inr}
use Rattle.clause_core.specs.Systems.{TransitionSystem, ReachedWithin}
use Rattle.frame_core.specs.declared.parts.Lemma.{Lemma}
use Rattle.frame_core.specs.FrameLaw.{InFrame, IsInvariant, IsSafe, LemmasHold, MeetsFrom}
use Rattle.frame_core.proofs.Reaching.{holds_within}
use Rattle.bit_system.specs.Claims.{NeverBad, NeverBadWithin}

module _ (sys : TransitionSystem) (lemmas : List Lemma) where
  kept : (i : ℕ) → IsInvariant sys lemmas i → (n : ℕ) (x : ℕ → Bool) → ReachedWithin sys n x → MeetsFrom lemmas i x
  kept i inv zero x r = inv.first x r
  kept i inv (suc n) x r = elim r [
    | inl before ↦ kept i inv n x before
    | inr there ↦ inv.step there.0 x (kept i inv n there.0 there.1) there.2
  ]

  pub never_bad : (i : ℕ) → IsInvariant sys lemmas i → NeverBad sys
  never_bad i inv n x r bad = inv.safe x (kept i inv n x r) bad

  pub never_bad_below : (top n : ℕ) → LemmasHold sys lemmas → IsSafe sys lemmas top → n < top → NeverBadWithin sys n
  never_bad_below top n hold safe lt x r bad =
      let inside : InFrame sys lemmas n x = (λ none. subst (λ k. ReachedWithin sys k x) none r, λ some m below le. holds_within sys lemmas hold n x r m below le) in
      safe n lt x inside bad
