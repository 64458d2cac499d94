-- Frames as they are when several workers have explored them.
use Rattle.std.specs.Prelude.{◌≡◌, ℕ, ◌+◌, ◌<◌, Bool, false, List, length}
use Rattle.clause_core.specs.Systems.{TransitionSystem}
use Rattle.frame_core.specs.declared.parts.Lemma.{Lemma}
use Rattle.frame_core.specs.FrameLaw.{FrameState, FramesHold, system_at}
use Rattle.frame_history.specs.declared.entries.Limits.{Limits}
use Rattle.frame_history.specs.declared.entries.Entry.{Entry}
use Rattle.frame_history.specs.History.{start, replay, HasVerdict, IsLawful}
use Rattle.frame_history.specs.Limits.{WasAtLimit, IsSafeWithin}
use Rattle.frame_claims.specs.Paying.{ClaimQuery}
use Rattle.frame_claims.specs.Lists.{ArePaid}

-- a lawful history, from these lemmas, led to the frames, which keep their law; so many tickets as were drawn since
-- there were `old` were paid for queries of its claims; and where the purse was not spent, which `over` says, each
-- system without a verdict met the limit of its frames
pub record IsExplored (systems : List TransitionSystem) (limits : Limits) (carried : List Lemma) (history : List Entry) (f : FrameState)
    (old now : ℕ) (over : Bool) : Type 0 where
  pub lawful : IsLawful limits (start limits systems carried) history
  pub frames : f ≡ (replay (start limits systems carried) history).frames
  pub holds : FramesHold f
  pub drawn : ℕ
  pub all : old + drawn ≡ now
  pub logs : List (List ClaimQuery)
  pub paid : ArePaid (start limits systems carried) history drawn logs
  pub limit : over ≡ false → (j : ℕ) → j < length systems → (HasVerdict f j → ⊥) →
      WasAtLimit limits (start limits systems carried) history j × IsSafeWithin (system_at systems j) limits.frames
