-- How far the frames of a history went for a system without an answer; and whether a claim is out.
use Rattle.std.specs.Prelude.{◌≡◌, ℕ, ◌+◌, ◌<◌, ◌≤◌, Bool, true, List, take, Option, Some}
use Rattle.clause_core.specs.Systems.{TransitionSystem, StepBits, ReachedWithin, BadBits}
use Rattle.frame_core.specs.FrameLaw.{FrameState, InFrame, system_at, top_at}
use Rattle.frame_history.specs.declared.entries.Limits.{Limits}
use Rattle.frame_history.specs.declared.entries.Made.{Made}
use Rattle.frame_history.specs.declared.entries.Entry.{Entry}
use Rattle.frame_history.specs.History.{BookState, replay, claim_at}

-- a step leads out of frame i
abbrev pub IsLeft : FrameState → ℕ → Type 0
IsLeft f i =
    (x : ℕ → Bool) × (y : ℕ → Bool) × InFrame (system_at f.systems 0) f.lemmas i x × StepBits (system_at f.systems 0) x y
    × (InFrame (system_at f.systems 0) f.lemmas i y → ⊥)

-- the top of system j is one past the limit, and steps lead out of each frame from 1 to the limit
pub record IsAtLimit (limits : Limits) (f : FrameState) (j : ℕ) : Type 0 where
  pub top : top_at f.tops j ≡ limits.frames + 1
  pub left : (i : ℕ) → 0 < i → i ≤ limits.frames → IsLeft f i

-- so it was after some entry of the history
abbrev pub WasAtLimit : Limits → BookState → List Entry → ℕ → Type 0
WasAtLimit limits s history j = (n : ℕ) × IsAtLimit limits (replay s (take n history)).frames j

-- no bad state is reached in at most n steps
abbrev pub IsSafeWithin : TransitionSystem → ℕ → Type 0
IsSafeWithin sys n = (x : ℕ → Bool) → ReachedWithin sys n x → BadBits sys x → ⊥

-- some claim is out
abbrev pub SomeIsOut : List (Option Made) → Type 0
SomeIsOut claims = (n : ℕ) × (c : Made) × (claim_at claims n ≡ Some c) × (c.out ≡ true)
