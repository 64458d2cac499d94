-- The histories of the frames of one counter after another, each of which begins with the lemmas at the end of the one before.
use Rattle.std.specs.Prelude.{◌≡◌, ℕ, ◌+◌, ⊤, List, [], ◌∷◌, map, Some}
use Rattle.clause_core.specs.Systems.{TransitionSystem}
use Rattle.frame_claims.specs.Lists.{ArePaid}
use Rattle.frame_claims.specs.Paying.{ClaimQuery}
use Rattle.frame_core.specs.declared.parts.Lemma.{Lemma}
use Rattle.frame_core.specs.declared.outcomes.FramesVerdict.TheVariants.{Reached}
use Rattle.frame_core.specs.FrameLaw.{FrameState}
use Rattle.frame_core.specs.Changes.{VerdictSays}
use Rattle.frame_history.specs.declared.entries.Limits.{Limits}
use Rattle.frame_history.specs.declared.entries.Entry.{Entry}
use Rattle.frame_history.specs.History.{BookState, start, replay, IsLawful}
use Rattle.ltl_monitor.specs.Counted.{IsCounted}
use Rattle.prove_run.specs.declared.answers.Work.{Work}

-- of one counter: the counted system, the lemmas to begin with, the history, how many tickets were drawn, and the queries that they paid for,
-- a list for each worker
pub record Rung : Type 0 where
  pub system : TransitionSystem
  pub carried : List Lemma
  pub history : List Entry
  pub drawn : ℕ
  pub logs : List (List ClaimQuery)

abbrev pub first_of : Limits → Rung → BookState
first_of limits r = start limits (r.system ∷ []) r.carried

-- the frames after the history
abbrev pub frames_of : Limits → Rung → FrameState
frames_of limits r = (replay (first_of limits r) r.history).frames

-- of the monitored system m with a counter up to k: the history is lawful, and its queries were paid for
pub record IsRung (m : TransitionSystem) (limits : Limits) (k : ℕ) (r : Rung) : Type 0 where
  pub counted : IsCounted m k r.system
  pub lawful : IsLawful limits (first_of limits r) r.history
  pub paid : ArePaid (first_of limits r) r.history r.drawn r.logs

-- of counters k, k + 1, .., each from the lemmas at the end of the one before; the first from these
abbrev pub AreRungs : TransitionSystem → Limits → ℕ → List Lemma → List Rung → Type 0
AreRungs m limits k carried [] = ⊤
AreRungs m limits k carried (r ∷ rs) =
    IsRung m limits k r × (r.carried ≡ carried) × AreRungs m limits (k + 1) (frames_of limits r).lemmas rs

-- the lemmas that the next one begins with
abbrev pub lemmas_after : Limits → List Lemma → List Rung → List Lemma
lemmas_after limits carried [] = carried
lemmas_after limits carried (r ∷ rs) = lemmas_after limits (frames_of limits r).lemmas rs

-- how many tickets were drawn
abbrev pub tickets_of : List Rung → ℕ
tickets_of [] = 0
tickets_of (r ∷ rs) = r.drawn + tickets_of rs

-- the frames tell a run to a bad state: one with more signals than the counter counts
abbrev pub IsPassed : Limits → Rung → Type 0
IsPassed limits r = (n : ℕ) × VerdictSays (frames_of limits r) 0 (Some (Reached n))

-- the histories, as they are kept
abbrev pub histories_of : List Rung → List (List Entry)
histories_of rs = map (λ (r : Rung). r.history) rs

abbrev pub histories_in : List Work → List (List Entry)
histories_in works = map (λ (w : Work). w.history.items) works
