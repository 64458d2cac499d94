-- A limit that is met: the frames had a top past it, and steps led out of each of them.
use Rattle.std.proofs.Common.{◌≡◌, ℕ, suc, ◌<◌, ◌⊎◌, Bool, true, false, List, [], ◌∷◌, length, take, refl, sym, subst, ◌∙◌, inl, inr, arith, get_or-set_other}
use Rattle.std.specs.Prelude.{slice_index_or, replicate}
use Rattle.std.proofs.lemmas.Bool.{cases_eq, cases_lt}
use Rattle.std.proofs.lemmas.List.{get_or_past, get_or-replicate, length-replicate}
use Rattle.clause_core.specs.Systems.{TransitionSystem, ReachedWithin}
use Rattle.frame_core.specs.declared.parts.Lemma.{Lemma}
use Rattle.frame_core.specs.FrameLaw.{FrameState, FramesHold, system_at, top_at}
use Rattle.frame_core.proofs.Reaching.{holds_within}
use Rattle.frame_history.specs.declared.entries.Limits.{Limits}
use Rattle.frame_history.specs.declared.entries.Made.{Made}
use Rattle.frame_history.specs.declared.entries.Change.{Change}
use Rattle.frame_history.specs.declared.entries.Change.TheVariants.{Add, Raise, Held, Retire, Behind, Dropped, Note, Open, PushFailed, Limit, Spent}
use Rattle.frame_history.specs.declared.entries.Entry.{Entry}
use Rattle.frame_history.specs.declared.entries.Entry.TheVariants.{Claim, Settle, Back}
use Rattle.frame_history.specs.History.{BookState, changed, all_changed, after, replay, start, Accepts, AcceptsEach, AcceptsAll, MayStand, MeetsLimit, IsLawful, AreCarried}
use Rattle.frame_history.specs.Limits.{IsAtLimit, WasAtLimit, IsSafeWithin}
use Rattle.frame_history.proofs.Keeping.{keeps_entry, keeps_history, holds_at_start, same_systems}
use Rattle.frame_history.proofs.Tracking.{IsTracked, entry_tracked, start_tracked}

-- further changes leave a limit met
limit_stays : (limits : Limits) (s : BookState) (ds : List Change) (j : ℕ) → AcceptsEach limits s ds → MeetsLimit limits s j →
    MeetsLimit limits (all_changed s ds) j
limit_stays limits s [] j a m = m
limit_stays limits s (Retire n ∷ ds) j a m = limit_stays limits (changed s (Retire n)) ds j a.1 m
limit_stays limits s (Limit k ∷ ds) j a m = limit_stays limits (changed s (Limit k)) ds j a.1 m
limit_stays limits s (Add clause level parents ∷ ds) j a m = absurd a.0
limit_stays limits s (Raise n level parents ∷ ds) j a m = absurd a.0
limit_stays limits s (Held n clause level ∷ ds) j a m = absurd a.0
limit_stays limits s (Behind lag ∷ ds) j a m = absurd a.0
limit_stays limits s (Dropped ∷ ds) j a m = absurd a.0
limit_stays limits s (Note k values parent first ∷ ds) j a m = absurd a.0
limit_stays limits s (Open k ∷ ds) j a m = absurd a.0
limit_stays limits s (PushFailed n level ∷ ds) j a m = absurd a.0
limit_stays limits s (Spent ∷ ds) j a m = absurd a.0

-- what is noted as a limit by further changes is met when they are done
limit_noted : (limits : Limits) (s : BookState) (ds : List Change) (j : ℕ) → AcceptsEach limits s ds →
    slice_index_or (all_changed s ds).limited j false ≡ true → (slice_index_or s.limited j false ≡ true) ⊎ MeetsLimit limits (all_changed s ds) j
limit_noted limits s [] j a on = inl on
limit_noted limits s (Retire n ∷ ds) j a on = limit_noted limits (changed s (Retire n)) ds j a.1 on
limit_noted limits s (Limit k ∷ ds) j a on = elim (limit_noted limits (changed s (Limit k)) ds j a.1 on) [
  | inl before ↦ elim (cases_eq j k) [
    | inl e ↦
        let still : MeetsLimit limits (all_changed s (Limit k ∷ ds)) k = limit_stays limits (changed s (Limit k)) ds k a.1 a.0.2 in
        inr (subst (MeetsLimit limits (all_changed s (Limit k ∷ ds))) (sym e) still)
    | inr ne ↦ inl (sym (get_or-set_other s.limited k j true false ne) ∙ before)
  ]
  | inr met ↦ inr met
]
limit_noted limits s (Add clause level parents ∷ ds) j a on = absurd a.0
limit_noted limits s (Raise n level parents ∷ ds) j a on = absurd a.0
limit_noted limits s (Held n clause level ∷ ds) j a on = absurd a.0
limit_noted limits s (Behind lag ∷ ds) j a on = absurd a.0
limit_noted limits s (Dropped ∷ ds) j a on = absurd a.0
limit_noted limits s (Note k values parent first ∷ ds) j a on = absurd a.0
limit_noted limits s (Open k ∷ ds) j a on = absurd a.0
limit_noted limits s (PushFailed n level ∷ ds) j a on = absurd a.0
limit_noted limits s (Spent ∷ ds) j a on = absurd a.0

-- the first change of a settlement notes no limit
first_notes_none : (s : BookState) (c : Made) (d : Change) → Accepts s.frames c d → (changed s d).limited ≡ s.limited
first_notes_none s c (Add clause level parents) a = refl
first_notes_none s c (Raise n level parents) a = refl
first_notes_none s c (Held n clause level) a = refl
first_notes_none s c (Retire n) a = absurd a
first_notes_none s c (Behind lag) a = refl
first_notes_none s c Dropped a = refl
first_notes_none s c (Note j values parent first) a = refl
first_notes_none s c (Open j) a = refl
first_notes_none s c (PushFailed n level) a = refl
first_notes_none s c (Limit j) a = absurd a
first_notes_none s c Spent a = refl

limit_of_all : (limits : Limits) (s : BookState) (c : Made) (ds : List Change) (j : ℕ) → AcceptsAll limits s c ds →
    slice_index_or (all_changed s ds).limited j false ≡ true → (slice_index_or s.limited j false ≡ true) ⊎ MeetsLimit limits (all_changed s ds) j
limit_of_all limits s c [] j a on = absurd a
limit_of_all limits s c (d ∷ ds) j a on = elim (limit_noted limits (changed s d) ds j a.1 on) [
  | inl before ↦ inl (subst (λ (l : List Bool). slice_index_or l j false ≡ true) (first_notes_none s c d a.0) before)
  | inr met ↦ inr met
]

limit_of_entry : (limits : Limits) (s : BookState) (e : Entry) (j : ℕ) → MayStand limits s e →
    slice_index_or (after s e).limited j false ≡ true → (slice_index_or s.limited j false ≡ true) ⊎ MeetsLimit limits (after s e) j
limit_of_entry limits s (Claim worker subject level) j m on = inl on
limit_of_entry limits s (Settle worker n changes) j m on = limit_of_all limits s m.0 changes.items j m.2 on
limit_of_entry limits s (Back worker n) j m on = inl on

at_limit : (limits : Limits) (s : BookState) (j : ℕ) → IsTracked limits s → MeetsLimit limits s j → IsAtLimit limits s.frames j
at_limit limits s j h m = record { top = m.0; left = λ i some low. h.left i some (m.1 i some low) }

-- a limit that is met after a history was met before it, or in it
met_in : (limits : Limits) (s : BookState) (es : List Entry) (j : ℕ) → FramesHold s.frames → IsTracked limits s → IsLawful limits s es →
    slice_index_or (replay s es).limited j false ≡ true → (slice_index_or s.limited j false ≡ true) ⊎ WasAtLimit limits s es j
met_in limits s [] j holds h l on = inl on
met_in limits s (e ∷ es) j holds h l on =
    let next : IsTracked limits (after s e) = entry_tracked limits s e holds h l.0 in
    elim (met_in limits (after s e) es j (keeps_entry limits s e holds l.0) next l.1 on) [
      | inl here ↦ elim (limit_of_entry limits s e j l.0 here) [
        | inl before ↦ inl before
        | inr met ↦ inr (1, at_limit limits (after s e) j next met)
      ]
      | inr later ↦ inr (suc later.0, later.1)
    ]

-- no bad state is reached in fewer steps than the top
safe_below : (f : FrameState) (j n : ℕ) → FramesHold f → j < length f.systems → n < top_at f.tops j → IsSafeWithin (system_at f.systems j) n
safe_below f j n h lt below x reached bad =
    let sys : TransitionSystem = system_at f.systems j in
    h.safe j lt n below x (
      (λ e. subst (λ (k : ℕ). ReachedWithin sys k x) e reached),
      (λ some l here high. holds_within sys f.lemmas (h.lemmas j lt) n x reached l here high),
    ) bad

no_way : false ≡ true → ⊥
no_way e = let h : false ≡ true = e in cc

none_met_at_start : (m j : ℕ) → slice_index_or (replicate m false) j false ≡ true → ⊥
none_met_at_start m j on = elim (cases_lt j m) [
  | inl lt ↦ no_way (sym (get_or-replicate m j false false lt) ∙ on)
  | inr ge ↦ no_way (sym (get_or_past (replicate m false) j false (omega (arith, length-replicate m false))) ∙ on)
]

-- where a limit is met, it was reached, and the system is safe as far as that
pub limit_reached : (limits : Limits) (systems : List TransitionSystem) (carried : List Lemma) (history : List Entry) → AreCarried systems carried →
    IsLawful limits (start limits systems carried) history → (j : ℕ) → j < length systems →
    slice_index_or (replay (start limits systems carried) history).limited j false ≡ true →
    WasAtLimit limits (start limits systems carried) history j × IsSafeWithin (system_at systems j) limits.frames
limit_reached limits systems carried history are lawful j lt on =
    let s : BookState = start limits systems carried in
    let holds_first : FramesHold s.frames = holds_at_start systems carried are in
    elim (met_in limits s history j holds_first (start_tracked limits systems carried) lawful on) [
      | inl before ↦ absurd (none_met_at_start (length systems) j before)
      | inr met ↦
          let f : FrameState = (replay s (take met.0 history)).frames in
          let same : f.systems ≡ systems = same_systems s (take met.0 history) in
          let holds : FramesHold f = keeps_history limits s history holds_first lawful met.0 in
          let here : j < length f.systems = subst (λ (z : List TransitionSystem). j < length z) (sym same) lt in
          let top = met.1.top in
          let safe : IsSafeWithin (system_at f.systems j) limits.frames = safe_below f j limits.frames holds here (omega arith) in
          (met, subst (λ (z : List TransitionSystem). IsSafeWithin (system_at z j) limits.frames) same safe)
    ]
