-- The law of the frames is kept by each change that is accepted, and so by each lawful history.
use Rattle.std.proofs.Common.{◌≡◌, ℕ, zero, suc, ◌+◌, ◌<◌, ◌≤◌, Bool, true, false, List, [], ◌∷◌, ◌++◌, length, take, set, refl, sym, subst, ◌∙◌, inl, inr, arith, length-set, get_or-set_same, get_or-set_other}
use Rattle.std.specs.Prelude.{Option, Some, None}
use Rattle.std.proofs.lemmas.Bool.{cases_eq}
use Rattle.std.proofs.lemmas.List.Elements.{All-contains_itself}
use Rattle.clause_core.specs.declared.literal.Lit.{Lit}
use Rattle.clause_core.specs.Assignments.{ClauseTrue}
use Rattle.clause_core.specs.Systems.{TransitionSystem, BadBits, ReachedWithin}
use Rattle.frame_core.specs.declared.parts.Lemma.{Lemma}
use Rattle.frame_core.specs.declared.parts.Parent.{Parent}
use Rattle.frame_core.specs.Facts.{ProvedClause, IsProved, FoundState, IsFound, IsFirstFlag}
use Rattle.frame_core.specs.Differences.{IsSameSystem}
use Rattle.frame_core.specs.FrameLaw.{FrameState, FramesHold, IsSafe, InFrame, IsAsHigh, system_at, top_at, lemma_at}
use Rattle.frame_core.specs.Changes.{with_lemma, with_level, with_top, with_obligation, fresh}
use Rattle.frame_core.proofs.Changing.{opened}
use Rattle.frame_core.proofs.States.{inserted, lifted, dropped_one, noted, made}
use Rattle.frame_core.proofs.Reaching.{holds_within}
use Rattle.frame_history.specs.declared.entries.Limits.{Limits}
use Rattle.frame_history.specs.declared.entries.Made.{Made}
use Rattle.frame_history.specs.declared.entries.Change.{Change}
use Rattle.frame_history.specs.declared.entries.Change.TheVariants.{Add, Raise, Held, Retire, Behind, Dropped, Note, Open, PushFailed, Limit, Spent}
use Rattle.frame_history.specs.declared.entries.Entry.{Entry}
use Rattle.frame_history.specs.declared.entries.Entry.TheVariants.{Claim, Settle, Back}
use Rattle.frame_history.specs.History.{BookState, changed, all_changed, after, replay, IsShown, MayBeNoted, Accepts, AcceptsNext, AcceptsEach, AcceptsAll, MayStand, IsLawful, AreCarried}

itself : (w : Bool) (sys : TransitionSystem) → IsSameSystem w sys sys
itself w sys = record { state_bits = refl; all_bits = refl; init = refl; step = refl; bad = λ e. refl; good = λ e. refl }

-- what is shown of a clause, as a query proves it
abbrev pub proved_of : FrameState → List Lit → ℕ → List Parent → ProvedClause
proved_of f clause level parents =
    record { system = system_at f.systems 0; clause = clause; part = clause; level = level; parents = parents }

pub shown_is_proved : (f : FrameState) (clause : List Lit) (level : ℕ) (parents : List Parent) → IsShown f clause level parents →
    IsProved (proved_of f clause level parents)
shown_is_proved f clause level parents h =
    record { above = h.above; within = h.within; part_in = All-contains_itself clause; first = h.first; step = h.step }

keeps_add : (f : FrameState) (clause : List Lit) (level : ℕ) (parents : List Parent) → FramesHold f → IsShown f clause level parents →
    FramesHold (with_lemma f clause level)
keeps_add f clause level parents h is =
    inserted f (proved_of f clause level parents) h (itself false (system_at f.systems 0)) (shown_is_proved f clause level parents is) is.stand

keeps_raise : (f : FrameState) (n level : ℕ) (parents : List Parent) → FramesHold f → n < length f.lemmas → (IsAsHigh f.lemmas n level → ⊥) →
    IsShown f (lemma_at f.lemmas n).clause level parents → FramesHold (with_level f n level)
keeps_raise f n level parents h lt needed is =
    let clause : List Lit = (lemma_at f.lemmas n).clause in
    lifted f n (proved_of f clause level parents) h lt refl (itself false (system_at f.systems 0)) (shown_is_proved f clause level parents is) needed
    is.stand

keeps_open : (f : FrameState) (j : ℕ) → FramesHold f → j < length f.systems →
    ((x : ℕ → Bool) → InFrame (system_at f.systems j) f.lemmas (top_at f.tops j) x → BadBits (system_at f.systems j) x → ⊥) → FramesHold (with_top f j)
keeps_open f j h lt clear =
    let top = top_at f.tops j in
    let here : j < length f.tops = let e = h.tops in omega arith in
    let more : IsSafe (system_at f.systems j) f.lemmas (top + 1) = opened (system_at f.systems j) f.lemmas top (h.safe j lt) clear in
    record {
      some = h.some;
      alike = h.alike;
      tops = length-set f.tops j (top + 1) ∙ h.tops;
      lemmas = h.lemmas;
      safe = λ k below. elim (cases_eq k j) [
        | inl e ↦
            let at' : top_at (set f.tops j (top + 1)) k ≡ top + 1 = rw e (get_or-set_same f.tops j (top + 1) 0 here) in
            subst (IsSafe (system_at f.systems k) f.lemmas) (sym at') (subst (λ (m : ℕ). IsSafe (system_at f.systems m) f.lemmas (top + 1)) (sym e) more)
        | inr ne ↦ subst (IsSafe (system_at f.systems k) f.lemmas) (sym (get_or-set_other f.tops j k (top + 1) 0 ne)) (h.safe k below)
      ];
      obligations = h.obligations;
    }

no_way : false ≡ true → ⊥
no_way e = let h : false ≡ true = e in cc

keeps_note : (f : FrameState) (c : Made) (j : ℕ) (values : List Bool) (parent : Option ℕ) (first : Bool) → FramesHold f →
    MayBeNoted f c j values parent → length values ≡ (system_at f.systems j).all_bits → IsFirstFlag (system_at f.systems j) values first →
    FramesHold (with_obligation f j record { system = system_at f.systems j; values = values; is_step = false; first = first } parent)
keeps_note f c j values None first h may whole flag =
    let g : FoundState = record { system = system_at f.systems j; values = values; is_step = false; first = first } in
    let found : IsFound g = record { whole = whole; step = λ e. absurd (no_way e); bad = λ e. may.3; flag = flag } in
    noted f j g None h may.2 (itself true (system_at f.systems j)) found refl
keeps_note f c j values (Some o) first h may whole flag =
    let g : FoundState = record { system = system_at f.systems j; values = values; is_step = true; first = first } in
    let found : IsFound g = record { whole = whole; step = λ e. may.3; bad = λ e. absurd (no_way (sym e)); flag = flag } in
    let lt : j < length f.systems = subst (λ (k : ℕ). k < length f.systems) may.2 (h.obligations o may.1).of in
    noted f j g (Some o) h lt (itself false (system_at f.systems j)) found (refl, may.1, may.2, may.4)

pub keeps_change : (s : BookState) (c : Made) (d : Change) → FramesHold s.frames → Accepts s.frames c d → FramesHold (changed s d).frames
keeps_change s c (Add clause level parents) h a = keeps_add s.frames clause level parents.items h a.1
keeps_change s c (Raise n level parents) h a = keeps_raise s.frames n level parents.items h a.2 a.3 a.4
keeps_change s c (Held n clause level) h a = h
keeps_change s c (Retire n) h a = absurd a
keeps_change s c (Behind lag) h a = h
keeps_change s c Dropped h a = h
keeps_change s c (Note j values parent first) h a = keeps_note s.frames c j values parent first h a.0 a.1 a.2
keeps_change s c (Open j) h a = keeps_open s.frames j h a.2 a.3
keeps_change s c (PushFailed n level) h a = h
keeps_change s c (Limit j) h a = absurd a
keeps_change s c Spent h a = h

keeps_next : (limits : Limits) (s : BookState) (d : Change) → FramesHold s.frames → AcceptsNext limits s d → FramesHold (changed s d).frames
keeps_next limits s (Retire n) h a = dropped_one s.frames n h a.0 a.2
keeps_next limits s (Limit j) h a = h
keeps_next limits s (Add clause level parents) h a = absurd a
keeps_next limits s (Raise n level parents) h a = absurd a
keeps_next limits s (Held n clause level) h a = absurd a
keeps_next limits s (Behind lag) h a = absurd a
keeps_next limits s Dropped h a = absurd a
keeps_next limits s (Note j values parent first) h a = absurd a
keeps_next limits s (Open j) h a = absurd a
keeps_next limits s (PushFailed n level) h a = absurd a
keeps_next limits s Spent h a = absurd a

pub keeps_each : (limits : Limits) (s : BookState) (ds : List Change) → FramesHold s.frames → AcceptsEach limits s ds →
    FramesHold (all_changed s ds).frames
keeps_each limits s [] h a = h
keeps_each limits s (d ∷ ds) h a = keeps_each limits (changed s d) ds (keeps_next limits s d h a.0) a.1

pub keeps_all : (limits : Limits) (s : BookState) (c : Made) (ds : List Change) → FramesHold s.frames → AcceptsAll limits s c ds →
    FramesHold (all_changed s ds).frames
keeps_all limits s c [] h a = absurd a
keeps_all limits s c (d ∷ ds) h a = keeps_each limits (changed s d) ds (keeps_change s c d h a.0) a.1

pub keeps_entry : (limits : Limits) (s : BookState) (e : Entry) → FramesHold s.frames → MayStand limits s e → FramesHold (after s e).frames
keeps_entry limits s (Claim worker subject level) h m = h
keeps_entry limits s (Settle worker n changes) h m = keeps_all limits s m.0 changes.items h m.2
keeps_entry limits s (Back worker n) h m = h

pub keeps_history : (limits : Limits) (s : BookState) (es : List Entry) → FramesHold s.frames → IsLawful limits s es → (n : ℕ) →
    FramesHold (replay s (take n es)).frames
keeps_history limits s [] h l zero = h
keeps_history limits s [] h l (suc n) = h
keeps_history limits s (e ∷ es) h l zero = h
keeps_history limits s (e ∷ es) h l (suc n) = keeps_history limits (after s e) es (keeps_entry limits s e h l.0) l.1 n

pub holds_at_start : (systems : List TransitionSystem) (carried : List Lemma) → AreCarried systems carried → FramesHold (fresh systems carried)
holds_at_start systems carried are = made systems carried are.some are.alike are.hold

-- ---- The systems stay the same

same_changes : (s : BookState) (ds : List Change) → (all_changed s ds).frames.systems ≡ s.frames.systems
same_changes s [] = refl
same_changes s (Add clause level parents ∷ ds) = same_changes (changed s (Add clause level parents)) ds
same_changes s (Raise n level parents ∷ ds) = same_changes (changed s (Raise n level parents)) ds
same_changes s (Held n clause level ∷ ds) = same_changes s ds
same_changes s (Retire n ∷ ds) = same_changes (changed s (Retire n)) ds
same_changes s (Behind lag ∷ ds) = same_changes s ds
same_changes s (Dropped ∷ ds) = same_changes s ds
same_changes s (Note j values parent first ∷ ds) = same_changes (changed s (Note j values parent first)) ds
same_changes s (Open j ∷ ds) = same_changes (changed s (Open j)) ds
same_changes s (PushFailed n level ∷ ds) = same_changes (changed s (PushFailed n level)) ds
same_changes s (Limit j ∷ ds) = same_changes (changed s (Limit j)) ds
same_changes s (Spent ∷ ds) = same_changes (changed s Spent) ds

same_entry : (s : BookState) (e : Entry) → (after s e).frames.systems ≡ s.frames.systems
same_entry s (Claim worker subject level) = refl
same_entry s (Settle worker n changes) = same_changes s changes.items
same_entry s (Back worker n) = refl

pub same_systems : (s : BookState) (es : List Entry) → (replay s es).frames.systems ≡ s.frames.systems
same_systems s [] = refl
same_systems s (e ∷ es) = same_systems (after s e) es ∙ same_entry s e

-- each lemma of level i holds in each state that is reached in at most i steps
pub lemmas_hold : (systems : List TransitionSystem) (f : FrameState) → f.systems ≡ systems → FramesHold f → (j : ℕ) → j < length systems →
    (i : ℕ) (x : ℕ → Bool) → ReachedWithin (system_at systems j) i x → (l : ℕ) → l < length f.lemmas → i ≤ (lemma_at f.lemmas l).level →
    ClauseTrue x (lemma_at f.lemmas l).clause
lemmas_hold systems f is h j lt i x reached l below high =
    let lt' : j < length f.systems = subst (λ (z : List TransitionSystem). j < length z) (sym is) lt in
    let r : ReachedWithin (system_at f.systems j) i x = subst (λ (z : List TransitionSystem). ReachedWithin (system_at z j) i x) (sym is) reached in
    holds_within (system_at f.systems j) f.lemmas (h.lemmas j lt') i x r l below high

-- ---- One entry more

pub replay-append : (s : BookState) (es : List Entry) (e : Entry) → replay s (es ++ e ∷ []) ≡ after (replay s es) e
replay-append s [] e = refl
replay-append s (d ∷ ds) e = replay-append (after s d) ds e

pub lawful-append : (limits : Limits) (s : BookState) (es : List Entry) (e : Entry) → IsLawful limits s es → MayStand limits (replay s es) e →
    IsLawful limits s (es ++ e ∷ [])
lawful-append limits s [] e l m = (m, tt)
lawful-append limits s (d ∷ ds) e l m = (l.0, lawful-append limits (after s d) ds e l.1 m)

-- ---- One change more

pub changed-append : (s : BookState) (ds : List Change) (d : Change) → all_changed s (ds ++ d ∷ []) ≡ changed (all_changed s ds) d
changed-append s [] d = refl
changed-append s (e ∷ es) d = changed-append (changed s e) es d

pub each-append : (limits : Limits) (s : BookState) (ds : List Change) (d : Change) → AcceptsEach limits s ds →
    AcceptsNext limits (all_changed s ds) d → AcceptsEach limits s (ds ++ d ∷ [])
each-append limits s [] d a n = (n, tt)
each-append limits s (e ∷ es) d a n = (a.0, each-append limits (changed s e) es d a.1 n)
