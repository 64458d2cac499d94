-- One entry more.
use Rattle.std.proofs.Common.{◌≡◌, ℕ, ◌+◌, List, [], ◌∷◌, ◌++◌, set, refl, sym, ap, subst, ◌∙◌, add-zero}
use Rattle.std.specs.Prelude.{Option, Some, None, if◌then◌else◌}
use Rattle.frame_core.specs.FrameLaw.{FrameState}
use Rattle.frame_core.specs.Changes.{with_retired}
use Rattle.frame_history.specs.declared.entries.Limits.{Limits}
use Rattle.frame_history.specs.declared.entries.Made.{Made}
use Rattle.frame_history.specs.declared.entries.Change.{Change}
use Rattle.frame_history.specs.declared.entries.Change.TheVariants.{Add, Raise, Held, Retire, Behind, Dropped, Note, Open, PushFailed, Limit, Spent}
use Rattle.frame_history.specs.declared.entries.Entry.{Entry}
use Rattle.frame_history.specs.History.{BookState, start, after, changed, all_changed, ended, claim_at, is_behind, with_ended, AcceptsEach, AcceptsAll, IsLimitLeft, MayStand}
use Rattle.frame_history.proofs.Keeping.{replay-append, lawful-append}
use Rattle.frame_book.specs.declared.claim.ClaimOutcome.{ClaimOutcome}
use Rattle.frame_book.specs.Outcomes.{ComesOf}
use Rattle.book_agenda.specs.Register.{Claims}
use Rattle.frame_book.specs.Marked.{Marking, marks_of, marked, LimitIsLeft, NotesEach}
use Rattle.frame_book.specs.Steps.{framed, grows, lags, head_of, Comes, Retires, HasSettled}
use Rattle.frame_book.specs.Pages.{state_of}
use Rattle.frame_book.specs.Book.{BookView, IsBook, entered}

-- ---- Each part of the state after a change

abbrev pub growth_after : ℕ → Change → ℕ
growth_after growth d = growth + (if grows d then 1 else 0)

still : (f : FrameState) (made : List (Option Made)) (growth : ℕ) (m : Marking) →
    state_of f record { made = made; growth = growth } m ≡ state_of f record { made = made; growth = growth + 0 } m
still f made growth m = ap (λ (n : ℕ). state_of f record { made = made; growth = n } m) (sym (add-zero growth))

pub changed_is : (s : BookState) (d : Change) →
    changed s d ≡ state_of (framed s.frames d) record { made = s.claims; growth = growth_after s.growth d } (marked (marks_of s) d)
changed_is s (Add clause level parents) = refl
changed_is s (Raise n level parents) = refl
changed_is s (Held n clause level) = still s.frames s.claims s.growth (marks_of s)
changed_is s (Retire n) = still (with_retired s.frames n) s.claims s.growth (marks_of s)
changed_is s (Behind l) = still s.frames s.claims s.growth (marks_of s)
changed_is s Dropped = still s.frames s.claims s.growth (marks_of s)
changed_is s (Note j values parent first) = still (framed s.frames (Note j values parent first)) s.claims s.growth (marks_of s)
changed_is s (Open j) = still (framed s.frames (Open j)) s.claims s.growth (marks_of s)
changed_is s (PushFailed n level) = still s.frames s.claims s.growth (marked (marks_of s) (PushFailed n level))
changed_is s (Limit j) = still s.frames s.claims s.growth (marked (marks_of s) (Limit j))
changed_is s Spent = still s.frames s.claims s.growth (marked (marks_of s) Spent)

-- ---- Changes that follow

pub all_join : (s : BookState) (ds es : List Change) → all_changed s (ds ++ es) ≡ all_changed (all_changed s ds) es
all_join s [] es = refl
all_join s (d ∷ ds) es = all_join (changed s d) ds es

pub each_join : (limits : Limits) (s : BookState) (ds es : List Change) → AcceptsEach limits s ds → AcceptsEach limits (all_changed s ds) es →
    AcceptsEach limits s (ds ++ es)
each_join limits s [] es a b = b
each_join limits s (d ∷ ds) es a b = (a.0, each_join limits (changed s d) ds es a.1 b)

abbrev with_frames : BookState → FrameState → BookState
with_frames s f = record s { frames = f }

abbrev with_marks : BookState → Marking → BookState
with_marks s m = record s { failed = m.failed; limited = m.limited; spent = m.spent }

retires_is : (limits : Limits) (s : BookState) (ds : List Change) (f' : FrameState) → Retires s.frames ds f' →
    (all_changed s ds ≡ with_frames s f') × AcceptsEach limits s ds
retires_is limits s [] f' a = (ap (with_frames s) (sym a), tt)
retires_is limits s (Retire n ∷ ds) f' a =
    let r = retires_is limits (changed s (Retire n)) ds f' a.3 in
    (r.0, ((a.0, a.1, a.2), r.1))
retires_is limits s (Add clause level parents ∷ ds) f' a = absurd a
retires_is limits s (Raise n level parents ∷ ds) f' a = absurd a
retires_is limits s (Held n clause level ∷ ds) f' a = absurd a
retires_is limits s (Behind l ∷ ds) f' a = absurd a
retires_is limits s (Dropped ∷ ds) f' a = absurd a
retires_is limits s (Note j values parent first ∷ ds) f' a = absurd a
retires_is limits s (Open j ∷ ds) f' a = absurd a
retires_is limits s (PushFailed n level ∷ ds) f' a = absurd a
retires_is limits s (Limit j ∷ ds) f' a = absurd a
retires_is limits s (Spent ∷ ds) f' a = absurd a

notes_is : (limits : Limits) (s : BookState) (ds : List Change) (m' : Marking) → NotesEach limits s.frames (marks_of s) ds m' →
    (all_changed s ds ≡ with_marks s m') × AcceptsEach limits s ds
notes_is limits s [] m' a = (ap (with_marks s) (sym a), tt)
notes_is limits s (Limit j ∷ ds) m' a =
    let r = notes_is limits (changed s (Limit j)) ds m' a.1 in
    (r.0, (a.0, r.1))
notes_is limits s (Retire n ∷ ds) m' a = absurd a
notes_is limits s (Add clause level parents ∷ ds) m' a = absurd a
notes_is limits s (Raise n level parents ∷ ds) m' a = absurd a
notes_is limits s (Held n clause level ∷ ds) m' a = absurd a
notes_is limits s (Behind l ∷ ds) m' a = absurd a
notes_is limits s (Dropped ∷ ds) m' a = absurd a
notes_is limits s (Note j values parent first ∷ ds) m' a = absurd a
notes_is limits s (Open j ∷ ds) m' a = absurd a
notes_is limits s (PushFailed n level ∷ ds) m' a = absurd a
notes_is limits s (Spent ∷ ds) m' a = absurd a

-- ---- A settlement

-- what the changes of a settlement do, and that they are accepted
pub record IsSettled (limits : Limits) (s : BookState) (c : Made) (o : ClaimOutcome) (f' : FrameState) (m' : Marking) (d : Change) (changes : List Change) : Type 0 where
  pub rest : List Change
  pub are : changes ≡ d ∷ rest
  pub tells : ComesOf o d
  pub accepted : AcceptsAll limits s c changes
  pub leads : all_changed s changes ≡ state_of f' record { made = s.claims; growth = growth_after s.growth d } m'

settled_from : (limits : Limits) (s : BookState) (c : Made) (o : ClaimOutcome) (d : Change) (ds ls : List Change) (g f' : FrameState) (m' : Marking) →
    Comes s.frames c o d g → Retires g ds f' → NotesEach limits f' (marked (marks_of s) d) ls m' → ((j : ℕ) → LimitIsLeft limits f' m' j → ⊥) →
    IsSettled limits s c o f' m' d (d ∷ (ds ++ ls))
settled_from limits s c o d ds ls g f' m' h r n none =
    let cl : Claims = record { made = s.claims; growth = growth_after s.growth d } in
    let t : BookState = state_of g cl (marked (marks_of s) d) in
    let e1 : changed s d ≡ t = changed_is s d ∙ ap (λ (f : FrameState). state_of f cl (marked (marks_of s) d)) (sym h.changes) in
    let a = retires_is limits t ds f' r in
    let u : BookState = with_frames t f' in
    let b = notes_is limits u ls m' n in
    let v : BookState = state_of f' cl m' in
    let e2 : all_changed t (ds ++ ls) ≡ v = all_join t ds ls ∙ ap (λ (z : BookState). all_changed z ls) a.0 ∙ b.0 in
    let e3 : all_changed (changed s d) (ds ++ ls) ≡ v = ap (λ (z : BookState). all_changed z (ds ++ ls)) e1 ∙ e2 in
    let each : AcceptsEach limits t (ds ++ ls) = each_join limits t ds ls a.1 (subst (λ (z : BookState). AcceptsEach limits z ls) (sym a.0) b.1) in
    record {
      rest = ds ++ ls;
      are = refl;
      tells = h.tells;
      accepted = (
        h.accepted,
        subst (λ (z : BookState). AcceptsEach limits z (ds ++ ls)) (sym e1) each,
        λ j left. none j (subst (λ (z : BookState). IsLimitLeft limits z j) e3 left),
      );
      leads = e3;
    }

pub settled : (limits : Limits) (s : BookState) (c : Made) (o : ClaimOutcome) (xs ls : List Change) (f' : FrameState) (m' : Marking) →
    HasSettled s.frames c o xs f' → NotesEach limits f' (marked (marks_of s) (head_of xs)) ls m' → ((j : ℕ) → LimitIsLeft limits f' m' j → ⊥) →
    IsSettled limits s c o f' m' (head_of xs) (xs ++ ls)
settled limits s c o [] ls f' m' h n none = absurd h
settled limits s c o (d ∷ ds) ls f' m' h n none = settled_from limits s c o d ds ls h.0 f' m' h.1 h.2 n none

pub behind_is : (d : Change) (ds : List Change) → is_behind (d ∷ ds) ≡ lags d
behind_is (Add clause level parents) ds = refl
behind_is (Raise n level parents) ds = refl
behind_is (Held n clause level) ds = refl
behind_is (Retire n) ds = refl
behind_is (Behind l) ds = refl
behind_is Dropped ds = refl
behind_is (Note j values parent first) ds = refl
behind_is (Open j) ds = refl
behind_is (PushFailed n level) ds = refl
behind_is (Limit j) ds = refl
behind_is Spent ds = refl

-- the state after a settlement of claim n
pub ended_is : (limits : Limits) (s : BookState) (n : ℕ) (c : Made) (o : ClaimOutcome) (f' : FrameState) (m' : Marking) (d : Change) (changes : List Change) →
    claim_at s.claims n ≡ Some c → IsSettled limits s c o f' m' d changes →
    with_ended (all_changed s changes) n (is_behind changes)
    ≡ state_of f' record { made = set s.claims n (ended (lags d) (Some c)) ++ None ∷ []; growth = growth_after s.growth d } m'
ended_is limits s n c o f' m' d changes at h =
    let t : BookState = state_of f' record { made = s.claims; growth = growth_after s.growth d } m' in
    let b : is_behind changes ≡ lags d = ap is_behind h.are ∙ behind_is d h.rest in
    ap (λ (z : BookState). with_ended z n (is_behind changes)) h.leads ∙ ap (with_ended t n) b
    ∙ ap (λ (x : Option Made). state_of f' record { made = set s.claims n (ended (lags d) x) ++ None ∷ []; growth = growth_after s.growth d } m') at

-- ---- The book

pub book_entered : (b : BookView) (e : Entry) → IsBook b → MayStand b.limits b.state e → IsBook (entered b e)
book_entered b e h may =
    let s : BookState = start b.limits b.systems b.carried in
    record {
      carried = h.carried;
      lawful = lawful-append b.limits s b.history e h.lawful (subst (λ (z : BookState). MayStand b.limits z e) h.replayed may);
      replayed = ap (λ (z : BookState). after z e) h.replayed ∙ sym (replay-append s b.history e);
    }
