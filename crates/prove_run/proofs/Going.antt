-- One turn of the worker: the task that it took is settled, and the book is played on.
use Rattle.std.proofs.Common.{◌≡◌, ℕ, Bool, true, false, List, [], ◌∷◌, ◌++◌, length, set, refl, sym, subst, ap, ◌∙◌, inl, inr, arith}
use Rattle.std.specs.Prelude.{Option, Some, None, All, map}
use Rattle.std.proofs.Math.Seq.{get_or-append_seam}
use Rattle.std.proofs.lemmas.List.{append_assoc}
use Rattle.frame_core.specs.declared.parts.Lemma.{Lemma}
use Rattle.frame_core.specs.FrameLaw.{FrameState, FramesHold}
use Rattle.frame_history.specs.declared.entries.Subject.{Subject}
use Rattle.frame_history.specs.declared.entries.Made.{Made}
use Rattle.frame_history.specs.declared.entries.Change.{Change}
use Rattle.frame_history.specs.declared.entries.Entry.{Entry}
use Rattle.frame_history.specs.declared.entries.Entry.TheVariants.{Claim, Settle, Back}
use Rattle.frame_history.specs.History.{BookState, start, replay, all_changed, claim_at, ended, is_behind, IsClosed, IsLawfulClaim, IsNew, AcceptsAll}
use Rattle.frame_history.proofs.Keeping.{holds_at_start, same_systems}
use Rattle.frame_history.proofs.Waiting.{holds_all, some_is_out}
use Rattle.frame_query.specs.Findings.{SolverView, IsOlder}
use Rattle.frame_solver.specs.Paying.{AskedQuery, Pays}
use Rattle.frame_book.specs.declared.claim.ClaimOutcome.{ClaimOutcome}
use Rattle.frame_book.specs.Claims.{ClaimView, IsOfSubject, IsOutHere}
use Rattle.frame_book.specs.Outcomes.{IsOutcomeOf}
use Rattle.frame_book.specs.Book.{BookView, IsBook, SettlesBy, entered}
use Rattle.frame_claims.specs.Asking.{AnswersClaim, MayBeAsked, PaysFor}
use Rattle.frame_claims.specs.Outcomes.{IsAsked, IsThere, IsUpToDate, PaysClaim}
use Rattle.frame_claims.specs.Paying.{MayAsk, MayAskFor, IsPaidRun}
use Rattle.frame_claims.proofs.Claimed.{claims_each, changes_claims}
use Rattle.frame_claims.proofs.Outcomes.{asked_so}
use Rattle.frame_claims.proofs.Paid.{paid_claim, by_claim}
use Rattle.frame_claims.proofs.Taken.{may_be_asked, paid_so, there_by}
use Rattle.frame_claims.proofs.Turned.{older_all, not_behind, spent_all, all_ended}
use Rattle.prove_run.specs.Playing.{IsPlayed, IsTaken, IsSettled}

-- ---- What the book keeps

pub book_holds : (b : BookView) → IsBook b → FramesHold b.state.frames
book_holds b is =
    subst (λ (s : BookState). FramesHold s.frames) (sym is.replayed)
    (holds_all b.limits (start b.limits b.systems b.carried) b.history (holds_at_start b.systems b.carried is.carried) is.lawful)

pub book_systems : (b : BookView) → IsBook b → b.state.frames.systems ≡ b.systems
book_systems b is = ap (λ (s : BookState). s.frames.systems) is.replayed ∙ same_systems (start b.limits b.systems b.carried) b.history

-- ---- Idle cannot be

out_none : true ≡ false → ⊥
out_none e = let h : true ≡ false = e in cc

-- where no claim is out, and none is lawful, the book is closed
pub idle_never : (old : List ℕ) (b : BookView) (v : SolverView) (tickets : List ℕ) (over : Bool) → IsPlayed old b v tickets over → (IsClosed b.state → ⊥) →
    ((u : Subject) (level : ℕ) → IsLawfulClaim b.limits b.state u level → ⊥) → ⊥
idle_never old b v tickets over h still_open none =
    let s : BookState = replay (start b.limits b.systems b.carried) b.history in
    let is : b.state ≡ s = h.book.replayed in
    let out = some_is_out b.limits b.systems b.carried b.history h.book.carried h.book.lawful
    (λ closed. still_open (subst IsClosed (sym is) closed))
    (λ u level lawful. none u level (subst (λ (z : BookState). IsLawfulClaim b.limits z u level) (sym is) lawful)) in
    let there : claim_at b.state.claims out.0 ≡ Some out.1 = subst (λ (z : BookState). claim_at z.claims out.0 ≡ Some out.1) (sym is) out.2 in
    out_none (sym out.3 ∙ (h.ended out.0 out.1 there).0)

-- ---- What a task asks is there

module _ (old : List ℕ) (b : BookView) (c : ClaimView) (v : SolverView) (tickets : List ℕ) (over : Bool) (t : IsTaken old b c v tickets over) where
  -- the frames are as they were before the claim
  same_frames : b.state.frames ≡ t.earlier.state.frames
  same_frames = ap (λ (z : BookView). z.state.frames) t.claims.1

  taken_holds : FramesHold b.state.frames
  taken_holds = subst FramesHold (sym same_frames) (book_holds t.earlier t.played.book)

  -- the lemmas of the solver are older than those of the frames, which are over its state bits
  pub taken_older : IsOlder v.lemmas b.state.frames.lemmas
  taken_older = subst (λ (f : FrameState). IsOlder v.lemmas f.lemmas) (sym same_frames) t.played.older

  pub taken_systems : v.systems ≡ b.state.frames.systems
  taken_systems = t.played.systems ∙ sym (book_systems t.earlier t.played.book) ∙ sym (ap (λ (f : FrameState). f.systems) same_frames)

  pub taken_same : b.state.frames.systems ≡ b.systems
  taken_same = sym taken_systems ∙ t.played.systems ∙ sym (ap (λ (z : BookView). z.systems) t.claims.1)

  pub taken_asks : (w : SolverView) → IsUpToDate b.state.frames w → MayBeAsked w c c.subject
  taken_asks w up =
      may_be_asked t.earlier.limits t.earlier.state c w (book_holds t.earlier t.played.book) (subst (λ (f : FrameState). IsUpToDate f w) same_frames up)
      t.claims.0.task t.claims.5

  target : IsOfSubject b.state.frames c.subject c.values c.clause
  target = subst (λ (f : FrameState). IsOfSubject f c.subject c.values c.clause) (sym same_frames) t.claims.5

  pub taken_asked : (w : SolverView) (later : Bool) (o : ClaimOutcome) → IsUpToDate b.state.frames w → AnswersClaim w c c.subject later o → IsAsked b.state.frames c later o
  taken_asked w later o up answer =
      let f : FrameState = b.state.frames in
      let there = subst (λ (z : FrameState). IsThere z c.subject) (sym same_frames) (there_by t.earlier.limits t.earlier.state c.subject c.level t.claims.0.task) in
      asked_so f c w later o taken_holds up there target answer

  pub taken_pays : (w x : SolverView) (before after : List ℕ) → IsUpToDate b.state.frames w → PaysFor w x before after (MayAskFor c c.subject) →
      PaysClaim b.state.frames c w.known x.known before after
  taken_pays w x before after up pays = paid_so b.state.frames c w x before after up target pays

-- ---- The claim is out

last_claim : (claims : List (Option Made)) (n : ℕ) (d : Made) → n ≡ length claims → claim_at (claims ++ Some d ∷ []) n ≡ Some d
last_claim claims n d e = rw e (get_or-append_seam claims (Some d) [] None)

numbered : (b : BookView) → IsBook b → length b.state.claims ≡ length b.history
numbered b is =
    let e = ap (λ (s : BookState). length s.claims) is.replayed in
    omega (arith, claims_each (start b.limits b.systems b.carried) b.history)

pub taken_out : (old : List ℕ) (b : BookView) (c : ClaimView) (v : SolverView) (tickets : List ℕ) (over : Bool) → IsTaken old b c v tickets over → IsOutHere b.state c
taken_out old b c v tickets over t =
    let e : BookView = t.earlier in
    let d : Made = record { worker = 0; subject = c.subject; level = c.level; growth = e.state.growth; out = true; void = false } in
    let at : c.number ≡ length e.state.claims = t.claims.2 ∙ sym (numbered e t.played.book) in
    let there : claim_at (e.state.claims ++ Some d ∷ []) c.number ≡ Some d = last_claim e.state.claims c.number d at in
    let here : IsOutHere (entered e (Claim 0 c.subject c.level)).state c =
    (d, record { out = (there, refl, sym t.claims.3); subject = refl; level = refl; target = t.claims.5 }) in
    subst (λ (z : BookView). IsOutHere z.state c) (sym t.claims.1) here

-- ---- The turn

-- no claim of these is out or void, once claim n is ended
abbrev pub EndsAll : List (Option Made) → ℕ → Bool → Type 0
EndsAll claims n void = (m : ℕ) (c : Made) → claim_at (set claims n (ended void (claim_at claims n)) ++ None ∷ []) m ≡ Some c →
    (c.out ≡ false) × (c.void ≡ false)

-- the book that the task was taken from, with the claim
abbrev pub with_claim : BookView → ClaimView → BookView
with_claim e c = entered e (Claim 0 c.subject c.level)

pub turned : (old : List ℕ) (e : BookView) (c : ClaimView) (v w : SolverView) (before after : List ℕ) (over later : Bool) (o : ClaimOutcome) (entry : Entry) →
    IsPlayed old e v before over → IsLawfulClaim e.limits e.state c.subject c.level → c.number ≡ length e.history → IsAsked e.state.frames c later o →
    PaysClaim e.state.frames c v.known w.known before after → w.systems ≡ v.systems → w.lemmas ≡ e.state.frames.lemmas →
    SettlesBy (with_claim e c) c o entry → IsBook (entered (with_claim e c) entry) → IsPlayed old (entered (with_claim e c) entry) w after later
turned old e c v w before after over later o (Claim worker u level) h lawful number asked paid systems lemmas by book = absurd by
turned old e c v w before after over later o (Back worker n) h lawful number asked paid systems lemmas by book = absurd by
turned old e c v w before after over later o (Settle worker n changes) h lawful number asked paid systems lemmas by book =
    let s : BookState = e.state in
    let first : BookState = start e.limits e.systems e.carried in
    let is : s ≡ replay first e.history = h.book.replayed in
    let N : BookState = (with_claim e c).state in
    let x = by.2 in
    let made : Made = x.0 in
    let d : Change = x.1 in
    let ds : List Change = x.2 in
    let all : AcceptsAll e.limits N made (d ∷ ds) = subst (AcceptsAll e.limits N made) x.4 x.6 in
    let systems_are = book_systems e h.book in
    let of : IsOutcomeOf s.frames.systems c c.subject o = asked.of in
    let clear : is_behind (d ∷ ds) ≡ false = not_behind s.frames c made o d ds of asked.timely x.3.subject x.3.level x.5 all.0 in
    let void : is_behind changes.items ≡ false = ap is_behind x.4 ∙ clear in
    let T : BookState = all_changed N changes.items in
    let d0 : Made = record { worker = 0; subject = c.subject; level = c.level; growth = s.growth; out = true; void = false } in
    let more : List (Option Made) = s.claims ++ Some d0 ∷ [] in
    let same_claims : T.claims ≡ more = changes_claims N changes.items in
    let at : n ≡ length s.claims = by.1 ∙ number ∙ sym (numbered e h.book) in
    let ends : EndsAll more (length s.claims) false = all_ended s.claims d0 h.ended in
    let ends' : EndsAll T.claims n (is_behind changes.items) =
    subst (λ (b : Bool). EndsAll T.claims n b) (sym void) (subst (λ (k : ℕ). EndsAll T.claims k false) (sym at)
    (subst (λ (z : List (Option Made)). EndsAll z (length s.claims) false) (sym same_claims) ends)) in
    let older : IsOlder s.frames.lemmas T.frames.lemmas = older_all e.limits N made changes.items x.6 in
    let new : IsNew (replay first e.history) c.subject c.level = subst (λ (z : BookState). IsNew z c.subject c.level) is lawful.new in
    let none_void : (m : ℕ) (z : Made) → claim_at (replay first e.history).claims m ≡ Some z → z.void ≡ false = λ m z there.
    (h.ended m z (subst (λ (y : BookState). claim_at y.claims m ≡ Some z) (sym is) there)).1 in
    let P : BookState → Type 0 = λ z. Pays z.frames.systems z.frames.lemmas v.known w.known before after paid.0 in
    let M : BookState → Type 0 = λ z. All (λ (a : AskedQuery). MayAsk z.frames c.subject c.level a.question) paid.0 in
    let entry : Entry = Settle worker n changes in
    let run : IsPaidRun first (e.history ++ Claim 0 c.subject c.level ∷ entry ∷ []) w.known old after (h.log ++ map (by_claim (length e.history)) paid.0) =
    paid_claim first e.history (entry ∷ []) 0 c.subject c.level v.known w.known old before after h.log paid.0 h.paid new none_void (subst P is paid.1) paid.2
    (subst M is paid.3) in
    record {
      book = book;
      systems = systems ∙ h.systems;
      older = subst (λ (z : List Lemma). IsOlder z T.frames.lemmas) (sym lemmas) older;
      ended = ends';
      spent = λ on.
          (let on' : (all_changed N (d ∷ ds)).spent ≡ true = subst (λ (z : List Change). (all_changed N z).spent ≡ true) x.4 on in
          elim (spent_all e.limits N o d ds later x.5 asked.spent all.1 on') [
            | inl was ↦ absurd (lawful.still_open (inl was))
            | inr now ↦ now
          ]);
      log = h.log ++ map (by_claim (length e.history)) paid.0;
      paid = subst (λ (z : List Entry). IsPaidRun first z w.known old after (h.log ++ map (by_claim (length e.history)) paid.0))
          (sym (append_assoc e.history (Claim 0 c.subject c.level ∷ []) (entry ∷ []))) run;
    }

-- the same of a task that was taken and a book that is the later one now
pub went_on : (old : List ℕ) (b now : BookView) (c : ClaimView) (v w : SolverView) (before after : List ℕ) (over later : Bool) (o : ClaimOutcome) → IsTaken old b c v before over →
    IsAsked b.state.frames c later o → PaysClaim b.state.frames c v.known w.known before after → w.systems ≡ v.systems →
    w.lemmas ≡ b.state.frames.lemmas → IsSettled b c o now → IsBook now → IsPlayed old now w after later
went_on old b now c v w before after over later o t asked paid systems lemmas settled book =
    let e : BookView = t.earlier in
    let is : b ≡ with_claim e c = t.claims.1 in
    let by : SettlesBy (with_claim e c) c o settled.0 = subst (λ (z : BookView). SettlesBy z c o settled.0) is settled.1 in
    let now_is : now ≡ entered (with_claim e c) settled.0 = settled.2 ∙ ap (λ (z : BookView). entered z settled.0) is in
    let done = turned old e c v w before after over later o settled.0 t.played t.claims.0 t.claims.2
    (subst (λ (z : BookView). IsAsked z.state.frames c later o) is asked)
    (subst (λ (z : BookView). PaysClaim z.state.frames c v.known w.known before after) is paid) systems
    (lemmas ∙ ap (λ (z : BookView). z.state.frames.lemmas) is) by (subst IsBook now_is book) in
    subst (λ (z : BookView). IsPlayed old z w after later) (sym now_is) done
