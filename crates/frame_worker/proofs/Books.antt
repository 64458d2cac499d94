-- What a book keeps, said of what exploring began with.
use Rattle.std.proofs.Common.{◌≡◌, ℕ, List, [], ◌∷◌, ◌++◌, sym, subst, ap, ◌∙◌}
use Rattle.std.specs.Prelude.{Option, Some, IfSome}
use mathlib.Core.List.{IsPrefix}
use Rattle.clause_core.specs.Systems.{TransitionSystem}
use Rattle.frame_core.specs.declared.parts.Lemma.{Lemma}
use Rattle.frame_core.specs.FrameLaw.{FrameState, FramesHold}
use Rattle.frame_history.specs.declared.entries.Limits.{Limits}
use Rattle.frame_history.specs.declared.entries.Entry.{Entry}
use Rattle.frame_history.specs.declared.entries.Entry.TheVariants.{Claim}
use Rattle.frame_history.specs.History.{BookState, start, replay, IsLawful, IsOpenTask}
use Rattle.frame_history.proofs.Keeping.{holds_at_start, same_systems}
use Rattle.frame_history.proofs.Waiting.{holds_all}
use Rattle.frame_query.specs.Findings.{SolverView, IsOlder}
use Rattle.frame_book.specs.declared.claim.Claiming.TheVariants.{Task}
use Rattle.frame_book.specs.Claims.{ClaimView, IsOfSubject}
use Rattle.frame_book.specs.Book.{BookView, IsBook, Claims}
use Rattle.frame_claims.specs.Outcomes.{IsUpToDate}
use Rattle.frame_claims.proofs.Histories.{lawful_split, older_in, replay-join}
use Rattle.frame_claims.proofs.Turned.{older_then}
use Rattle.frame_worker.specs.Working.{Follows, IsClaimed}

pub book_holds : (b : BookView) → IsBook b → FramesHold b.state.frames
book_holds b is =
    subst (λ (s : BookState). FramesHold s.frames) (sym is.replayed)
    (holds_all b.limits (start b.limits b.systems b.carried) b.history (holds_at_start b.systems b.carried is.carried) is.lawful)

pub book_systems : (b : BookView) → IsBook b → b.state.frames.systems ≡ b.systems
book_systems b is = ap (λ (s : BookState). s.frames.systems) is.replayed ∙ same_systems (start b.limits b.systems b.carried) b.history

-- the book began with these
pub record BeganWith (systems : List TransitionSystem) (limits : Limits) (carried : List Lemma) (b : BookView) : Type 0 where
  pub systems_are : b.systems ≡ systems
  pub limits_are : b.limits ≡ limits
  pub carried_are : b.carried ≡ carried

pub first_of : (systems : List TransitionSystem) (limits : Limits) (carried : List Lemma) (b : BookView) → BeganWith systems limits carried b →
    start b.limits b.systems b.carried ≡ start limits systems carried
first_of systems limits carried b w =
    ap (λ (z : Limits). start z b.systems b.carried) w.limits_are ∙ ap (λ (z : List TransitionSystem). start limits z b.carried) w.systems_are
    ∙ ap (λ (z : List Lemma). start limits systems z) w.carried_are

-- its state is what its history leads to
pub state_of : (systems : List TransitionSystem) (limits : Limits) (carried : List Lemma) (b : BookView) → BeganWith systems limits carried b → IsBook b →
    b.state ≡ replay (start limits systems carried) b.history
state_of systems limits carried b w is = is.replayed ∙ ap (λ (z : BookState). replay z b.history) (first_of systems limits carried b w)

pub lawful_of : (systems : List TransitionSystem) (limits : Limits) (carried : List Lemma) (b : BookView) → BeganWith systems limits carried b → IsBook b →
    IsLawful limits (start limits systems carried) b.history
lawful_of systems limits carried b w is =
    subst (λ (z : Limits). IsLawful z (start limits systems carried) b.history) w.limits_are
    (subst (λ (z : BookState). IsLawful b.limits z b.history) (first_of systems limits carried b w) is.lawful)

-- ---- A claim that was just made

pub claimed_by : (systems : List TransitionSystem) (limits : Limits) (carried : List Lemma) (b now : BookView) (worker : ℕ) (c : ClaimView) (before after : List Entry) →
    BeganWith systems limits carried b → IsBook b → Claims b worker (Task c) now → before ≡ b.history → after ≡ now.history →
    IsClaimed limits (start limits systems carried) worker c before after
claimed_by systems limits carried b now worker c before after w is claims here there =
    let first : BookState = start limits systems carried in
    let state : b.state ≡ replay first before = state_of systems limits carried b w is ∙ ap (λ (z : List Entry). replay first z) (sym here) in
    let more : now.history ≡ before ++ Claim worker c.subject c.level ∷ [] =
    ap (λ (z : BookView). z.history) claims.1 ∙ ap (λ (z : List Entry). z ++ Claim worker c.subject c.level ∷ []) (sym here) in
    record {
      entry = there ∙ more;
      law = subst (λ (s : BookState). FramesHold s.frames) state (book_holds b is);
      task = subst (λ (s : BookState). IsOpenTask limits s c.subject c.level) state
          (subst (λ (z : Limits). IsOpenTask z b.state c.subject c.level) w.limits_are claims.0.task);
      target = subst (λ (s : BookState). IsOfSubject s.frames c.subject c.values c.clause) state claims.5;
    }

-- ---- More of the history

-- a solver follows a lawful history as it goes on
pub follows_on : (limits : Limits) (systems : List TransitionSystem) (first : BookState) (h now : List Entry) (v : SolverView) → IsLawful limits first now →
    IsPrefix h now → Follows systems (replay first h) v → Follows systems (replay first now) v
follows_on limits systems first h now v lawful pre f =
    let rest : List Entry = pre.0 in
    let both : IsLawful limits first (h ++ rest) = subst (IsLawful limits first) (sym pre.1) lawful in
    let s : BookState = replay first h in
    let t : BookState = replay s rest in
    let same : t ≡ replay first now = sym (replay-join first h rest) ∙ ap (replay first) pre.1 in
    let later : IsOlder s.frames.lemmas t.frames.lemmas = older_in limits s rest (lawful_split limits first h rest both).1 in
    record {
      same = f.same;
      older = subst (λ (z : BookState). IsOlder v.lemmas z.frames.lemmas) same (older_then v.lemmas s.frames.lemmas t.frames.lemmas f.older later);
    }

-- it has the systems of the book's frames, and lemmas that are older than theirs
pub follows_book : (systems : List TransitionSystem) (limits : Limits) (carried : List Lemma) (b : BookView) (h : List Entry) (v : SolverView) →
    BeganWith systems limits carried b → IsBook b → IsPrefix h b.history → Follows systems (replay (start limits systems carried) h) v →
    (v.systems ≡ b.state.frames.systems) × IsOlder v.lemmas b.state.frames.lemmas
follows_book systems limits carried b h v w is pre f =
    let first : BookState = start limits systems carried in
    let now = follows_on limits systems first h b.history v (lawful_of systems limits carried b w is) pre f in
    let state = state_of systems limits carried b w is in (
      f.same ∙ sym w.systems_are ∙ sym (book_systems b is),
      subst (λ (s : BookState). IsOlder v.lemmas s.frames.lemmas) (sym state) now.older,
    )

-- a solver that has the lemmas of the book has those that its history led to
pub up_to_book : (systems : List TransitionSystem) (limits : Limits) (carried : List Lemma) (b : BookView) (front : List Entry) (v : SolverView) →
    BeganWith systems limits carried b → IsBook b → front ≡ b.history → v.systems ≡ b.state.frames.systems → v.lemmas ≡ b.state.frames.lemmas →
    IsUpToDate (replay (start limits systems carried) front).frames v
up_to_book systems limits carried b front v w is here same lemmas =
    let first : BookState = start limits systems carried in
    let state : b.state ≡ replay first front = state_of systems limits carried b w is ∙ ap (λ (z : List Entry). replay first z) (sym here) in
    subst (λ (s : BookState). IsUpToDate s.frames v) state record { systems = same; lemmas = lemmas }

-- the same of a desk, whose book it is that a solver follows
pub follows_desk : (systems : List TransitionSystem) (limits : Limits) (carried : List Lemma) (b : BookView) (f : FrameState) (h front : List Entry) (o : Option SolverView)
    (v : SolverView) → BeganWith systems limits carried b → IsBook b → f ≡ b.state.frames → IsPrefix h front → front ≡ b.history → o ≡ Some v →
    IfSome o (Follows systems (replay (start limits systems carried) h)) → (v.systems ≡ f.systems) × IsOlder v.lemmas f.lemmas
follows_desk systems limits carried b f h front o v w is same pre here some follows =
    let F : SolverView → Type 0 = Follows systems (replay (start limits systems carried) h) in
    let pre' : IsPrefix h b.history = subst (λ (z : List Entry). IsPrefix h z) here pre in
    let both = follows_book systems limits carried b h v w is pre' (subst (λ (z : Option SolverView). IfSome z F) some follows) in
    subst (λ (z : FrameState). (v.systems ≡ z.systems) × IsOlder v.lemmas z.lemmas) (sym same) both
