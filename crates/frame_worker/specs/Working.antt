-- What workers own, and what holds of it between tasks, with a task, and with what came of one.
use Rattle.std.specs.Prelude.{◌≡◌, ℕ, ◌+◌, ◌<◌, ◌^◌, List, [], ◌∷◌, ◌++◌, length, Option, Some, None, IfSome}
use Rattle.clause_core.specs.declared.literal.Lit.{Lit}
use Rattle.clause_core.specs.Systems.{TransitionSystem}
use Rattle.effort_purse.specs.declared.seat.Seat.{Seat}
use Rattle.effort_purse.specs.declared.shared.SharedPurse.{SharedPurse}
use Rattle.effort_purse.specs.Seats.{IsSeatOf, shares_of, tickets_of}
use Rattle.frame_core.specs.FrameLaw.{FramesHold}
use Rattle.frame_history.specs.declared.entries.Limits.{Limits}
use Rattle.frame_history.specs.declared.entries.Entry.{Entry}
use Rattle.frame_history.specs.declared.entries.Entry.TheVariants.{Claim}
use Rattle.frame_history.specs.History.{BookState, replay, IsOpenTask}
use Rattle.frame_query.specs.Findings.{SolverView, IsOlder}
use Rattle.frame_book.specs.declared.claim.ClaimOutcome.{ClaimOutcome}
use Rattle.frame_book.specs.Claims.{ClaimView, IsOfSubject}
use Rattle.frame_book.specs.Outcomes.{IsOutcomeOf}
use Rattle.frame_claims.specs.Lists.{ArePaidLists}
use Rattle.frame_claims.specs.Outcomes.{IsUpToDate}
use Rattle.frame_claims.specs.Paying.{ClaimQuery}

-- what some workers own: their seat, how many parts of the ledger, the history as far as it was seen, a solver where
-- there is one; the number of the first of them, and how many they are
pub record HandView : Type 0 where
  pub seat : Seat
  pub share : ℕ
  pub front : List Entry
  pub solver : Option SolverView
  pub first : ℕ
  pub parts : ℕ

abbrev pub hand : Seat → ℕ → List Entry → Option SolverView → ℕ → ℕ → HandView
hand seat share front solver first parts =
    record { seat = seat; share = share; front = front; solver = solver; first = first; parts = parts }

-- the learned clauses that later queries may use
abbrev pub known_of : Option SolverView → List (List Lit)
known_of None = []
known_of (Some v) = v.known

-- a solver of the systems, with the lemmas as they were
pub record Follows (systems : List TransitionSystem) (s : BookState) (v : SolverView) : Type 0 where
  pub same : v.systems ≡ systems
  pub older : IsOlder v.lemmas s.frames.lemmas

-- a seat of the purse, with a share and a part of the ledger for each worker
pub record HasParts (purse : SharedPurse) (h : HandView) : Type 0 where
  pub own : IsSeatOf purse h.seat
  pub shares : shares_of h.seat ≡ h.parts
  pub share_is : h.share ≡ h.parts
  pub some : 0 < h.parts
  pub fits : h.first + h.parts < 2 ^ 32

-- nothing was done yet
pub record IsFresh (purse : SharedPurse) (h : HandView) : Type 0 where
  pub has : HasParts purse h
  pub none : h.solver ≡ None
  pub unused : tickets_of h.seat ≡ []

-- the solver has the systems and the lemmas as they were, and what was drawn was paid for queries of claims of these
-- workers
pub record IsHeld (systems : List TransitionSystem) (first : BookState) (purse : SharedPurse) (h : HandView) : Type 0 where
  pub has : HasParts purse h
  pub follows : IfSome h.solver (Follows systems (replay first h.front))
  pub own : List ClaimQuery
  pub others : List (List ClaimQuery)
  pub lists : ArePaidLists first h.front h.first h.parts (known_of h.solver) (length (tickets_of h.seat)) own others

-- the claim was made by the last entry, for this worker
pub record IsClaimed (limits : Limits) (first : BookState) (worker : ℕ) (c : ClaimView) (earlier now : List Entry) : Type 0 where
  pub entry : now ≡ earlier ++ Claim worker c.subject c.level ∷ []
  pub law : FramesHold (replay first earlier).frames
  pub task : IsOpenTask limits (replay first earlier) c.subject c.level
  pub target : IsOfSubject (replay first earlier).frames c.subject c.values c.clause

-- the solver has the lemmas of the frames
abbrev pub HasAll : BookState → Option SolverView → Type 0
HasAll s solver = (v : SolverView) × (solver ≡ Some v) × IsUpToDate s.frames v

-- the worker has just taken this task
pub record IsTaken (systems : List TransitionSystem) (limits : Limits) (first : BookState) (purse : SharedPurse) (h : HandView) (c : ClaimView) : Type 0 where
  pub earlier : List Entry
  pub held : IsHeld systems first purse (hand h.seat h.share earlier h.solver h.first h.parts)
  pub up : HasAll (replay first earlier) h.solver
  pub claimed : IsClaimed limits first h.first c earlier h.front

-- this came of the task
pub record IsAnswered (systems : List TransitionSystem) (first : BookState) (purse : SharedPurse) (h : HandView) (c : ClaimView) (o : Option ClaimOutcome) : Type 0 where
  pub held : IsHeld systems first purse h
  pub outcome : IfSome o (IsOutcomeOf systems c c.subject)
