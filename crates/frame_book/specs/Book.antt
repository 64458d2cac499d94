-- What contracts see of a book, and what its calls answer and change.
use Rattle.std.specs.Prelude.{◌≡◌, ℕ, ◌+◌, true, List, [], ◌∷◌, ◌++◌, length, Some}
use Rattle.clause_core.specs.Systems.{TransitionSystem}
use Rattle.frame_core.specs.declared.parts.Lemma.{Lemma}
use Rattle.frame_history.specs.declared.entries.Limits.{Limits}
use Rattle.frame_history.specs.declared.entries.Subject.{Subject}
use Rattle.frame_history.specs.declared.entries.Subject.TheVariants.{Bad, Block, Push}
use Rattle.frame_history.specs.declared.entries.Made.{Made}
use Rattle.frame_history.specs.declared.entries.Change.{Change}
use Rattle.frame_history.specs.declared.entries.Entry.{Entry}
use Rattle.frame_history.specs.declared.entries.Entry.TheVariants.{Claim, Settle, Back}
use Rattle.frame_history.specs.History.{BookState, start, replay, after, claim_at, IsClosed, IsLawfulClaim, IsLawful, AreCarried, AcceptsAll}
use Rattle.frame_book.specs.declared.claim.ClaimOutcome.{ClaimOutcome}
use Rattle.frame_book.specs.declared.claim.Claiming.{Claiming}
use Rattle.frame_book.specs.declared.claim.Claiming.TheVariants.{Task, Idle, Closed}
use Rattle.frame_book.specs.declared.claim.Settling.{Settling}
use Rattle.frame_book.specs.declared.claim.Settling.TheVariants as settling
use Rattle.frame_book.specs.declared.claim.Returning.{Returning}
use Rattle.frame_book.specs.declared.claim.Returning.TheVariants as returning
use Rattle.frame_book.specs.Claims.{ClaimView, IsOfSubject, IsClaimOf, IsOutHere}
use Rattle.frame_book.specs.Outcomes.{ComesOf}

-- a book: its systems, its limits, the lemmas that were carried into it, its history, and the state that this leads to
pub record BookView : Type 0 where
  pub systems : List TransitionSystem
  pub limits : Limits
  pub carried : List Lemma
  pub history : List Entry
  pub state : BookState

-- what every book keeps
pub record IsBook (b : BookView) : Type 0 where
  pub carried : AreCarried b.systems b.carried
  pub lawful : IsLawful b.limits (start b.limits b.systems b.carried) b.history
  pub replayed : b.state ≡ replay (start b.limits b.systems b.carried) b.history

-- the book before all entries
abbrev pub opened : List TransitionSystem → Limits → List Lemma → BookView
opened systems limits carried =
    record { systems = systems; limits = limits; carried = carried; history = []; state = start limits systems carried }

-- the book with one entry more
abbrev pub entered : BookView → Entry → BookView
entered b e = record b { history = b.history ++ e ∷ []; state = after b.state e }

-- 1 for a settlement
abbrev pub counts_as : Entry → ℕ
counts_as (Settle worker n changes) = 1
counts_as (Claim worker subject level) = 0
counts_as (Back worker n) = 0

-- how many settlements there are
abbrev pub settlements : List Entry → ℕ
settlements [] = 0
settlements (e ∷ es) = counts_as e + settlements es

-- a task is a lawful claim, which is entered; nothing else is entered. Idle: not closed, no claim is lawful, and one is out. Closed: the
-- history is
abbrev pub Claims : BookView → ℕ → Claiming → BookView → Type 0
Claims before worker (Task c) now =
    IsLawfulClaim before.limits before.state c.subject c.level × (now ≡ entered before (Claim worker c.subject c.level))
    × (c.number ≡ length before.history) × (c.worker ≡ worker) × (c.growth ≡ before.state.growth)
    × IsOfSubject before.state.frames c.subject c.values c.clause
Claims before worker Idle now =
    (IsClosed before.state → ⊥) × ((u : Subject) (level : ℕ) → IsLawfulClaim before.limits before.state u level → ⊥)
    × ((n : ℕ) × (c : Made) × (claim_at before.state.claims n ≡ Some c) × (c.out ≡ true)) × (now ≡ before)
Claims before worker Closed now = IsClosed before.state × (now ≡ before)

-- the entry settles this claim with changes that come of the outcome
abbrev pub SettlesBy : BookView → ClaimView → ClaimOutcome → Entry → Type 0
SettlesBy before v o (Settle worker n changes) =
    (worker ≡ v.worker) × (n ≡ v.number)
    × ((c : Made) × (d : Change) × (ds : List Change) × IsClaimOf before.state v c × (changes.items ≡ d ∷ ds) × ComesOf o d
    × AcceptsAll before.limits before.state c changes.items)
SettlesBy before v o (Claim worker subject level) = ⊥
SettlesBy before v o (Back worker n) = ⊥

-- settled: the claim was out here, and one settlement is entered; not out: it was not, and nothing changes
abbrev pub Settles : BookView → ClaimView → ClaimOutcome → Settling → BookView → Type 0
Settles before v o settling.Settled now = IsOutHere before.state v × ((e : Entry) × SettlesBy before v o e × (now ≡ entered before e))
Settles before v o (settling.NotOut n) now = (n ≡ v.number) × (IsOutHere before.state v → ⊥) × (now ≡ before)

-- the share grows by one where the claim was settled
abbrev pub grown_by : Settling → ℕ
grown_by settling.Settled = 1
grown_by (settling.NotOut n) = 0

-- back: the claim was out here, and that is entered; not out: it was not, and nothing changes
abbrev pub Returns : BookView → ClaimView → Returning → BookView → Type 0
Returns before v returning.Back now = IsOutHere before.state v × (now ≡ entered before (Back v.worker v.number))
Returns before v (returning.NotOut n) now = (n ≡ v.number) × (IsOutHere before.state v → ⊥) × (now ≡ before)

-- the claim pushes a lemma
abbrev pub IsPush : Subject → Type 0
IsPush (Push n) = Unit {0}
IsPush (Bad j) = ⊥
IsPush (Block o) = ⊥
