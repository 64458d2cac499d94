-- A book that one worker plays alone.
use Rattle.std.specs.Prelude.{◌≡◌, ℕ, Bool, true, false, List, Some}
use Rattle.frame_history.specs.declared.entries.Made.{Made}
use Rattle.frame_history.specs.declared.entries.Entry.{Entry}
use Rattle.frame_history.specs.History.{start, claim_at}
use Rattle.frame_query.specs.Findings.{SolverView, IsOlder}
use Rattle.frame_book.specs.declared.claim.Claiming.TheVariants.{Task}
use Rattle.frame_book.specs.declared.claim.ClaimOutcome.{ClaimOutcome}
use Rattle.frame_book.specs.Claims.{ClaimView}
use Rattle.frame_book.specs.Book.{BookView, IsBook, Claims, SettlesBy, entered}
use Rattle.frame_claims.specs.Paying.{ClaimQuery, IsPaidRun}

-- no claim is out or void; the solver has the systems, and the lemmas as they were; that the purse was spent is noted
-- only where it was; and what was drawn since `old` was paid for queries of the history's claims, no two of which have
-- one key
pub record IsPlayed (old : List ℕ) (b : BookView) (v : SolverView) (tickets : List ℕ) (over : Bool) : Type 0 where
  pub book : IsBook b
  pub systems : v.systems ≡ b.systems
  pub older : IsOlder v.lemmas b.state.frames.lemmas
  pub ended : (n : ℕ) (c : Made) → claim_at b.state.claims n ≡ Some c → (c.out ≡ false) × (c.void ≡ false)
  pub spent : b.state.spent ≡ true → over ≡ true
  pub log : List ClaimQuery
  pub paid : IsPaidRun (start b.limits b.systems b.carried) b.history v.known old tickets log

-- the worker has just taken this task of the book, which it played until then
pub record IsTaken (old : List ℕ) (b : BookView) (c : ClaimView) (v : SolverView) (tickets : List ℕ) (over : Bool) : Type 0 where
  pub earlier : BookView
  pub played : IsPlayed old earlier v tickets over
  pub claims : Claims earlier 0 (Task c) b

-- the claim was settled by this outcome
abbrev pub IsSettled : BookView → ClaimView → ClaimOutcome → BookView → Type 0
IsSettled b c o now = (e : Entry) × SettlesBy b c o e × (now ≡ entered b e)
