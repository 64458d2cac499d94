-- What is kept of a book beside its law.
use Rattle.std.specs.Prelude.{◌≡◌, ℕ, ◌+◌, ◌<◌, ◌≤◌, ◌^◌, Bool, List, length, Some}
use Rattle.clause_core.specs.declared.literal.Lit.{Lit}
use Rattle.clause_core.specs.Assignments.{assignment_of}
use Rattle.frame_core.specs.FrameLaw.{FrameState, top_at, lemma_at, obligation_at}
use Rattle.frame_history.specs.declared.entries.Subject.{Subject}
use Rattle.frame_history.specs.declared.entries.Subject.TheVariants.{Bad, Block, Push}
use Rattle.frame_history.specs.declared.entries.Made.{Made}
use Rattle.frame_history.specs.History.{BookState, claim_at}
use Rattle.book_agenda.specs.Values.{IsBlockedTo}
use Rattle.book_agenda.specs.Register.{Claims, outs}
use Rattle.frame_book.specs.Marked.{Marking}
use Rattle.frame_book.specs.Rooms.{Room}
use Rattle.frame_book.specs.Backed.{AreBacked}
use Rattle.frame_book.specs.Book.{BookView, IsBook}

-- the state of these frames, claims and marks
abbrev pub state_of : FrameState → Claims → Marking → BookState
state_of f claims m =
    record { frames = f; claims = claims.made; growth = claims.growth; failed = m.failed; limited = m.limited; spent = m.spent }

-- the subject and the level of a claim fit the frames
abbrev pub FitsIn : FrameState → Subject → ℕ → Type 0
FitsIn f (Bad j) level = (j < length f.systems) × (level ≤ top_at f.tops j) × (level + 1 < 2 ^ 32)
FitsIn f (Block o) level = (o < length f.obligations) × (0 < level)
FitsIn f (Push n) level = (n < length f.lemmas) × (1 < level)

-- there is such a subject
abbrev pub IsIn : FrameState → Subject → Type 0
IsIn f (Bad j) = j < length f.systems
IsIn f (Block o) = o < length f.obligations
IsIn f (Push n) = n < length f.lemmas

-- the values are those of the obligation
abbrev pub HasValues : FrameState → Subject → List Bool → Type 0
HasValues f (Bad j) values = Unit {0}
HasValues f (Block o) values = values ≡ (obligation_at f.obligations o).values
HasValues f (Push n) values = Unit {0}

-- the clause is that of the lemma
abbrev pub HasClause : FrameState → Subject → List Lit → Type 0
HasClause f (Bad j) clause = Unit {0}
HasClause f (Block o) clause = Unit {0}
HasClause f (Push n) clause = clause ≡ (lemma_at f.lemmas n).clause

-- the level of a claim is not above the one at which its subject would be claimed now
abbrev pub IsNotAbove : FrameState → Subject → ℕ → Type 0
IsNotAbove f (Bad j) level = level ≤ top_at f.tops j
IsNotAbove f (Block o) level = (b : ℕ) → IsBlockedTo f.lemmas b (assignment_of (obligation_at f.obligations o).values) → level ≤ b + 1
IsNotAbove f (Push n) level = level ≤ (lemma_at f.lemmas n).level + 1

-- each claim fits the frames, and since the last growth it is not above
pub record AreSane (f : FrameState) (claims : Claims) : Type 0 where
  pub fit : (n : ℕ) (c : Made) → claim_at claims.made n ≡ Some c → FitsIn f c.subject c.level
  pub low : (n : ℕ) (c : Made) → claim_at claims.made n ≡ Some c → c.growth ≡ claims.growth → IsNotAbove f c.subject c.level

-- what the type keeps
pub record ArePages (b : BookView) (capacity : ℕ) (rooms : Room) : Type 0 where
  pub book : IsBook b
  pub systems : b.systems ≡ b.state.frames.systems
  pub sane : AreSane b.state.frames record { made = b.state.claims; growth = b.state.growth }
  pub small : b.limits.frames + 1 < 2 ^ 32
  pub as_many : length b.state.claims ≡ length b.history
  pub limited : length b.state.limited ≡ length b.systems
  pub room : length b.history + outs b.state.claims ≤ capacity
  pub rooms' : outs b.state.claims ≤ rooms.count
  pub size : rooms.size ≡ length b.systems + 1
  pub backed : AreBacked b.limits b.state
