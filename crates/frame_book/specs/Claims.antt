-- A claim as its worker sees it.
use Rattle.std.specs.Prelude.{◌≡◌, ℕ, Bool, List}
use Rattle.clause_core.specs.declared.literal.Lit.{Lit}
use Rattle.frame_core.specs.FrameLaw.{FrameState, lemma_at, obligation_at}
use Rattle.frame_history.specs.declared.entries.Subject.{Subject}
use Rattle.frame_history.specs.declared.entries.Subject.TheVariants.{Bad, Block, Push}
use Rattle.frame_history.specs.declared.entries.Made.{Made}
use Rattle.frame_history.specs.History.{BookState, IsOut}

-- the number of its entry, its worker, what it asks at which level, how often a lemma had been added or raised; the values of the
-- obligation that is to be blocked; the clause of the lemma that is to be pushed
pub record ClaimView : Type 0 where
  pub number : ℕ
  pub worker : ℕ
  pub subject : Subject
  pub level : ℕ
  pub growth : ℕ
  pub values : List Bool
  pub clause : List Lit

-- these are the values of the obligation, or the clause of the lemma, that the subject names
abbrev pub IsOfSubject : FrameState → Subject → List Bool → List Lit → Type 0
IsOfSubject f (Bad j) values clause = Unit {0}
IsOfSubject f (Block o) values clause = values ≡ (obligation_at f.obligations o).values
IsOfSubject f (Push n) values clause = clause ≡ (lemma_at f.lemmas n).clause

-- it is claim c, which is out here
pub record IsClaimOf (s : BookState) (v : ClaimView) (c : Made) : Type 0 where
  pub out : IsOut s v.worker v.number c
  pub subject : c.subject ≡ v.subject
  pub level : c.level ≡ v.level
  pub target : IsOfSubject s.frames v.subject v.values v.clause

-- the claim is out here
abbrev pub IsOutHere : BookState → ClaimView → Type 0
IsOutHere s v = (c : Made) × IsClaimOf s v c
