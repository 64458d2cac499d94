-- The work that was paid for certificates of the systems that are shown true.
use Rattle.std.specs.Prelude.{◌≡◌, ◌≢◌, ℕ, ◌+◌, ◌&&◌, nat_lt, Bool, List, [], length, map, filter, All, AllPairs, Some, slice_get}
use Rattle.clause_core.specs.declared.literal.Lit.{Lit}
use Rattle.sat_core.specs.Paying.{Query, IsPaidLog}
use Rattle.cert_core.specs.declared.form.Part.{Part}
use Rattle.cert_make.specs.Paying.{PartQuery, IsOfPart, IsWanted}
use Rattle.frame_core.specs.declared.parts.Lemma.{Lemma}
use Rattle.frame_core.specs.declared.outcomes.FramesVerdict.TheVariants.{Invariant}
use Rattle.frame_core.specs.FrameLaw.{FrameState, system_at}
use Rattle.frame_core.specs.Changes.{VerdictSays}

-- a live lemma of a greater level
abbrev pub is_above : ℕ → Lemma → Bool
is_above level l = l.live && nat_lt level l.level

-- the clauses of the live lemmas of greater levels
abbrev pub clauses_above : ℕ → List Lemma → List (List Lit)
clauses_above level lemmas = map (λ (l : Lemma). l.clause) (filter (is_above level) lemmas)

-- a query for a certificate: the number of the system, and the query with its part
pub record CertQuery : Type 0 where
  pub system : ℕ
  pub asked : PartQuery

abbrev pub queries_of : List CertQuery → List Query
queries_of log = map (λ (q : CertQuery). q.asked.query) log

-- the query is of a certificate of its system: of the clauses above a level that the frames tell as an invariant
pub record IsOfCertificate (f : FrameState) (q : CertQuery) : Type 0 where
  pub level : ℕ
  pub verdict : VerdictSays f q.system (Some (Invariant level))
  pub of_part : IsOfPart (system_at f.systems q.system) (clauses_above level f.lemmas) q.asked

-- not of one part of one system's certificate
abbrev pub DifferInPart : CertQuery → CertQuery → Type 0
DifferInPart p q = p.system ≡ q.system → p.asked.part ≢ q.asked.part

-- the queries were asked for certificates of the systems of these frames, no two for one part, and as many tickets were
-- drawn as they cost
pub record PaysCertificates (f : FrameState) (before after : List ℕ) (log : List CertQuery) : Type 0 where
  pub each : All (IsOfCertificate f) log
  pub apart : AllPairs DifferInPart log
  pub paid : IsPaidLog [] [] before after (queries_of log)

-- the frames tell an invariant of system j, but some part of its certificate was not answered: no query is of it but,
-- maybe, the last one
pub record LacksPart (f : FrameState) (log : List CertQuery) (j : ℕ) : Type 0 where
  pub level : ℕ
  pub verdict : VerdictSays f j (Some (Invariant level))
  pub part : Part
  pub wanted : IsWanted (clauses_above level f.lemmas) part
  pub last : (i : ℕ) (q : CertQuery) → slice_get log i ≡ Some q → q.system ≡ j → q.asked.part ≡ part → i + 1 ≡ length log
