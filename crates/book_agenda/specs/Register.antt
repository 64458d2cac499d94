-- The claims that were made, in their order.
use Rattle.std.specs.Prelude.{◌≡◌, ℕ, ◌+◌, ◌<◌, ◌≤◌, Bool, true, false, List, [], ◌∷◌, length, slice_index_or, if◌then◌else◌, Option, Some, None}
use Rattle.frame_history.specs.declared.entries.Subject.{Subject}
use Rattle.frame_history.specs.declared.entries.Subject.TheVariants.{Bad, Block, Push}
use Rattle.frame_history.specs.declared.entries.Made.{Made}
use Rattle.frame_history.specs.History.{claim_at}

-- for each entry the claim that it made, if it made one, and how often a lemma was added or raised
pub record Claims : Type 0 where
  pub made : List (Option Made)
  pub growth : ℕ

-- an equal claim was not made since a lemma was last added or raised, but for those that are void
abbrev pub IsNewIn : Claims → Subject → ℕ → Type 0
IsNewIn s subject level =
    (n : ℕ) (c : Made) → n < length s.made → claim_at s.made n ≡ Some c → c.subject ≡ subject → c.level ≡ level → c.growth ≡ s.growth →
    c.void ≡ true

-- whether a claim was made that is out
abbrev pub is_out : Option Made → Bool
is_out None = false
is_out (Some c) = c.out

-- how many claims are out
abbrev pub outs : List (Option Made) → ℕ
outs [] = 0
outs (m ∷ ms) = (if is_out m then 1 else 0) + outs ms

-- no claim of the subject since the last growth is of a higher level
abbrev pub IsUpTo : Claims → Subject → ℕ → Type 0
IsUpTo s subject level =
    (n : ℕ) (c : Made) → claim_at s.made n ≡ Some c → c.subject ≡ subject → c.growth ≡ s.growth → c.level ≤ level

-- of two claims of one subject the later has at least the growth, with the same growth at least the level, and is equal only where the
-- earlier is void
pub record Precedes (c d : Made) : Type 0 where
  pub growth : c.growth ≤ d.growth
  pub level : c.growth ≡ d.growth → c.level ≤ d.level
  pub void : c.growth ≡ d.growth → c.level ≡ d.level → c.void ≡ true

-- what is kept of the claims
pub record AreOrderly (s : Claims) : Type 0 where
  pub past : (n : ℕ) (c : Made) → claim_at s.made n ≡ Some c → c.growth ≤ s.growth
  pub order : (m n : ℕ) (c d : Made) → m < n → claim_at s.made m ≡ Some c → claim_at s.made n ≡ Some d → c.subject ≡ d.subject → Precedes c d
  pub out : (n : ℕ) (c : Made) → claim_at s.made n ≡ Some c → c.out ≡ true → c.void ≡ false
  pub slow : s.growth + outs s.made ≤ length s.made

-- the number that is kept for a subject
abbrev pub latest_at : List (Option ℕ) → List (Option ℕ) → List (Option ℕ) → Subject → Option ℕ
latest_at bads blocks pushes (Bad j) = slice_index_or bads j None
latest_at bads blocks pushes (Block o) = slice_index_or blocks o None
latest_at bads blocks pushes (Push n) = slice_index_or pushes n None

-- there is a place for the subject
abbrev pub IsCoveredIn : List (Option ℕ) → List (Option ℕ) → List (Option ℕ) → Subject → Type 0
IsCoveredIn bads blocks pushes (Bad j) = j < length bads
IsCoveredIn bads blocks pushes (Block o) = o < length blocks
IsCoveredIn bads blocks pushes (Push n) = n < length pushes

-- it is that of the last claim of the subject
abbrev pub IsLatest : List (Option Made) → Subject → Option ℕ → Type 0
IsLatest made subject None = (n : ℕ) (c : Made) → claim_at made n ≡ Some c → c.subject ≡ subject → ⊥
IsLatest made subject (Some l) =
    ((c : Made) × (claim_at made l ≡ Some c) × (c.subject ≡ subject))
    × ((n : ℕ) (c : Made) → claim_at made n ≡ Some c → c.subject ≡ subject → n ≤ l)

-- what the type of the claims keeps
pub record IsRegister (s : Claims) (out : ℕ) (bads blocks pushes : List (Option ℕ)) (capacity : ℕ) : Type 0 where
  pub orderly : AreOrderly s
  pub out_is : out ≡ outs s.made
  pub latest : (u : Subject) → IsLatest s.made u (latest_at bads blocks pushes u)
  pub room : length s.made + outs s.made ≤ capacity
