-- Signatures of clauses: words by which most clauses that are no part of another are told without a look at their
-- literals.
use Rattle.std.specs.Prelude.{◌≡◌, ◌↔◌, ℕ, ◌%◌, ◌<◌, List, length, slice_index}
use Rattle.std.specs.Int.{bit_at}
use Rattle.clause_core.specs.declared.literal.Lit.{Lit}
use Rattle.clause_core.specs.Literals.{at}
use Rattle.frame_core.specs.declared.parts.Lemma.{Lemma}
use Rattle.frame_core.specs.FrameLaw.{lemma_at}

-- the bit of a word that stands for the literal
abbrev pub bit_of : Lit → ℕ
bit_of l = l.var % 64

-- of these bits just those are set that stand for one of the first n literals
abbrev pub AreBitsOf : List Lit → ℕ → ℕ → Type 0
AreBitsOf clause n word = (i : ℕ) → (bit_at word i ≡ 1) ↔ ((k : ℕ) × (k < n) × (bit_of (at clause k) ≡ i))

-- just the bits are set that stand for a literal of the clause
abbrev pub IsSignature : List Lit → ℕ → Type 0
IsSignature clause word = AreBitsOf clause (length clause) word

-- each lemma has the signature of its clause
pub record AreSigned (lemmas : List Lemma) (signatures : List ℕ) : Type 0 where
  pub as_many : length signatures ≡ length lemmas
  pub each : (n : ℕ) → n < length lemmas → IsSignature (lemma_at lemmas n).clause (slice_index signatures n)
