-- Proofs of lemmas that are kept, to be used again at higher levels.
use Rattle.std.specs.Prelude.{◌≡◌, ℕ, ◌+◌, ◌<◌, List, All, Option, Some, None, length, map, slice_index_or}
use Rattle.clause_core.specs.declared.literal.Lit.{Lit}
use Rattle.clause_core.specs.Systems.{TransitionSystem}
use Rattle.frame_core.specs.declared.parts.Lemma.{Lemma}
use Rattle.frame_core.specs.declared.parts.Parent.{Parent}
use Rattle.frame_core.specs.Facts.{IsProved, ProvedClause}
use Rattle.frame_core.specs.FrameLaw.{lemma_at, AllStand}
use Rattle.frame_query.specs.declared.kept_proofs.KeptProof.{KeptProof}

-- lemma k as a parent
abbrev pub parent_at : List Lemma → ℕ → Parent
parent_at lemmas k = record { number = k; clause = (lemma_at lemmas k).clause }

-- what is kept, as a proof of the clause at a level
abbrev pub proof_at : TransitionSystem → List Lemma → List Lit → KeptProof → ℕ → ProvedClause
proof_at sys lemmas clause proof level =
    record { system = sys; clause = clause; part = proof.part; level = level; parents = map (parent_at lemmas) proof.numbers.items }

-- it is a proof at level 2, and so at each level above 1
pub record IsKeptProof (sys : TransitionSystem) (lemmas : List Lemma) (clause : List Lit) (proof : KeptProof) : Type 0 where
  pub below : All (λ k. k < length lemmas) proof.numbers.items
  pub proved : IsProved (proof_at sys lemmas clause proof 2)

-- what is kept for a lemma, by its number, is a proof of its clause
abbrev pub AreKept : TransitionSystem → List Lemma → List (Option KeptProof) → Type 0
AreKept sys lemmas proofs =
    (n : ℕ) (proof : KeptProof) → slice_index_or proofs n None ≡ Some proof → (n < length lemmas) × IsKeptProof sys lemmas (lemma_at lemmas n).clause proof

-- a proof of lemma n one level higher, whose parents stand
pub record IsOfPush (sys : TransitionSystem) (lemmas : List Lemma) (n : ℕ) (p : ProvedClause) : Type 0 where
  pub system : p.system ≡ sys
  pub clause : p.clause ≡ (lemma_at lemmas n).clause
  pub level : p.level ≡ (lemma_at lemmas n).level + 1
  pub stand : AllStand lemmas (lemma_at lemmas n).level p.parents
