-- Copies of the lemmas that are brought up to date.
use Rattle.std.specs.Prelude.{◌≡◌, ◌⊎◌, ℕ, ◌<◌, ◌≤◌, true, List, length, Contains}
use Rattle.frame_core.specs.declared.parts.Lemma.{Lemma}
use Rattle.frame_core.specs.FrameLaw.{lemma_at}

-- the copy has the first of the lemmas as they are now, but for those that are named as raised or retired since
pub record LagsBehind (lemmas : List Lemma) (changed : List ℕ) (copy : List Lemma) : Type 0 where
  pub shorter : length copy ≤ length lemmas
  pub clause : (n : ℕ) → n < length copy → (lemma_at copy n).clause ≡ (lemma_at lemmas n).clause
  pub live : (n : ℕ) → n < length copy → (lemma_at lemmas n).live ≡ true → (lemma_at copy n).live ≡ true
  pub same : (n : ℕ) → n < length copy → Contains changed n ⊎ (lemma_at copy n ≡ lemma_at lemmas n)

-- the lemmas have the same level, and both are live or both retired
abbrev pub AreLevel : Lemma → Lemma → Type 0
AreLevel a b = (a.level ≡ b.level) × (a.live ≡ b.live)

-- the first lemma from this number on that is not level with the later one of its number; how many lemmas there are, where
-- there is none
pub record IsNextChange (lemmas later : List Lemma) (from next : ℕ) : Type 0 where
  pub past : from ≤ next
  pub within : next ≤ length lemmas
  pub same : (n : ℕ) → from ≤ n → n < next → AreLevel (lemma_at lemmas n) (lemma_at later n)
  pub changed : next < length lemmas → AreLevel (lemma_at lemmas next) (lemma_at later next) → ⊥
