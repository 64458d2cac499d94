-- A monitored system with signal and counter, over bits.
use Rattle.std.specs.Prelude.{◌≡◌, ◌↔◌, ℕ, ◌+◌, ◌<◌, Bool, true, false, ◌&&◌, map, length, slice_index_or}
use Rattle.clause_core.specs.Systems.{TransitionSystem, FirstBits, StepBits, BadBits, GoodBits}
use Rattle.ltl_monitor.specs.States.{value, Extends}
use Rattle.ltl_monitor.specs.Counter.{fires, MarkRows, at_least, CountRows}

-- how many sets there are
abbrev pub sets_of : TransitionSystem → ℕ
sets_of m = length m.fair

-- whether set j holds, by its literal
abbrev pub holds : TransitionSystem → (ℕ → Bool) → ℕ → Bool
holds m e j = slice_index_or (map (value e) m.fair) j false

-- the marks of a state, which follow the monitored system's bits, and after them the counter's bits
abbrev pub marks : TransitionSystem → (ℕ → Bool) → ℕ → Bool
marks m x j = x (m.state_bits + j)

abbrev pub counts : TransitionSystem → (ℕ → Bool) → ℕ → Bool
counts m x j = x (m.state_bits + (sets_of m + j))

-- each set was seen or holds now
abbrev pub signals : TransitionSystem → (ℕ → Bool) → (ℕ → Bool) → Bool
signals m x e = fires (marks m x) (holds m e) (sets_of m)

-- c is the monitored system m with marks, signal and a counter up to k: at first no mark and no bit of the counter is
-- set, a step meets their rules, and a state is bad where the count is k and the signal is true, and else good
pub record IsCounted (m : TransitionSystem) (k : ℕ) (c : TransitionSystem) : Type 0 where
  pub bits : c.state_bits ≡ m.state_bits + (sets_of m + k)
  pub first : (x : ℕ → Bool) → FirstBits c x ↔ (FirstBits m x × ((j : ℕ) → j < sets_of m + k → x (m.state_bits + j) ≡ false))
  pub step : (x y e : ℕ → Bool) → Extends m x e →
      StepBits c x y ↔ (StepBits m x y
      × MarkRows (sets_of m) (signals m x e) (marks m x) (holds m e) (marks m y)
      × CountRows k (signals m x e) (counts m x) (counts m y))
  pub bad : (x e : ℕ → Bool) → Extends m x e → BadBits c x ↔ ((signals m x e && at_least (counts m x) k) ≡ true)
  pub good : (x e : ℕ → Bool) → Extends m x e → GoodBits c x ↔ ((signals m x e && at_least (counts m x) k) ≡ false)
