-- The bits of signal and count: one for each set, and one for each number up to a bound.
use Rattle.std.specs.Prelude.{ℕ, zero, suc, ◌<◌, ◌≡◌, Bool, true, not, ◌&&◌, ◌||◌}

-- each of the first n sets is marked or holds: the signal
abbrev pub fires : (ℕ → Bool) → (ℕ → Bool) → ℕ → Bool
fires mark holds zero = true
fires mark holds (suc n) = fires mark holds n && (mark n || holds n)

-- the marks of n sets in the state after: cleared at a signal, else a set that holds is marked
abbrev pub MarkRows : ℕ → Bool → (ℕ → Bool) → (ℕ → Bool) → (ℕ → Bool) → Type 0
MarkRows n now mark holds next = (j : ℕ) → j < n → next j ≡ (not now && (mark j || holds j))

-- there were at least n signals, where bit j says that there were more than j
abbrev pub at_least : (ℕ → Bool) → ℕ → Bool
at_least c zero = true
at_least c (suc j) = c j

-- the counter's bits in the state after
abbrev pub CountRows : ℕ → Bool → (ℕ → Bool) → (ℕ → Bool) → Type 0
CountRows bound now c next = (j : ℕ) → j < bound → next j ≡ (c j || (at_least c j && now))
