-- A signal each time that every set was seen since the last one, and how many there were: what
-- k-liveness counts (Claessen and Sörensson 2012).
use Rattle.std.specs.Prelude.{ℕ, zero, suc, ◌+◌, Bool, true, false, not, ◌&&◌, ◌||◌, List, [], ◌∷◌, if◌then◌else◌}
use Rattle.ltl_monitor.specs.Monitor.{Side, Set}

abbrev pub every : (Set → Bool) → List Set → Bool
every p [] = true
every p (z ∷ zs) = p z && every p zs

module _ (zs : List Set) (s : ℕ → Side) where
  -- each set is seen or holds now
  abbrev pub signal_with : (Set → Bool) → Side → Bool
  signal_with seen now = every (λ z. seen z || z now) zs

  -- a set was seen before a state, since the last signal
  unfoldable pub seen : ℕ → Set → Bool
  seen zero z = false
  seen (suc i) z = not (signal_with (seen i) (s i)) && (seen i z || z (s i))

  abbrev pub signal : ℕ → Bool
  signal i = signal_with (seen i) (s i)

  -- how many signals there were before a state
  abbrev pub count : ℕ → ℕ
  count zero = 0
  count (suc i) = if signal i then count i + 1 else count i
