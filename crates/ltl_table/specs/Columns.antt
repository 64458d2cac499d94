-- Columns: the truth of one formula at the first times of a word, as a list; and the values that each
-- operator's column has, from its operands' columns.
use Rattle.std.specs.Prelude.{ℕ, zero, suc, ◌+◌, ◌-◌, ◌<◌, ◌≡◌, ◌↔◌, Bool, true, false, not, ◌&&◌, ◌||◌, List, length, slice_index_or, replicate, nat_lt, if◌then◌else◌, IsTrue}
use Rattle.ltl_meaning.specs.declared.node.UnaryOperator.{UnaryOperator}
use Rattle.ltl_meaning.specs.declared.node.BinaryOperator.{BinaryOperator}
use Rattle.ltl_meaning.specs.Truth.{Moment}
use Rattle.ltl_table.specs.declared.rules.Connective.{Connective}
use Rattle.ltl_table.specs.declared.rules.Step.{Step}

-- the value at a time
abbrev pub at : List Bool → ℕ → Bool
at column t = slice_index_or column t false

-- a column of n times says when P holds
abbrev pub Tells : List Bool → ℕ → Moment → Type 0
Tells column n P = (length column ≡ n) × ((t : ℕ) → t < n → IsTrue (at column t) ↔ P t)

-- the truth table of a connective
abbrev pub combine : Connective → Bool → Bool → Bool
combine Connective.And p q = p && q
combine Connective.Or p q = p || q
combine Connective.Xor true q = not q
combine Connective.Xor false q = q
combine Connective.Implies p q = not p || q
combine Connective.Iff true q = q
combine Connective.Iff false q = not q

-- an operator's value from its operands' and from its own at the neighbouring time
abbrev pub stepped : Step → Bool → Bool → Bool → Bool
stepped Step.Until p q neighbour = q || (p && neighbour)
stepped Step.Releases p q neighbour = q && (p || neighbour)

-- the value to begin with
abbrev pub outset : Step → Bool
outset Step.Until = false
outset Step.Releases = true

-- the value at time t, from the one `end` that holds d times later, backwards
unfoldable pub back : Step → List Bool → List Bool → ℕ → ℕ → Bool → Bool
back u p q t zero end = end
back u p q t (suc d) end = stepped u (at p t) (at q t) (back u p q (t + 1) d end)

-- the value at time t, where the last time is followed by `start`: from the value at `start`, which is
-- found by going through the loop once
abbrev pub looped : Step → List Bool → List Bool → ℕ → ℕ → Bool
looped u p q start t = back u p q t (length q - t) (back u p q start (length q - start) (outset u))

-- the value before time t, forwards from the first time
unfoldable pub forth : Step → List Bool → List Bool → ℕ → Bool
forth u p q zero = outset u
forth u p q (suc t) = stepped u (at p t) (at q t) (forth u p q t)

-- a column that has one value
abbrev pub always : List Bool → Bool → List Bool
always column b = replicate (length column) b

abbrev pub unary_value : UnaryOperator → List Bool → ℕ → ℕ → Bool
unary_value UnaryOperator.Not p start t = not (at p t)
unary_value UnaryOperator.Next p start t = at p (if nat_lt (t + 1) (length p) then t + 1 else start)
unary_value UnaryOperator.Finally p start t = looped Step.Until (always p true) p start t
unary_value UnaryOperator.Globally p start t = looped Step.Releases (always p false) p start t
unary_value UnaryOperator.Yesterday p start t = if nat_lt 0 t then at p (t - 1) else false
unary_value UnaryOperator.WeakYesterday p start t = if nat_lt 0 t then at p (t - 1) else true
unary_value UnaryOperator.Once p start t = forth Step.Until (always p true) p (t + 1)
unary_value UnaryOperator.Historically p start t = forth Step.Releases (always p false) p (t + 1)
unary_value UnaryOperator.NowOrNext p start t = combine Connective.Or (at p t) (at p (if nat_lt (t + 1) (length p) then t + 1 else start))
unary_value UnaryOperator.NowAndNext p start t = combine Connective.And (at p t) (at p (if nat_lt (t + 1) (length p) then t + 1 else start))
unary_value UnaryOperator.NowOrBefore p start t = combine Connective.Or (at p t) (if nat_lt 0 t then at p (t - 1) else false)
unary_value UnaryOperator.NowAndBefore p start t = combine Connective.And (at p t) (if nat_lt 0 t then at p (t - 1) else true)

abbrev pub binary_value : BinaryOperator → List Bool → List Bool → ℕ → ℕ → Bool
binary_value BinaryOperator.And p q start t = combine Connective.And (at p t) (at q t)
binary_value BinaryOperator.Or p q start t = combine Connective.Or (at p t) (at q t)
binary_value BinaryOperator.Xor p q start t = combine Connective.Xor (at p t) (at q t)
binary_value BinaryOperator.Xnor p q start t = combine Connective.Iff (at p t) (at q t)
binary_value BinaryOperator.Implies p q start t = combine Connective.Implies (at p t) (at q t)
binary_value BinaryOperator.Iff p q start t = combine Connective.Iff (at p t) (at q t)
binary_value BinaryOperator.Until p q start t = looped Step.Until p q start t
binary_value BinaryOperator.Releases p q start t = looped Step.Releases p q start t
binary_value BinaryOperator.Since p q start t = forth Step.Until p q (t + 1)
binary_value BinaryOperator.Triggered p q start t = forth Step.Releases p q (t + 1)
