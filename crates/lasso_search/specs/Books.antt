-- What was found of each length up to a bound.
use Rattle.std.specs.Prelude.{◌≡◌, ℕ, ◌-◌, ◌<◌, ◌≤◌, List, length, Option, Some, None, slice_index_or, MatchOption}
use Rattle.clause_core.specs.Systems.{TransitionSystem}
use Rattle.lasso_search.specs.Lassos.{Lasso, IsFairLasso, HasNoFairLasso}

-- an entry for each length from 1 on: nothing yet; or that there is no fair lasso; or one
abbrev pub Book : Type 0
Book = List (Option (Option Lasso))

-- the answer is right for a system: a fair lasso of n states, or that there is none
abbrev pub IsAnswer : TransitionSystem → ℕ → Option Lasso → Type 0
IsAnswer m n answer = MatchOption answer (HasNoFairLasso m n) (IsFairLasso m n)

-- the entry of length n
abbrev pub entry : Book → ℕ → Option (Option Lasso)
entry b n = slice_index_or b (n - 1) None

-- length n is one of the book's
abbrev pub IsLength : Book → ℕ → Type 0
IsLength b n = (0 < n) × (n ≤ length b)

-- each answer recorded is right for this system
abbrev pub KeepsAnswers : TransitionSystem → Book → Type 0
KeepsAnswers m b = (n : ℕ) (answer : Option Lasso) → IsLength b n → entry b n ≡ Some answer → IsAnswer m n answer

-- what is recorded here, or else there
abbrev pub either : {X : Type 0} → Option X → Option X → Option X
either (Some x) other = Some x
either None other = other
