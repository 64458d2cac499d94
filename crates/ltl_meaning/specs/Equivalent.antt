-- Formulas that are true at the same times, on every word.
use Rattle.std.specs.Prelude.{ℕ, ◌↔◌, ◌⊎◌, true, false}
use Rattle.ltl_meaning.specs.declared.node.UnaryOperator.{UnaryOperator}
use Rattle.ltl_meaning.specs.declared.node.BinaryOperator.{BinaryOperator}
use Rattle.ltl_meaning.specs.declared.word.Word.{Word}
use Rattle.ltl_meaning.specs.Temporal.{Temporal}
use Rattle.ltl_meaning.specs.Truth.{IsTrueAt}
use Rattle.ltl_meaning.specs.Lasso.{on}

-- f is true exactly where g is
abbrev pub IsEquivalent : Temporal → Temporal → Type 0
IsEquivalent f g = (w : Word) (t : ℕ) → IsTrueAt (on w) f t ↔ IsTrueAt (on w) g t

-- at each time of each word f is true or its negation is
abbrev pub IsDecided : Temporal → Type 0
IsDecided f = (w : Word) (t : ℕ) → IsTrueAt (on w) f t ⊎ (¬ IsTrueAt (on w) f t)

-- formulas by their operators
abbrev pub yes : Temporal
yes = Temporal.Constant true

abbrev pub no : Temporal
no = Temporal.Constant false

abbrev pub negation : Temporal → Temporal
negation f = Temporal.Unary UnaryOperator.Not f

abbrev pub next : Temporal → Temporal
next f = Temporal.Unary UnaryOperator.Next f

abbrev pub finally : Temporal → Temporal
finally f = Temporal.Unary UnaryOperator.Finally f

abbrev pub globally : Temporal → Temporal
globally f = Temporal.Unary UnaryOperator.Globally f

abbrev pub yesterday : Temporal → Temporal
yesterday f = Temporal.Unary UnaryOperator.Yesterday f

abbrev pub weak_yesterday : Temporal → Temporal
weak_yesterday f = Temporal.Unary UnaryOperator.WeakYesterday f

abbrev pub once : Temporal → Temporal
once f = Temporal.Unary UnaryOperator.Once f

abbrev pub historically : Temporal → Temporal
historically f = Temporal.Unary UnaryOperator.Historically f

abbrev pub conjunction : Temporal → Temporal → Temporal
conjunction f g = Temporal.Binary BinaryOperator.And f g

abbrev pub disjunction : Temporal → Temporal → Temporal
disjunction f g = Temporal.Binary BinaryOperator.Or f g

abbrev pub until : Temporal → Temporal → Temporal
until f g = Temporal.Binary BinaryOperator.Until f g

abbrev pub releases : Temporal → Temporal → Temporal
releases f g = Temporal.Binary BinaryOperator.Releases f g

abbrev pub since : Temporal → Temporal → Temporal
since f g = Temporal.Binary BinaryOperator.Since f g

abbrev pub triggered : Temporal → Temporal → Temporal
triggered f g = Temporal.Binary BinaryOperator.Triggered f g
