-- What a name leads to.
use Rattle.std.specs.Prelude.{ℕ}
use Rattle.smv_tree.specs.declared.tree.Expr.{Expr}

-- A variable that has a value; an instance; an expression that a parameter of an instance was given, in the instance
-- that gives it; the body of a definition of an instance; a symbol. Or it leads nowhere, or by more parameters than are
-- followed.
pub data Target : Type 0 where
  Variable : (n : ℕ) → Target
  Whole : (at : ℕ) → Target
  Given : (at k owner : ℕ) → Expr → Target
  Defined : (at k : ℕ) → Expr → Target
  Symbol : (n : ℕ) → Target
  Unknown : Target
  TooFar : Target
