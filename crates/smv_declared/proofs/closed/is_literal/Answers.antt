-- A literal.
use Rattle.std.proofs.Common.{sym, subst}
use Rattle.smv_tree.specs.declared.tree.Expr.{Expr}
use Rattle.smv_declared.specs.Closed.{IsAlike}
use Rattle.smv_declared.proofs.Instances.{alike-constant}
use Rattle.smv_declared.proofs.closed.is_literal.Goals as goal

pub returns-in-Constant : goal.returns-in-Constant
returns-in-Constant c = λ e. let P : Expr → Type 0 = λ x. IsAlike x in subst P (sym c.in-Constant.is) (alike-constant c.in-Constant.field-0 c.in-Constant.field-1)
