-- The limits are the same.
use Rattle.std.proofs.Common.{sym, subst}
use Rattle.smv_tree.specs.declared.tree.TypeExpr.{TypeExpr}
use Rattle.smv_declared.specs.Closed.{IsClosedType}
use Rattle.smv_declared.proofs.Instances.{closed_range, closed_word}
use Rattle.smv_declared.proofs.closed.is_closed_type.Goals as goal

pub returns-in-Word : goal.returns-in-Word
returns-in-Word c = λ e.
    let p = c.args.scope.now.program in
    let P : TypeExpr → Type 0 = λ t. IsClosedType p c.args.from t in
    subst P (sym c.in-Word.is) (closed_word p c.args.from c.in-Word.field-0 c.in-Word.field-1 _ (c.is_closed.ensures e))

pub returns-in-Range : goal.returns-in-Range
returns-in-Range c = λ e.
    let p = c.args.scope.now.program in
    let P : TypeExpr → Type 0 = λ t. IsClosedType p c.args.from t in
    subst P (sym c.in-Range.is) (closed_range p c.args.from c.in-Range.field-0 _ _ (c.are_closed_limits.ensures e))
