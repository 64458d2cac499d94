use Rattle.std.proofs.Common.{◌-◌}
use Rattle.std.proofs.lemmas.Result.{err_from_is_err_and}
use Rattle.smv_tree.specs.declared.token.Token.{Token}
use Rattle.smv_tree.specs.declared.token.TokenKind.TheVariants as kind
use Rattle.smv_tree.specs.declared.tree.Expr.{Expr}
use Rattle.smv_expressions.specs.Expressions.{under, limit_within}
use Rattle.smv_expressions.proofs.Levels.{under_limit}
use Rattle.smv_parse.proofs.Parts.{still_closes, inner_stops}
use Rattle.smv_parse.proofs.types.width.Goals as goal

pub returns-in_err-width : goal.returns-in_err-width
returns-in_err-width c =
    let p = err_from_is_err_and c.from_residual-in_err-width.result c.from_residual-in_err-width.ensures.1 in
    rw (p.1, p.2)
    (inner_stops c.is_closed.result c.args.room kind.LeftBracket kind.RightBracket (under 0 c.args.room).limit (limit_within 0 (c.args.room - 1)) (under_limit c.args.room) (λ (x : Token × Expr). x.1)
    c.args.tokens.now _ _ c.in_err-width.field-0.0 c.is_closed.ensures c.in_ok-tokens.ensures c.in_err-width.ensures)

pub returns : goal.returns
returns c =
    rw (still_closes c.is_closed.result c.args.room kind.LeftBracket kind.RightBracket (under 0 c.args.room).limit (limit_within 0 (c.args.room - 1)) (under_limit c.args.room) (λ (x : Token × Expr). x.1)
    c.args.tokens.now _ _ _ _ c.is_closed.ensures c.in_ok-tokens.ensures c.in_ok-width.ensures) at c.followed_by.ensures
