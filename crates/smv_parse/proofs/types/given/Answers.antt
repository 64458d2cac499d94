use Rattle.std.proofs.Common.{◌-◌, List}
use Rattle.std.proofs.lemmas.Result.{err_from_is_err_and}
use Rattle.smv_tree.specs.declared.token.Token.{Token}
use Rattle.smv_tree.specs.declared.token.TokenKind.TheVariants as kind
use Rattle.smv_tree.specs.declared.tree.Expr.{Expr}
use Rattle.smv_phrases.specs.Lists.{maybe_listed}
use Rattle.smv_expressions.specs.Expressions.{under, expression_within}
use Rattle.smv_parse.proofs.UnderTypes.{under_arguments}
use Rattle.smv_parse.proofs.Parts.{still_closes, inner_stops}
use Rattle.smv_parse.proofs.types.given.Goals as goal

pub returns-in_err-given : goal.returns-in_err-given
returns-in_err-given c =
    let p = err_from_is_err_and c.from_residual-in_err-given.result c.from_residual-in_err-given.ensures.1 in
    rw (p.1, p.2)
    (inner_stops c.is_closed.result c.args.room kind.LeftParen kind.RightParen (maybe_listed (under 0 c.args.room).expression) (maybe_listed (expression_within 0 (c.args.room - 1))) (under_arguments c.args.room) (λ (x : Token × List Expr). x.1)
    c.args.tokens.now _ _ c.in_err-given.field-0.0 c.is_closed.ensures c.in_ok-tokens.ensures c.in_err-given.ensures)

pub returns : goal.returns
returns c =
    rw (still_closes c.is_closed.result c.args.room kind.LeftParen kind.RightParen (maybe_listed (under 0 c.args.room).expression) (maybe_listed (expression_within 0 (c.args.room - 1))) (under_arguments c.args.room) (λ (x : Token × List Expr). x.1)
    c.args.tokens.now _ _ _ _ c.is_closed.ensures c.in_ok-tokens.ensures c.in_ok-given.ensures) at c.followed_by.ensures
