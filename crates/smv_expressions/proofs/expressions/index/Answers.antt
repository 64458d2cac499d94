use Rattle.smv_tree.specs.declared.token.TokenKind.TheVariants as kind
use Rattle.smv_expressions.specs.Expressions.{under, expression_within}
use Rattle.smv_expressions.proofs.Levels.{under_expression}
use Rattle.smv_expressions.proofs.Enclosed.{pair_reads}
use Rattle.std.proofs.Common.{◌-◌}
use Rattle.smv_expressions.proofs.expressions.index.Goals as goal

pub returns : goal.returns
returns c =
    pair_reads c.is_closed.result c.args.room kind.LeftBracket kind.RightBracket (under 0 c.args.room).expression (expression_within 0 (c.args.room - 1)) (under_expression c.args.room)
    c.args.tokens.now _ _ _ _ _ _ c.is_closed.ensures c.in_ok-bracket.ensures c.in_ok-index.ensures c.in_ok-tokens.ensures
