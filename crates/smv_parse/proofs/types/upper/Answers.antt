use Rattle.smv_tree.specs.declared.token.TokenKind.TheVariants as kind
use Rattle.smv_phrases.specs.Names.{just}
use Rattle.smv_expressions.specs.Expressions.{limit_within}
use Rattle.smv_parse.proofs.Parts.{still_stands}
use Rattle.smv_parse.proofs.types.upper.Goals as goal

pub returns : goal.returns
returns c = rw (still_stands (just kind.DotDot) (limit_within 0 c.args.room) c.args.tokens.now _ _ c.in_ok-tokens.ensures) at c.limit.ensures
