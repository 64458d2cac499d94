use Rattle.smv_tree.specs.declared.token.Token.{Token}
use Rattle.smv_tree.specs.declared.token.TokenKind.TheVariants as kind
use Rattle.smv_phrases.specs.Names.{just}
use Rattle.smv_expressions.specs.Expressions.{most_levels}
use Rattle.smv_parse.specs.Types.{Written, written_type}
use Rattle.smv_parse.proofs.Parts.{still_follows}
use Rattle.smv_parse.proofs.declarations.declared_type.Goals as goal

pub returns : goal.returns
returns c =
    rw (still_follows (just kind.Colon) (written_type 0 most_levels) kind.Semicolon (λ (x : Token × Written). x.1)
    c.args.tokens.now _ _ _ _ c.in_ok-tokens.ensures c.in_ok-declared.ensures) at c.followed_by.ensures
