use Rattle.smv_tree.specs.declared.place.Place.{Place}
use Rattle.smv_tree.specs.declared.token.Token.{Token}
use Rattle.smv_tree.specs.declared.token.TokenKind.TheVariants as kind
use Rattle.smv_tree.specs.declared.tree.Expr.{Expr}
use Rattle.smv_phrases.specs.Names.{just}
use Rattle.smv_parse.specs.Programs.{target, under_one}
use Rattle.smv_parse.proofs.Parts.{still_follows}
use Rattle.smv_parse.proofs.programs.enclosed_target.Goals as goal

pub returns : goal.returns
returns c =
    rw (still_follows (just kind.LeftParen) (target 0 under_one) kind.RightParen (λ (x : Token × (Place × Expr)). x.1)
    c.args.tokens.now _ _ _ _ c.in_ok-tokens.ensures c.in_ok-target.ensures) at c.followed_by.ensures
