use Rattle.std.proofs.Common.{List}
use Rattle.phrase_forms.specs.Forms.{to}
use Rattle.smv_tree.specs.declared.token.Token.{Token}
use Rattle.smv_tree.specs.declared.token.TokenKind.TheVariants as kind
use Rattle.smv_tree.specs.declared.tree.Parameter.{Parameter}
use Rattle.smv_phrases.specs.Names.{just, identifier}
use Rattle.smv_phrases.specs.Lists.{maybe_listed}
use Rattle.smv_parse.specs.Programs.{parameter_of}
use Rattle.smv_parse.proofs.Parts.{still_follows}
use Rattle.smv_parse.proofs.programs.enclosed_parameters.Goals as goal

pub returns : goal.returns
returns c =
    rw (still_follows (just kind.LeftParen) (maybe_listed (to parameter_of identifier)) kind.RightParen (λ (x : Token × List Parameter). x.1)
    c.args.tokens.now _ _ _ _ c.in_ok-tokens.ensures c.in_ok-parameters.ensures) at c.followed_by.ensures
