use Rattle.phrase_forms.specs.Forms.{to}
use Rattle.smv_tree.specs.declared.token.TokenKind.TheVariants as kind
use Rattle.smv_phrases.specs.Names.{just, identifier, identifier_of}
use Rattle.smv_parse.proofs.Parts.{still_stands}
use Rattle.smv_parse.proofs.declarations.further_constant.Goals as goal

pub returns : goal.returns
returns c = rw (still_stands (just kind.Comma) (to identifier_of identifier) c.args.tokens.now _ _ c.in_ok-tokens.ensures) at c.constant.ensures
