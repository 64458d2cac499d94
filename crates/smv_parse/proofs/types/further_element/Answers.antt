use Rattle.smv_tree.specs.declared.token.TokenKind.TheVariants as kind
use Rattle.smv_phrases.specs.Names.{just}
use Rattle.smv_parse.specs.Types.{element}
use Rattle.smv_parse.proofs.Parts.{still_stands}
use Rattle.smv_parse.proofs.types.further_element.Goals as goal

pub returns : goal.returns
returns c = rw (still_stands (just kind.Comma) (element c.args.closed) c.args.tokens.now _ _ c.in_ok-tokens.ensures) at c.element.ensures
