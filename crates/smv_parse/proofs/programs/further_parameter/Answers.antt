use Rattle.phrase_forms.specs.Forms.{to}
use Rattle.smv_tree.specs.declared.token.TokenKind.TheVariants as kind
use Rattle.smv_phrases.specs.Names.{just, identifier}
use Rattle.smv_parse.specs.Programs.{parameter_of}
use Rattle.smv_parse.proofs.Parts.{still_stands}
use Rattle.smv_parse.proofs.programs.further_parameter.Goals as goal

pub returns : goal.returns
returns c = rw (still_stands (just kind.Comma) (to parameter_of identifier) c.args.tokens.now _ _ c.in_ok-tokens.ensures) at c.parameter.ensures
