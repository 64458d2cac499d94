use Rattle.std.proofs.Common.{length}
use Rattle.phrase_forms.specs.Forms.{to}
use Rattle.smv_phrases.specs.Names.{identifier, identifier_of}
use Rattle.smv_phrases.specs.Lists.{further, listed}
use Rattle.smv_phrases.proofs.Repeats.{Totals}
use Rattle.smv_parse.proofs.declarations.listed_constants.Given as goal

abbrev pub invariant-phrases : goal.invariant-phrases
invariant-phrases l = Totals (further (to identifier_of identifier)) l.all l.rest ((listed (to identifier_of identifier)).parse l.fn.tokens)

abbrev pub decreases-phrases : goal.decreases-phrases
decreases-phrases l = length l.rest
