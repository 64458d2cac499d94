use Rattle.std.proofs.Common.{length}
use Rattle.phrase_forms.specs.Forms.{many}
use Rattle.smv_parse.specs.Programs.{declaration}
use Rattle.smv_phrases.proofs.Repeats.{Totals}
use Rattle.smv_parse.proofs.declarations.declarations.Given as goal

abbrev pub invariant-phrases : goal.invariant-phrases
invariant-phrases l = Totals (declaration 0) l.all l.rest ((many (declaration 0)).parse l.fn.tokens)

abbrev pub decreases-phrases : goal.decreases-phrases
decreases-phrases l = length l.rest
