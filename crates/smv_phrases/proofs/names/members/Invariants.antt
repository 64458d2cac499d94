use Rattle.std.proofs.Common.{length}
use Rattle.phrase_forms.specs.Forms.{many}
use Rattle.smv_phrases.specs.Names.{member}
use Rattle.smv_phrases.proofs.Repeats.{Totals}
use Rattle.smv_phrases.proofs.names.members.Given as goal

abbrev pub invariant-phrases : goal.invariant-phrases
invariant-phrases l = Totals member l.all l.rest ((many member).parse l.fn.tokens)

abbrev pub decreases-phrases : goal.decreases-phrases
decreases-phrases l = length l.rest
