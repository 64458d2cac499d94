use Rattle.std.proofs.Common.{length}
use Rattle.smv_parse.specs.Types.{element}
use Rattle.smv_phrases.specs.Lists.{further, listed}
use Rattle.smv_phrases.proofs.Repeats.{Totals}
use Rattle.smv_parse.proofs.types.listed_elements.Given as goal

abbrev pub invariant-phrases : goal.invariant-phrases
invariant-phrases l = Totals (further (element l.closed)) l.all l.rest ((listed (element l.closed)).parse l.fn.tokens)

abbrev pub decreases-phrases : goal.decreases-phrases
decreases-phrases l = length l.rest
