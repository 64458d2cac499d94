use Rattle.std.proofs.Common.{length}
use Rattle.phrase_forms.specs.Forms.{many}
use Rattle.smv_parse.specs.Programs.{section_form}
use Rattle.smv_phrases.proofs.Repeats.{Totals}
use Rattle.smv_parse.proofs.programs.sections.Given as goal

abbrev pub invariant-phrases : goal.invariant-phrases
invariant-phrases l = Totals (section_form 0) l.all l.rest ((many (section_form 0)).parse l.fn.tokens)

abbrev pub decreases-phrases : goal.decreases-phrases
decreases-phrases l = length l.rest
