use Rattle.std.proofs.Common.{◌≡◌, length}
use Rattle.phrase_forms.specs.Forms.{many}
use Rattle.smv_phrases.proofs.Folds.{gathered}
use Rattle.smv_expressions.specs.Expressions.{selected_by_all, index_within}
use Rattle.smv_parse.specs.Programs.{target}
use Rattle.smv_parse.proofs.OfLoops.{placed}
use Rattle.smv_parse.proofs.programs.target.Given as goal

abbrev pub invariant-indices : goal.invariant-indices
invariant-indices l = placed l.place (gathered selected_by_all l.whole ((many (index_within 0 l.room)).parse l.rest)) ≡ (target 0 l.room).parse l.fn.tokens

abbrev pub decreases-indices : goal.decreases-indices
decreases-indices l = length l.rest
