use Rattle.cert_core.specs.declared.form.Form.TheVariants.{Hinted}
use Rattle.cert_core.specs.Blocks.{LogFits}
use Rattle.cert_make.proofs.trimming.marked.Given as goal

abbrev pub invariant-loop-k : goal.invariant-loop-k
invariant-loop-k l = record { fits : LogFits Hinted l.log }
