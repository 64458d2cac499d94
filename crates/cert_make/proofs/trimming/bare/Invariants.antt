use Rattle.std.proofs.Common.{◌≡◌, take}
use Rattle.cert_core.specs.declared.form.Form.TheVariants.{Hinted}
use Rattle.cert_make.proofs.trimming.bare.Given as goal

abbrev pub invariant-loop-k : goal.invariant-loop-k
invariant-loop-k l = record {
  form : l.bare.form ≡ Hinted;
  counter : l.bare.counter ≡ l.cert.counter;
  clauses : l.bare.clauses ≡ take l.k l.clauses;
}
