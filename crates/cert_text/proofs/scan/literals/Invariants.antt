use Rattle.std.proofs.Common.{◌≡◌, drop}
use Rattle.clause_core.specs.Literals.{Within}
use Rattle.cert_core.specs.declared.form.TheConstants.{MAX_VARS}
use Rattle.cert_text.specs.Lines.{literals_of}
use Rattle.cert_text.proofs.Scans.{lits_behind}
use Rattle.cert_text.proofs.scan.literals.Given as goal

abbrev pub invariant-loop-i : goal.invariant-loop-i
invariant-loop-i l = record {
  read : lits_behind l.lits.items (literals_of (drop l.i l.tokens)) ≡ literals_of l.tokens;
  within : Within MAX_VARS l.lits.items;
}
