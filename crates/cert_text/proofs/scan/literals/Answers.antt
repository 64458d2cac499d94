-- One literal more, and where the literals end.
use Rattle.std.proofs.Common.{◌<◌, sym, ◌∙◌}
use Rattle.std.proofs.lemmas.List.Elements.{All-push}
use Rattle.clause_core.specs.declared.literal.Lit.{Lit}
use Rattle.cert_core.specs.declared.form.TheConstants.{MAX_VARS}
use Rattle.cert_text.proofs.Scans.{literals_end, literals_more, literals_over, literals_stop}
use Rattle.cert_text.proofs.scan.literals.Goals as goal

pub loop-i-preserved : goal.loop-i-preserved
loop-i-preserved c = record {
  read =
      rw c.in_ok-push-in-Some.ensures.items
      (sym (literals_more c.args.tokens.now c.loop-i.i c.loop-i.lits.items _ c.in-Some.l c.loop-i-test.true (sym c.if-is_zero.false ∙ c.is_zero.ensures) (sym c.in-Some.is ∙ c.literal_of.ensures.says))
      ∙ c.loop-i.invariant.read);
  within =
      rw c.in_ok-push-in-Some.ensures.items
      (All-push (λ (l : Lit). l.var < MAX_VARS) c.loop-i.lits.items c.in-Some.l c.loop-i.invariant.within c.in-Some.ensures.within);
}

pub returns-then-is_zero-clause-says : goal.returns-then-is_zero-clause-says
returns-then-is_zero-clause-says c =
    sym c.loop-i.invariant.read ∙ literals_end c.args.tokens.now c.loop-i.i c.loop-i.lits.items _ c.loop-i-test.true (sym c.if-is_zero.true ∙ c.is_zero.ensures)

pub returns-in-None-clause-says : goal.returns-in-None-clause-says
returns-in-None-clause-says c =
    sym c.loop-i.invariant.read
    ∙ literals_stop c.args.tokens.now c.loop-i.i c.loop-i.lits.items _ c.loop-i-test.true (sym c.if-is_zero.false ∙ c.is_zero.ensures) (sym c.in-None.is ∙ c.literal_of.ensures.says)

pub returns-clause-says : goal.returns-clause-says
returns-clause-says c = sym c.loop-i.invariant.read ∙ literals_over c.args.tokens.now c.loop-i.i c.loop-i.lits.items c.loop-i-test.false
