-- One hint more, and where the hints end.
use Rattle.std.proofs.Common.{sym, ◌∙◌}
use Rattle.cert_text.proofs.Scans.{hints_more, hints_over, hints_stop}
use Rattle.cert_text.proofs.scan.hints.Goals as goal

pub loop-i-preserved : goal.loop-i-preserved
loop-i-preserved c =
    rw c.in_ok-push-in-Some.ensures.items
    (sym (hints_more c.args.tokens.now c.loop-i.i c.loop-i.hints.items _ c.in-Some.h c.loop-i-test.true (sym c.if-is_zero.false ∙ c.is_zero.ensures) (sym c.in-Some.is ∙ c.hint_of.ensures))
    ∙ c.loop-i.invariant)

pub returns-in-None : goal.returns-in-None
returns-in-None c =
    sym (hints_stop c.args.tokens.now c.loop-i.i c.loop-i.hints.items _ c.loop-i-test.true (sym c.if-is_zero.false ∙ c.is_zero.ensures) (sym c.in-None.is ∙ c.hint_of.ensures))
    ∙ c.loop-i.invariant

pub returns : goal.returns
returns c = sym (hints_over c.args.tokens.now c.loop-i.i c.loop-i.hints.items c.loop-i-test.false) ∙ c.loop-i.invariant
