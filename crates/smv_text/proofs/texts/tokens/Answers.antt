use Rattle.std.proofs.Common.{arith}
use Rattle.std.proofs.lemmas.Result.{err_from_is_err_and}
use Rattle.smv_text.proofs.Cuts.{none_cut, one_cut, flaw_cut}
use Rattle.smv_text.proofs.texts.tokens.Goals as goal

pub loop-rest-init : goal.loop-rest-init
loop-rest-init c = record { inside = omega arith; line = omega arith; column = omega arith; cut = none_cut c.args.text.now c.new-items.result.items c.new-items.ensures.items }

pub loop-rest-preserved : goal.loop-rest-preserved
loop-rest-preserved c = record {
  inside = omega arith;
  line = omega arith;
  column = omega arith;
  cut = one_cut c.args.text.now c.loop-rest.items.items c.add.new.tokens.items c.loop-rest.place c.behind-place.result c.loop-rest.rest.now c.split_at.result.0.now c.split_at.result.1.now
      c.longest-lexeme.result.1 c.longest-lexeme.result.0 c.loop-rest.invariant.cut c.longest-lexeme.ensures c.in_ok-add.ensures.added c.split_at.ensures.front c.split_at.ensures.back c.behind-place.ensures.moved;
}

pub returns-in_err-add-clause-refused : goal.returns-in_err-add-clause-refused
returns-in_err-add-clause-refused c =
    let p = err_from_is_err_and c.from_residual.result c.from_residual.ensures.1 in
    rw (p.1, p.2)
    (flaw_cut c.args.text.now c.loop-rest.items.items c.loop-rest.place c.loop-rest.rest.now c.split_at.result.0.now c.longest-lexeme.result.1 c.longest-lexeme.result.0 _ (omega arith) c.loop-rest.invariant.cut
    c.longest-lexeme.ensures c.split_at.ensures.front c.in_err-add.ensures.refused)
