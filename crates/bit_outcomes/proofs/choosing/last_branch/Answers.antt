-- A last branch.
use Rattle.std.proofs.Common.{◌+◌, ◌*◌, ◌<◌, ◌≤◌, length, drop, subst, sym, arith}
use Rattle.std.specs.Prelude.{◌/◌}
use Rattle.smv_meaning.specs.declared.outcome.Evaluation.{Evaluation}
use Rattle.smv_meaning.specs.Outcomes.{choice}
use Rattle.bit_outcomes.specs.declared.told.Told.{Told}
use Rattle.bit_outcomes.specs.Telling.{Tells}
use Rattle.bit_outcomes.proofs.OfChoices.{choice_last}
use Rattle.bit_outcomes.proofs.OfNodes.{tells_at}
use Rattle.bit_outcomes.proofs.choosing.last_branch.Goals as goal

pub returns-in_ok-copy-clause-told : goal.returns-in_ok-copy-clause-told
returns-in_ok-copy-clause-told c = λ rule p v os h all.
    let ts = c.args.operands.now in
    let i = 2 * (length c.args.operands.now / 2) in
    let t = c.index-operands-paired.result in
    let within : 2 * (length c.args.operands.now / 2) < length os = omega (arith, all.long, c.if-paired-operands.true) in
    let end : length os ≤ 2 * (length c.args.operands.now / 2) + 1 = omega (arith, all.long) in
    subst (λ (t : Told). Tells v t (choice rule p (drop i os))) (sym c.in_ok-copy.ensures)
    (subst (λ (o : Evaluation). Tells v t o) (sym (choice_last rule p os i within end)) (tells_at v ts os i t c.if-paired-operands.true c.index-operands-paired.is all))
