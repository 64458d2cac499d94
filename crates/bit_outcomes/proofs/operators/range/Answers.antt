-- Two operands.
use Rattle.std.proofs.Common.{List, subst}
use Rattle.smv_meaning.specs.Outcomes.{ranged}
use Rattle.bit_outcomes.specs.declared.told.Told.{Told}
use Rattle.bit_outcomes.specs.Telling.{TellsAll}
use Rattle.bit_outcomes.proofs.OfNodes.{of_two, pair_is}
use Rattle.bit_outcomes.proofs.operators.range.Goals as goal

pub returns-in_ok-told-in-len2-clause-told : goal.returns-in_ok-told-in-len2-clause-told
returns-in_ok-told-in-len2-clause-told c = λ v os h all.
    let two = pair_is c.args.operands.now c.a-item.result c.b-item.result c.in-len2.len_at_least c.in-len2.len_below c.a-item.is c.b-item.is in
    of_two v c.in_ok-told-in-len2.told c.a-item.result c.b-item.result ranged (λ p q x y. c.in_ok-told-in-len2.ensures.told v p q h x y) os
    (subst (λ (ts : List Told). TellsAll v ts os) two all)
