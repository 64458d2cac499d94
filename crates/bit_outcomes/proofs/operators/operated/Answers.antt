-- One operand, two, or others.
use Rattle.std.proofs.Common.{List, [], subst}
use Rattle.smv_value.specs.Results.{result_of}
use Rattle.smv_meaning.specs.Outcomes.{given, operated}
use Rattle.bit_outcomes.specs.declared.told.Told.{Told}
use Rattle.bit_outcomes.specs.Telling.{TellsAll}
use Rattle.bit_outcomes.proofs.OfNodes.{one_by, pair_is, single_is, two_by}
use Rattle.bit_outcomes.proofs.operators.operated.Goals as goal

pub returns-in_ok-told-in-len1-clause-told : goal.returns-in_ok-told-in-len1-clause-told
returns-in_ok-told-in-len1-clause-told c = λ place v os h all.
    let single = single_is c.args.operands.now c.a-item.result c.in-len1.len_at_least c.in-len1.len_below c.a-item.is in
    one_by v c.in_ok-told-in-len1.told c.a-item.result (operated (λ vs. given place (result_of c.args.operator vs)) []) (λ p a. c.in_ok-told-in-len1.ensures.told place v p h a) os
    (subst (λ (ts : List Told). TellsAll v ts os) single all)

pub returns-in_ok-told-in-len2-clause-told : goal.returns-in_ok-told-in-len2-clause-told
returns-in_ok-told-in-len2-clause-told c = λ place v os h all.
    let one = c.a-item-then-operands-lt3 in
    let pair = pair_is c.args.operands.now one.result c.b-item.result c.in-len2.len_at_least c.in-len2.len_below one.is c.b-item.is in
    two_by v c.in_ok-told-in-len2.told one.result c.b-item.result (operated (λ vs. given place (result_of c.args.operator vs)) [])
    (λ p q a b. c.in_ok-told-in-len2.ensures.told place v p q h a b) os (subst (λ (ts : List Told). TellsAll v ts os) pair all)
