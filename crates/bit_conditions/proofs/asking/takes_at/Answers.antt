-- What is told of both nodes. One that is not there gives nothing.
use Rattle.std.proofs.Common.{◌∙◌, sym, ap, arith}
use Rattle.smv_meaning.specs.declared.outcome.Evaluation.{Evaluation}
use Rattle.smv_meaning.specs.Outcomes.{value_in}
use Rattle.smv_meaning.specs.Runs.{takes}
use Rattle.smv_meaning.specs.Tables.{outcome_at}
use Rattle.bit_outcomes.proofs.OfNodes.{tells_node}
use Rattle.bit_conditions.proofs.OfItems.{nothing_past, none_among}
use Rattle.bit_conditions.proofs.asking.takes_at.Goals as goal

pub returns-then-target-there-clause-value : goal.returns-then-target-there-clause-value
returns-then-target-there-clause-value c = λ v ps os h there here a b.
    c.constant.ensures.value v h
    ∙ sym (ap (λ (p : Evaluation). takes p (outcome_at os c.args.value)) (nothing_past ps c.args.target (omega (arith, there.long, c.if-target-there.true))))

pub returns-then-value-here-clause-value : goal.returns-then-value-here-clause-value
returns-then-value-here-clause-value c = λ v ps os h there here a b.
    c.constant-then-value-here.ensures.value v h
    ∙ sym (ap (λ (o : Evaluation). takes (outcome_at ps c.args.target) o) (nothing_past os c.args.value (omega (arith, here.long, c.if-value-here.true))) ∙ none_among (value_in (outcome_at ps c.args.target)))

pub returns-clause-value : goal.returns-clause-value
returns-clause-value c = λ v ps os h there here a b.
    c.in_ok-edge.ensures.value v (outcome_at ps c.args.target) (outcome_at os c.args.value) h
    (tells_node v c.args.there.now ps c.args.target c.index-there-target.result (omega (arith, c.if-target-there.false)) c.index-there-target.is there)
    (tells_node v c.args.here.now os c.args.value c.index-here-value.result (omega (arith, c.if-value-here.false)) c.index-here-value.is here) a b
