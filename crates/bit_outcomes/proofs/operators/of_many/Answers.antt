-- What the operator gives of the values.
use Rattle.std.proofs.Common.{List, [], subst, sym}
use Rattle.smv_value.specs.Results.{result_of}
use Rattle.smv_meaning.specs.declared.outcome.Evaluation.{Evaluation}
use Rattle.smv_meaning.specs.declared.outcome.Evaluation.TheVariants.{Values}
use Rattle.smv_meaning.specs.Outcomes.{given, operated}
use Rattle.bit_operators.specs.declared.symbolic.Symbolic.{Symbolic}
use Rattle.bit_outcomes.specs.Gathering.{TellsEach}
use Rattle.bit_outcomes.specs.Telling.{Tells}
use Rattle.bit_outcomes.proofs.OfOperands.{bound_is}
use Rattle.bit_outcomes.proofs.operators.of_many.Goals as goal

pub returns-in_ok-told-in-Some-clause-told : goal.returns-in_ok-told-in-Some-clause-told
returns-in_ok-told-in-Some-clause-told c = λ place v os h all.
    let before = c.in_ok-told-in-Some.ensures.extends.kept v h in
    let each = rw c.in-Some.is at c.in_ok-gathered.ensures.told in
    subst (λ (o : Evaluation). Tells v c.in_ok-told-in-Some.told o) (sym (bound_is (λ vs. given place (result_of c.args.operator vs)) [] os))
    (c.in_ok-told-in-Some.ensures.told place v (operated Values [] os) h
    (subst (λ (ss : List Symbolic). TellsEach v c.in-Some.each.fault ss (operated Values [] os)) (sym c.as_slice.ensures) (each v os before all)))
