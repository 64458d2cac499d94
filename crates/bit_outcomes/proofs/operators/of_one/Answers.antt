-- The one value of the operand.
use Rattle.std.proofs.Common.{[], ◌∷◌, subst, sym}
use Rattle.smv_value.specs.Results.{result_of}
use Rattle.smv_meaning.specs.declared.outcome.Evaluation.{Evaluation}
use Rattle.smv_meaning.specs.declared.outcome.Evaluation.TheVariants.{Values}
use Rattle.smv_meaning.specs.Outcomes.{given, operated}
use Rattle.bit_operators.specs.declared.symbolic.Symbolic.{Symbolic}
use Rattle.bit_outcomes.specs.declared.told.Told.{Told}
use Rattle.bit_outcomes.specs.Telling.{Tells, TellsOne}
use Rattle.bit_outcomes.proofs.OfOperands.{bound_is, one_each}
use Rattle.bit_outcomes.proofs.operators.of_one.Goals as goal

pub returns-in_ok-told-in-One-clause-told : goal.returns-in_ok-told-in-One-clause-told
returns-in_ok-told-in-One-clause-told c = λ place v p h a.
    let copy = c.in_ok-value-in-One.value in
    let one : TellsOne v c.in-One.f c.in-One.x p = subst (λ (t : Told). Tells v t p) c.in-One.is a in
    let same : TellsOne v c.in-One.f copy p = subst (λ (s : Symbolic). TellsOne v c.in-One.f s p) (sym c.in_ok-value-in-One.ensures) one in
    subst (λ (x : Evaluation). Tells v c.in_ok-told-in-One.told x) (sym (bound_is (λ vs. given place (result_of c.args.operator vs)) [] (p ∷ [])))
    (c.in_ok-told-in-One.ensures.told place v (operated Values [] (p ∷ [])) h (one_each v c.in-One.f copy p same))
