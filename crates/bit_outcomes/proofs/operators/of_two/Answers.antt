-- The one value of each operand.
use Rattle.std.proofs.Common.{[], ◌∷◌, subst, sym}
use Rattle.smv_value.specs.Results.{result_of}
use Rattle.smv_meaning.specs.declared.outcome.Evaluation.{Evaluation}
use Rattle.smv_meaning.specs.declared.outcome.Evaluation.TheVariants.{Values}
use Rattle.smv_meaning.specs.Outcomes.{given, operated}
use Rattle.bit_operators.specs.declared.symbolic.Symbolic.{Symbolic}
use Rattle.bit_outcomes.specs.declared.told.Told.{Told}
use Rattle.bit_outcomes.specs.Telling.{Tells, TellsOne}
use Rattle.bit_outcomes.proofs.OfOperands.{bound_is, two_each}
use Rattle.bit_outcomes.proofs.operators.of_two.Goals as goal

pub returns-in_ok-told-in-One-One-clause-told : goal.returns-in_ok-told-in-One-One-clause-told
returns-in_ok-told-in-One-One-clause-told c = λ place v p q h a b.
    let f = c.in-One-One.f in
    let g = c.in-One-One.g in
    let fault = c.in_ok-fault-in-One-One in
    let one = c.in_ok-one-in-One-One in
    let other = c.in_ok-other-in-One-One in
    let made = c.in_ok-told-in-One-One in
    let first : TellsOne v f one.one p = subst (λ (s : Symbolic). TellsOne v f s p) (sym one.ensures) (subst (λ (t : Told). Tells v t p) c.in-One-One.is-0 a) in
    let second : TellsOne v g other.other q = subst (λ (s : Symbolic). TellsOne v g s q) (sym other.ensures) (subst (λ (t : Told). Tells v t q) c.in-One-One.is-1 b) in
    subst (λ (x : Evaluation). Tells v made.told x) (sym (bound_is (λ vs. given place (result_of c.args.operator vs)) [] (p ∷ q ∷ [])))
    (made.ensures.told place v (operated Values [] (p ∷ q ∷ [])) h
    (two_each v f g fault.fault one.one other.other p q (fault.ensures.value v (made.ensures.extends.kept v h)) first second))
