use Rattle.std.proofs.Common.{List, length, subst, sym}
use Rattle.prove_run.specs.declared.answers.Work.{Work}
use Rattle.prove_ltl.specs.declared.answers.LtlAnswer.TheVariants.{False}
use Rattle.prove_ltl.specs.LtlAnswers.{IsLtlDone}
use Rattle.prove_ltl.proofs.Alone.{lasso_done}
use Rattle.prove_ltl.proofs.following.along.Goals as goal

pub returns : goal.returns
returns c = λ effort f atoms ism.
    let sys = c.args.system.now in
    let m = c.args.monitored.now.system in
    let own = c.in_ok-own-in-Some-2.own in
    let fair = rw c.in-Some-2.is at c.in_ok-lasso_along.ensures.found in
    let violating = c.in_ok-own-in-Some-2.ensures f atoms (length c.deref.result.now) ism fair in
    subst (λ (w : List Work). IsLtlDone sys f atoms effort w (False own)) (sym c.new.ensures.items)
    (lasso_done sys effort m c.law.ensures.gives c.law-in-Some-2.ensures.gives f atoms ism own violating)
