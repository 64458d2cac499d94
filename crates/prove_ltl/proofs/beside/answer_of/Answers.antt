use Rattle.std.specs.Prelude.{◌≡◌, false, true, [], Option, Some, IfSome}
use Rattle.std.proofs.Common.{◌∙◌, sym, subst}
use Rattle.std.proofs.lemmas.Option.{IfSome_then}
use Rattle.std.proofs.lemmas.Result.{IfOk-weaker}
use Rattle.prove_ltl.specs.declared.answers.LtlDone.{LtlDone}
use Rattle.prove_ltl.specs.Climbing.{IsDoneFor, Settles}
use Rattle.prove_ltl.specs.Early.{is_unknown}
use Rattle.prove_ltl.specs.Lengths.{HasNoneUpTo}
use Rattle.prove_ltl.proofs.Counted.{done_beside}
use Rattle.prove_ltl.proofs.beside.answer_of.Goals as goal

pub returns-in-Found : goal.returns-in-Found
returns-in-Found c = rw c.in-Found.is at c.requires.sought

pub returns-in-None : goal.returns-in-None
returns-in-None c =
    let sys = c.args.system.now in
    let effort = c.args.effort.now in
    let m = c.args.monitored.now.system in
    let none : HasNoneUpTo m effort.bound = rw c.in-None.is at c.requires.sought in
    IfOk-weaker c.args.counted (λ (o : Option LtlDone). IfSome o (Settles effort m 0 [] [] 0)) (λ (o : Option LtlDone). IfSome o (IsDoneFor sys effort m))
    (λ o all. IfSome_then o {P = Settles effort m 0 [] [] 0} {Q = IsDoneFor sys effort m} all
    (λ d settles. done_beside sys effort m d c.law.ensures.gives c.law-2.ensures.gives (λ unknown. none) settles)) c.requires.counted

pub returns-in_ok-counted-in-Open : goal.returns-in_ok-counted-in-Open
returns-in_ok-counted-in-Open c =
    let sys = c.args.system.now in
    let effort = c.args.effort.now in
    let m = c.args.monitored.now.system in
    let counted = c.in_ok-counted-in-Open.counted in
    let all : IfSome counted (Settles effort m 0 [] [] 0) = rw c.in_ok-counted-in-Open.was at c.requires.counted in
    let P : LtlDone → Type 0 = λ d. (counted ≡ Some d) × (is_unknown d.answer ≡ false) in
    IfSome_then c.if_known.result {P = P} {Q = IsDoneFor sys effort m} c.if_known.ensures (λ d both.
    (let settles : Settles effort m 0 [] [] 0 d = subst (λ (o : Option LtlDone). IfSome o (Settles effort m 0 [] [] 0)) both.0 all in
    done_beside sys effort m d c.law.ensures.gives c.law-2.ensures.gives
    (λ unknown. absurd (let h : false ≡ true = sym both.1 ∙ unknown in let never : ⊥ = cc in never)) settles))
