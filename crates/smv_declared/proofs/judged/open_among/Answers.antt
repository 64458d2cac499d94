-- None yet, and one more.
use Rattle.std.proofs.Common.{◌∙◌, List, [], ◌∷◌, ◌++◌, take, ap, sym, subst, refl, Bor}
use Rattle.std.proofs.lemmas.List.{map-append}
use Rattle.smv_tree.specs.declared.tree.Variable.{Variable}
use Rattle.smv_tree.specs.declared.tree.VariableKind.{VariableKind}
use Rattle.smv_verdicts.specs.Verdicts.{first_of}
use Rattle.smv_declared.specs.Closed.{SayAll, read, refusal_of}
use Rattle.smv_declared.proofs.Instances.{say_less, say_more, taken}
use Rattle.smv_declared.proofs.judged.open_among.Goals as goal
use Rattle.smv_declared.proofs.judged.open_among.Goals.{then-not-is_closed_variable+in_ok-push, else-not-is_closed_variable}

pub loop-x-init : goal.loop-x-init
loop-x-init c = λ none to same. ap (λ (xs : List (VariableKind × Bor Variable)). first_of (refusal_of c.args.scope.now.program to) (read xs)) c.new-again.ensures.items

pub loop-x-preserved : goal.loop-x-preserved
loop-x-preserved c =
    let p = c.args.scope.now.program in
    let from = c.args.from in
    let before = read (take c.loop-x.x-index c.args.all.now) in
    let so_far = read c.loop-x.again.items in
    let after = c.if-not-is_closed_variable.again in
    let lent : VariableKind × Bor Variable → VariableKind × Variable = λ x. (x.0, x.1.now) in
    let x = lent c.x-item.result in
    let P : List (VariableKind × Variable) → Type 0 = λ ys. SayAll p from ys (read after.items) in
    let Q : List (VariableKind × Variable) → Type 0 = λ zs. SayAll p from (before ++ x ∷ []) zs in
    subst P (sym (taken lent c.args.all.now c.loop-x.x-index c.x-item.result c.loop-x-test.true c.x-item.is))
    (elim c.if-not-is_closed_variable.branch [
      | then-not-is_closed_variable+in_ok-push w ↦
          subst Q (sym (ap (λ v. read v.items) w.again-is ∙ ap read w.in_ok-push.ensures.items ∙ map-append lent c.loop-x.again.items (c.x-item.result ∷ [])))
          (say_more p from before so_far x c.loop-x.invariant)
      | else-not-is_closed_variable w ↦
          subst Q (sym (ap (λ v. read v.items) w.again-is)) (say_less p from before so_far x (w.if-not-is_closed_variable.ensures refl) c.loop-x.invariant)
    ])
