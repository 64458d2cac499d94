-- None yet, and one more.
use Rattle.std.proofs.Common.{◌∙◌, List, [], ◌∷◌, ◌++◌, take, ap, sym, subst, refl, Bor}
use Rattle.std.proofs.lemmas.List.{map-append}
use Rattle.smv_tree.specs.declared.tree.Name.{Name}
use Rattle.smv_tree.specs.Occurring.{read}
use Rattle.smv_verdicts.specs.Verdicts.{first_of}
use Rattle.smv_names.specs.OpenNames.{SayAll, unknown_name}
use Rattle.smv_names.proofs.Opened.{say_less, say_more, taken}
use Rattle.smv_names.proofs.open_names.open_among.Goals as goal
use Rattle.smv_names.proofs.open_names.open_among.Goals.{then-not-is_closed_name+in_ok-push, else-not-is_closed_name}

pub loop-name-init : goal.loop-name-init
loop-name-init c = λ to same. ap (λ (xs : List (Bor Name)). first_of (unknown_name c.args.scope.now.program to) (read xs)) c.new-again.ensures.items

pub loop-name-preserved : goal.loop-name-preserved
loop-name-preserved c =
    let p = c.args.scope.now.program in
    let from = c.args.from in
    let before = read (take c.loop-name.name-index c.args.names.now) in
    let so_far = read c.loop-name.again.items in
    let after = c.if-not-is_closed_name.again in
    let lent : Bor Name → Name = λ x. x.now in
    let x = lent c.name-item.result in
    let P : List Name → Type 0 = λ ys. SayAll p from ys (read after.items) in
    let Q : List Name → Type 0 = λ zs. SayAll p from (before ++ x ∷ []) zs in
    subst P (sym (taken lent c.args.names.now c.loop-name.name-index c.name-item.result c.loop-name-test.true c.name-item.is))
    (elim c.if-not-is_closed_name.branch [
      | then-not-is_closed_name+in_ok-push w ↦
          subst Q (sym (ap (λ v. read v.items) w.again-is ∙ ap read w.in_ok-push.ensures.items ∙ map-append lent c.loop-name.again.items (c.name-item.result ∷ [])))
          (say_more p from before so_far x c.loop-name.invariant)
      | else-not-is_closed_name w ↦
          subst Q (sym (ap (λ v. read v.items) w.again-is)) (say_less p from before so_far x (w.if-not-is_closed_name.ensures refl) c.loop-name.invariant)
    ])
