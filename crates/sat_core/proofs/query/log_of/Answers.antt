use Rattle.std.proofs.Common.{◌≡◌, ◌<◌, ◌+◌, ◌++◌, ◌∷◌, [], true, false, length, take, get_or, sym, ap, ◌∙◌, arith}
use Rattle.std.proofs.lemmas.List.{take_more, length-take-le}
use Rattle.sat_core.specs.Queries.{learned_of}
use Rattle.sat_core.proofs.Origins.{learned_nil, learned_skip, learned_take}
use Rattle.sat_core.proofs.query.log_of.Goals as goal
use Rattle.sat_core.proofs.query.log_of.Goals.{then-not-is_given+in_ok-push, else-not-is_given}

pub loop-k-init : goal.loop-k-init
loop-k-init g c = c.new-log.ensures ∙ sym (learned_nil c.args.marks.now)

pub loop-k-preserved : goal.loop-k-preserved
loop-k-preserved g c =
    let cs = g.P.Propagator.clauses c.args.inner.now in
    let ms = c.args.marks.now in
    let k = c.loop-k.k in
    let lt : k < length cs = omega (arith, c.loop-k-test.true, c.clause_count-k-end.ensures) in
    let more : take (k + 1) cs ≡ take k cs ++ get_or cs k [] ∷ [] = take_more cs k [] lt in
    let len : length (take k cs) ≡ k = length-take-le k cs (omega (arith, lt)) in
    elim c.if-not-is_given.branch [
      | then-not-is_given+in_ok-push w ↦
          let off : get_or ms k false ≡ false = sym c.is_given.ensures ∙ w.if-not-is_given.true in
          let here : get_or ms (length (take k cs)) false ≡ false = ap (λ n. get_or ms n false) len ∙ off in
          w.log-is ∙ w.in_ok-push.ensures.done ∙ ap (λ y. c.loop-k.log ++ y ∷ []) w.clause.ensures ∙ ap (λ ys. ys ++ get_or cs k [] ∷ []) c.loop-k.invariant
          ∙ sym (learned_take ms (take k cs) (get_or cs k []) here) ∙ ap (learned_of ms) (sym more)
      | else-not-is_given w ↦
          let on : get_or ms k false ≡ true = sym c.is_given.ensures ∙ w.if-not-is_given.false in
          let here : get_or ms (length (take k cs)) false ≡ true = ap (λ n. get_or ms n false) len ∙ on in
          w.log-is ∙ c.loop-k.invariant ∙ sym (learned_skip ms (take k cs) (get_or cs k []) here) ∙ ap (learned_of ms) (sym more)
    ]
