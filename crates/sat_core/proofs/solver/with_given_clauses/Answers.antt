use Rattle.std.proofs.Common.{◌≡◌, ◌<◌, ◌+◌, ◌++◌, ◌∷◌, [], List, true, false, length, take, get_or, sym, ap, ◌∙◌, arith}
use Rattle.std.proofs.lemmas.List.{take_more, length-take-le}
use Rattle.clause_core.specs.declared.literal.Lit.{Lit}
use Rattle.sat_prop.specs.declared.trail.Trail.{Trail}
use Rattle.sat_core.specs.Queries.{State, given_of}
use Rattle.sat_core.proofs.Origins.{given_nil, given_skip, given_take}
use Rattle.sat_core.proofs.solver.with_given_clauses.Goals as goal
use Rattle.sat_core.proofs.solver.with_given_clauses.Goals.{then-is_given+in_ok-push, else-is_given}

pub clauses-init : goal.clauses-init
clauses-init g c =
    let v = length (g.P.Propagator.trail c.args.inner.now).values.items in
    let same : length c.as_slice-vars.result.now ≡ v = ap length c.as_slice-vars.ensures.value ∙ ap (λ (t : Trail). length t.values.items) c.assignment.ensures in
    let S : List (List Lit) → State = λ cs. record { vars = v; given = cs; learned = [] } in
    c.in_ok-solver.ensures ∙ ap (λ n. record { vars = n; given = []; learned = [] }) same ∙ ap S (sym (given_nil c.args.marks.now))

pub clauses-preserved : goal.clauses-preserved
clauses-preserved g c =
    let cs = g.P.Propagator.clauses c.args.inner.now in
    let ms = c.args.marks.now in
    let k = c.clauses.k in
    let v = length (g.P.Propagator.trail c.args.inner.now).values.items in
    let S : List (List Lit) → State = λ xs. record { vars = v; given = xs; learned = [] } in
    let lt : k < length cs = omega (arith, c.clauses-test.true, c.clause_count-k-end.ensures) in
    let more : take (k + 1) cs ≡ take k cs ++ get_or cs k [] ∷ [] = take_more cs k [] lt in
    let len : length (take k cs) ≡ k = length-take-le k cs (omega (arith, lt)) in
    elim c.if-is_given.branch [
      | then-is_given+in_ok-push w ↦
          let on : get_or ms k false ≡ true = sym c.is_given.ensures ∙ w.if-is_given.true in
          let here : get_or ms (length (take k cs)) false ≡ true = ap (λ n. get_or ms n false) len ∙ on in
          w.solver-is ∙ w.in_ok-push.ensures.done ∙ ap (λ (s : State). record s { given = s.given ++ w.clause.result.now ∷ [] }) c.clauses.invariant
          ∙ ap (λ y. S (given_of ms (take k cs) ++ y ∷ [])) w.clause.ensures ∙ ap S (sym (given_take ms (take k cs) (get_or cs k []) here)) ∙ ap (λ xs. S (given_of ms xs)) (sym more)
      | else-is_given w ↦
          let off : get_or ms k false ≡ false = sym c.is_given.ensures ∙ w.if-is_given.false in
          let here : get_or ms (length (take k cs)) false ≡ false = ap (λ n. get_or ms n false) len ∙ off in
          w.solver-is ∙ c.clauses.invariant ∙ ap S (sym (given_skip ms (take k cs) (get_or cs k []) here)) ∙ ap (λ xs. S (given_of ms xs)) (sym more)
    ]
