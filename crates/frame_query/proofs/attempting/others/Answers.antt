use Rattle.std.proofs.Common.{◌≡◌, ◌++◌, ◌∷◌, [], List, take, get_or, length, subst, sym, arith, ◌<◌}
use Rattle.std.proofs.lemmas.List.{take_more, take_all}
use Rattle.clause_core.specs.declared.literal.Lit.{Lit}
use Rattle.clause_core.specs.Literals.{none_lit}
use Rattle.frame_query.specs.Trying.{IsOthers}
use Rattle.frame_query.proofs.Begun.{others_none}
use Rattle.frame_query.proofs.Tried.{others_push, others_skip}
use Rattle.frame_query.proofs.attempting.others.Goals as goal
use Rattle.frame_query.proofs.attempting.others.Goals.{then-not-is_same+in_ok-push, else-not-is_same}

pub literals-preserved : goal.literals-preserved
literals-preserved c =
    let xs = c.args.literals.now in
    let i = c.literals.m-index in
    let rest = c.literals.rest.items in
    let lt : i < length xs = c.literals-test.true in
    let m : Lit = get_or xs i none_lit in
    let more = take_more xs i none_lit lt in
    let P : List Lit → Type 0 = λ zs. IsOthers zs c.args.l c.if-not-is_same.rest.items in
    let Q : List Lit → Type 0 = λ ys. IsOthers (take i xs ++ m ∷ []) c.args.l ys in
    elim c.if-not-is_same.branch [
      | then-not-is_same+in_ok-push w ↦
          let e : c.if-not-is_same.rest.items ≡ rest ++ m ∷ [] = cc (w.rest-is, w.in_ok-push.ensures.items) in
          subst P (sym more) (subst Q (sym e) (others_push (take i xs) c.args.l rest m w.if-not-is_same.ensures c.literals.invariant))
      | else-not-is_same w ↦
          let e : c.if-not-is_same.rest.items ≡ rest = cc w.rest-is in
          subst P (sym more) (subst Q (sym e) (others_skip (take i xs) c.args.l rest m w.if-not-is_same.ensures c.literals.invariant))
    ]

pub literals-init : goal.literals-init
literals-init c =
    let Q : List Lit → Type 0 = IsOthers [] c.args.l in
    subst Q (sym c.new-rest.ensures.items) (others_none c.args.l)

pub returns : goal.returns
returns c =
    let P : List Lit → Type 0 = λ xs. IsOthers xs c.args.l c.literals.rest.items in
    subst P (take_all c.literals.m-index c.args.literals.now (omega (arith, c.literals-test.false))) c.literals.invariant
