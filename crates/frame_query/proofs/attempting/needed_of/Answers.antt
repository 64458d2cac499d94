use Rattle.std.proofs.Common.{◌≡◌, ◌++◌, ◌∷◌, [], List, take, get_or, length, subst, sym, arith, ◌<◌}
use Rattle.std.specs.Prelude.{◌⊎◌, Contains}
use Rattle.std.proofs.lemmas.List.{take_more, take_all}
use Rattle.clause_core.specs.declared.literal.Lit.{Lit}
use Rattle.clause_core.specs.Literals.{none_lit}
use Rattle.frame_query.specs.Trying.{IsNeeded}
use Rattle.frame_query.proofs.Begun.{needed_none}
use Rattle.frame_query.proofs.Tried.{needed_push, needed_skip}
use Rattle.frame_query.proofs.attempting.needed_of.Goals as goal
use Rattle.frame_query.proofs.attempting.needed_of.Goals.{then-is_wanted+in_ok-push, else-is_wanted}

pub literals-preserved : goal.literals-preserved
literals-preserved c =
    let left = c.args.left.now in
    let i = c.literals.l-index in
    let needed = c.literals.needed.items in
    let lt : i < length left = c.literals-test.true in
    let l : Lit = get_or left i none_lit in
    let more = take_more left i none_lit lt in
    let P : List Lit → Type 0 = λ xs. IsNeeded xs c.args.part.now c.args.met.now c.if-is_wanted.needed.items in
    let Q : List Lit → Type 0 = λ ys. IsNeeded (take i left ++ l ∷ []) c.args.part.now c.args.met.now ys in
    let R : List Lit → Type 0 = λ ps. Contains ps l ⊎ Contains c.args.met.now l → ⊥ in
    let S : List Lit → Type 0 = λ ms. Contains c.new-part.result l ⊎ Contains ms l → ⊥ in
    elim c.if-is_wanted.branch [
      | then-is_wanted+in_ok-push w ↦
          let e : c.if-is_wanted.needed.items ≡ needed ++ l ∷ [] = cc (w.needed-is, w.in_ok-push.ensures.items) in
          subst P (sym more) (subst Q (sym e) (needed_push (take i left) c.args.part.now c.args.met.now needed l c.literals.invariant))
      | else-is_wanted w ↦
          let e : c.if-is_wanted.needed.items ≡ needed = cc w.needed-is in
          subst P (sym more) (subst Q (sym e) (needed_skip (take i left) c.args.part.now c.args.met.now needed l c.literals.invariant
          (subst R c.new-part.ensures (subst S c.new-met.ensures w.if-is_wanted.ensures))))
    ]

pub literals-init : goal.literals-init
literals-init c =
    let Q : List Lit → Type 0 = IsNeeded [] c.args.part.now c.args.met.now in
    subst Q (sym c.new-needed.ensures.items) (needed_none c.args.part.now c.args.met.now)

pub returns : goal.returns
returns c =
    let P : List Lit → Type 0 = λ xs. IsNeeded xs c.args.part.now c.args.met.now c.literals.needed.items in
    subst P (take_all c.literals.l-index c.args.left.now (omega (arith, c.literals-test.false))) c.literals.invariant
