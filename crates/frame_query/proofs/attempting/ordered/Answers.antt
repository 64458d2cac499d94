use Rattle.std.proofs.Common.{◌≡◌, ◌<◌, ◌++◌, ◌∷◌, [], ◌∙◌, ℕ, List, take, get_or, length, subst, sym, ap, arith, length-append}
use Rattle.std.proofs.lemmas.List.{take_more, take_all}
use Rattle.std.proofs.lemmas.Result.{IfOk-weaker}
use Rattle.clause_core.specs.declared.literal.Lit.{Lit}
use Rattle.clause_core.specs.Literals.{none_lit}
use Rattle.frame_core.specs.Facts.{IsPart}
use Rattle.frame_query.specs.Trying.{IsSplit}
use Rattle.frame_query.proofs.Tried.{split_none, split_inside, split_outside, split_all, split_only}
use Rattle.frame_query.proofs.attempting.ordered.Goals as goal
use Rattle.frame_query.proofs.attempting.ordered.Goals.{then-has+in_ok-push, else-has+in_ok-push-2}

pub literals-init : goal.literals-init
literals-init c =
    let P : List Lit → Type 0 = λ xs. IsSplit [] xs c.new-outside.result.items in
    let Q : List Lit → Type 0 = IsSplit [] [] in
    subst P (sym c.new-inside.ensures.items) (subst Q (sym c.new-outside.ensures.items) split_none)

pub literals-preserved : goal.literals-preserved
literals-preserved c =
    let clause = c.args.clause.now in
    let i = c.literals.l-index in
    let inside = c.literals.inside.items in
    let outside = c.literals.outside.items in
    let lt : i < length clause = c.literals-test.true in
    let l : Lit = get_or clause i none_lit in
    let more = take_more clause i none_lit lt in
    let P : List Lit → Type 0 = λ xs. IsSplit xs c.if-has.inside.items c.if-has.outside.items in
    let Q : List Lit → Type 0 = λ ys. IsSplit (take i clause ++ l ∷ []) ys c.if-has.outside.items in
    let R : List Lit → Type 0 = λ zs. IsSplit (take i clause ++ l ∷ []) (inside ++ l ∷ []) zs in
    let S : List Lit → Type 0 = λ zs. IsSplit (take i clause ++ l ∷ []) inside zs in
    elim c.if-has.branch [
      | then-has+in_ok-push w ↦
          let e : c.if-has.inside.items ≡ inside ++ l ∷ [] = cc (w.inside-is, w.in_ok-push.ensures.items) in
          let f : c.if-has.outside.items ≡ outside = cc w.outside-is in
          subst P (sym more) (subst Q (sym e) (subst R (sym f) (split_inside (take i clause) inside outside l c.literals.invariant)))
      | else-has+in_ok-push-2 w ↦
          let e : c.if-has.inside.items ≡ inside = cc w.inside-is in
          let f : c.if-has.outside.items ≡ outside ++ l ∷ [] = cc (w.outside-is, w.in_ok-push-2.ensures.items) in
          subst P (sym more) (subst Q (sym e) (subst S (sym f) (split_outside (take i clause) inside outside l c.literals.invariant)))
    ]

whole : (clause : List Lit) (i : ℕ) (inside outside : List Lit) → (i < length clause → ⊥) → IsSplit (take i clause) inside outside → IsSplit clause inside outside
whole clause i inside outside past h =
    let P : List Lit → Type 0 = λ xs. IsSplit xs inside outside in
    subst P (take_all i clause (omega (arith, past))) h

pub returns-clause-enough : goal.returns-clause-enough
returns-clause-enough c =
    let clause = c.args.clause.now in
    let inside = c.literals.inside.items in
    let outside = c.literals.outside.items in
    let split = whole clause c.literals.l-index inside outside (λ lt. omega (arith, lt, c.literals-test.false)) c.literals.invariant in
    IfOk-weaker c.both.result (λ v. v.items ≡ c.deref.result.now ++ c.deref-2.result.now) (λ v. IsPart clause v.items)
    (λ v e. subst (IsPart clause) (sym (e ∙ ap (λ xs. xs ++ c.deref-2.result.now) c.deref.ensures.value ∙ ap (λ xs. inside ++ xs) c.deref-2.ensures.value))
    (split_all clause inside outside none_lit split)) c.both.ensures

pub returns-clause-only : goal.returns-clause-only
returns-clause-only c =
    let clause = c.args.clause.now in
    let inside = c.literals.inside.items in
    let outside = c.literals.outside.items in
    let split = whole clause c.literals.l-index inside outside (λ lt. omega (arith, lt, c.literals-test.false)) c.literals.invariant in
    let P : List Lit → Type 0 = λ xs. IsPart xs clause in
    IfOk-weaker c.both.result (λ v. v.items ≡ c.deref.result.now ++ c.deref-2.result.now) (λ v. IsPart v.items clause)
    (λ v e. subst P (sym (e ∙ ap (λ xs. xs ++ c.deref-2.result.now) c.deref.ensures.value ∙ ap (λ xs. inside ++ xs) c.deref-2.ensures.value))
    (split_only clause inside outside none_lit split)) c.both.ensures

pub returns-clause-many : goal.returns-clause-many
returns-clause-many c =
    let clause = c.args.clause.now in
    let inside = c.literals.inside.items in
    let outside = c.literals.outside.items in
    let split = whole clause c.literals.l-index inside outside (λ lt. omega (arith, lt, c.literals-test.false)) c.literals.invariant in
    IfOk-weaker c.both.result (λ v. v.items ≡ c.deref.result.now ++ c.deref-2.result.now) (λ v. length v.items ≡ length clause)
    (λ v e. ap length (e ∙ ap (λ xs. xs ++ c.deref-2.result.now) c.deref.ensures.value ∙ ap (λ xs. inside ++ xs) c.deref-2.ensures.value)
    ∙ omega (arith, split.many, length-append inside outside)) c.both.ensures
