use Rattle.std.proofs.Common.{◌≡◌, ◌++◌, ◌∷◌, [], ◌<◌, List, get_or, length, subst, sym, ap, arith, length-append}
use Rattle.std.specs.Prelude.{Contains}
use Rattle.std.proofs.lemmas.List.Elements.{All-push, Contains-get_or}
use Rattle.clause_core.specs.declared.literal.Lit.{Lit}
use Rattle.clause_core.specs.Literals.{none_lit}
use Rattle.frame_core.specs.Facts.{IsPart}
use Rattle.frame_query.proofs.attempting.hinted.Goals as goal
use Rattle.frame_query.proofs.attempting.hinted.Goals.{then-has+in_ok-push, else-has}

pub literals-preserved : goal.literals-preserved
literals-preserved c =
    let literals = c.args.literals.now in
    let hint = c.args.hint.now in
    let i = c.literals.l-index in
    let old = c.literals.both.items in
    let lt : i < length literals = c.literals-test.true in
    let l : Lit = get_or literals i none_lit in
    let inv = c.literals.invariant in
    let P : List Lit → Type 0 = λ xs. IsPart xs literals in
    let Q : List Lit → Type 0 = λ xs. IsPart xs hint in
    elim c.if-has.branch [
      | then-has+in_ok-push w ↦
          let e : c.if-has.both.items ≡ old ++ l ∷ [] = cc (w.both-is, w.in_ok-push.ensures.items) in
          record {
            only = subst P (sym e) (All-push (Contains literals) old l inv.only (Contains-get_or literals i none_lit lt));
            inside = subst Q (sym e) (All-push (Contains hint) old l inv.inside (subst (λ (xs : List Lit). Contains xs l) c.new-hint.ensures w.if-has.ensures));
            fewer = omega (arith, ap length e, length-append old (l ∷ []), inv.fewer);
          }
      | else-has w ↦
          let e : c.if-has.both.items ≡ old = cc w.both-is in
          record {
            only = subst P (sym e) inv.only;
            inside = subst Q (sym e) inv.inside;
            fewer = omega (arith, ap length e, inv.fewer);
          }
    ]
