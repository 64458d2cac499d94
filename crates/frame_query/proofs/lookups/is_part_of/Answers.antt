use Rattle.std.proofs.Common.{◌≡◌, List, true, false, take, get_or, subst, arith, refl}
use Rattle.std.specs.List.{All, Contains}
use Rattle.std.proofs.lemmas.List.{take_all}
use Rattle.std.proofs.lemmas.List.Elements.{All-more}
use Rattle.clause_core.specs.declared.literal.Lit.{Lit}
use Rattle.clause_core.specs.Literals.{none_lit}
use Rattle.frame_query.proofs.lookups.is_part_of.Goals as goal

pub loop-l-preserved : goal.loop-l-preserved
loop-l-preserved c =
    let l : Lit = get_or c.args.part.now c.loop-l.l-index none_lit in
    All-more (Contains c.args.whole.now) c.args.part.now c.loop-l.l-index none_lit c.loop-l-test.true c.loop-l.invariant
    (subst (λ (xs : List Lit). Contains xs l) c.new-lookup.ensures c.if-not-has.ensures)

pub returns-then-not-has : goal.returns-then-not-has
returns-then-not-has c =
    let l : Lit = get_or c.args.part.now c.loop-l.l-index none_lit in
    let none : Contains c.args.whole.now l → ⊥ = subst (λ (xs : List Lit). Contains xs l → ⊥) c.new-lookup.ensures c.if-not-has.ensures in (
      (λ t. let bad : false ≡ true = t in cc),
      (λ h. absurd (none (h c.loop-l.l-index none_lit c.loop-l-test.true))),
    )

pub returns : goal.returns
returns c =
    let e : take c.loop-l.l-index c.args.part.now ≡ c.args.part.now = take_all _ _ (omega arith) in
    let P : List Lit → Type 0 = All (Contains c.args.whole.now) in
    (λ t. subst P e c.loop-l.invariant, λ h. refl)
