use Rattle.std.proofs.Common.{◌≡◌, List, take, true, sym, subst, arith, refl, ◌∙◌}
use Rattle.std.specs.List.{All}
use Rattle.std.proofs.lemmas.List.{take_all}
use Rattle.std.proofs.lemmas.List.Elements.{All-more}
use Rattle.clause_core.specs.declared.literal.Lit.{Lit}
use Rattle.clause_core.specs.Literals.{none_lit}
use Rattle.frame_core.specs.Looking.{has_literal}
use Rattle.frame_core.proofs.subset.is_part.Goals as goal

pub loop-l-preserved : goal.loop-l-preserved
loop-l-preserved c =
    All-more (λ m. has_literal c.args.set.now m ≡ true) c.args.clause.now c.loop-l.l-index none_lit c.loop-l-test.true c.loop-l.invariant (sym c.has.ensures ∙ c.if-not-has.false)

pub returns : goal.returns
returns c =
    let e : take c.loop-l.l-index c.args.clause.now ≡ c.args.clause.now = take_all _ _ (omega arith) in
    let P : List Lit → Type 0 = All (λ m. has_literal c.args.set.now m ≡ true) in
    (λ t. subst P e c.loop-l.invariant, λ h. refl)
