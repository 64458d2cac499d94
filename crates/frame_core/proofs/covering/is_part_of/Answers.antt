use Rattle.std.proofs.Common.{◌≡◌, List, take, subst, arith, refl}
use Rattle.std.specs.List.{All, Contains}
use Rattle.std.proofs.lemmas.List.{take_all}
use Rattle.std.proofs.lemmas.List.Elements.{All-more}
use Rattle.clause_core.specs.declared.literal.Lit.{Lit}
use Rattle.clause_core.specs.Literals.{none_lit}
use Rattle.frame_core.proofs.covering.is_part_of.Goals as goal

pub loop-l-preserved : goal.loop-l-preserved
loop-l-preserved c =
    All-more (Contains c.args.whole.now) c.args.part.now c.loop-l.l-index none_lit c.loop-l-test.true c.loop-l.invariant
    (c.has_literal.ensures.0 c.if-not-has_literal.false)

pub returns : goal.returns
returns c =
    let e : take c.loop-l.l-index c.args.part.now ≡ c.args.part.now = take_all _ _ (omega arith) in
    let P : List Lit → Type 0 = All (Contains c.args.whole.now) in
    (λ t. subst P e c.loop-l.invariant, λ h. refl)
