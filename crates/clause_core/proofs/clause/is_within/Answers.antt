use Rattle.std.proofs.Common.{◌≡◌, ◌<◌, List, take, subst, refl, arith}
use Rattle.std.proofs.lemmas.List.{take_all}
use Rattle.std.proofs.lemmas.List.Elements.{All-more}
use Rattle.clause_core.specs.declared.literal.Lit.{Lit}
use Rattle.clause_core.specs.Literals.{Within, none_lit}
use Rattle.clause_core.proofs.clause.is_within.Goals as goal

pub loop-l-preserved : goal.loop-l-preserved
loop-l-preserved c =
    All-more (λ l. l.var < c.args.vars) c.args.lits.now c.loop-l.l-index none_lit (omega arith) c.loop-l.invariant (omega arith)

pub returns : goal.returns
returns c =
    let e : take c.loop-l.l-index c.args.lits.now ≡ c.args.lits.now = take_all _ _ (omega arith) in
    let P : List Lit → Type 0 = Within c.args.vars in
    ((λ _. subst P e c.loop-l.invariant), λ _. refl)
