use Rattle.std.proofs.Common.{◌≡◌, ◌∙◌, List, [], take, get_or, subst, sym, refl, arith}
use Rattle.std.specs.List.{All}
use Rattle.std.proofs.lemmas.List.{take_all}
use Rattle.std.proofs.lemmas.List.Elements.{All-more}
use Rattle.clause_core.specs.declared.literal.Lit.{Lit}
use Rattle.clause_core.specs.Literals.{Within}
use Rattle.clause_core.proofs.clause.Clauses.is_within.Goals as goal

pub loop-k-preserved : goal.loop-k-preserved
loop-k-preserved c =
    let P : List Lit → Type 0 = Within c.args.vars in
    let now : P (get_or c.args.self.now c.loop-k.k []) = subst P c.get.ensures (c.is_within.ensures.0 c.if-not-is_within.false) in
    All-more P c.args.self.now c.loop-k.k [] (omega arith) c.loop-k.invariant now

pub returns-then-not-is_within : goal.returns-then-not-is_within
returns-then-not-is_within c =
    let P : List Lit → Type 0 = Within c.args.vars in (
      (λ e. cc),
      λ all. sym c.if-not-is_within.true ∙ c.is_within.ensures.1 (subst P (sym c.get.ensures) (all c.loop-k.k [] (omega arith))),
    )

pub returns : goal.returns
returns c =
    let e : take c.loop-k.k c.args.self.now ≡ c.args.self.now = take_all _ _ (omega arith) in
    let P : List (List Lit) → Type 0 = All (Within c.args.vars) in
    ((λ _. subst P e c.loop-k.invariant), λ _. refl)
