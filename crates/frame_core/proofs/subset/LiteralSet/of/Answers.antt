use Rattle.std.proofs.Common.{◌≡◌, Bool, List, take, get_or, true, sym, subst, arith, ◌∙◌, inl, inr}
use Rattle.std.specs.List.{All, Contains}
use Rattle.std.proofs.lemmas.List.{take_all}
use Rattle.std.proofs.lemmas.List.Elements.{All-more, All-contains, Contains-get_or}
use Rattle.clause_core.specs.declared.literal.Lit.{Lit}
use Rattle.clause_core.specs.Literals.{none_lit}
use Rattle.frame_core.specs.Looking.{has_literal}
use Rattle.frame_core.proofs.subset.LiteralSet.of.Goals as goal

pub literals-preserved : goal.literals-preserved
literals-preserved c =
    let new : List Bool × List Bool = (c.mark.new.positive.items, c.mark.new.negative.items) in
    let clause = c.args.clause.now in
    let i = c.literals.l-index in record {
      positive = c.mark.ensures.positive ∙ c.literals.invariant.positive;
      negative = c.mark.ensures.negative ∙ c.literals.invariant.negative;
      has = All-more (λ m. has_literal new m ≡ true) clause i none_lit c.literals-test.true
          (λ k d lt. c.mark.ensures.grows (get_or (take i clause) k d) (c.literals.invariant.has k d lt)) c.mark.ensures.here;
      only = λ m on. elim (c.mark.ensures.only m on) [
        | inl e ↦ (let P : Lit → Type 0 = Contains clause in subst P (sym e) (Contains-get_or clause i none_lit c.literals-test.true))
        | inr was ↦ c.literals.invariant.only m was
      ];
    }

pub returns : goal.returns
returns c =
    let marks : List Bool × List Bool = (c.literals.positive.items, c.literals.negative.items) in
    let e : take c.literals.l-index c.args.clause.now ≡ c.args.clause.now = take_all _ _ (omega arith) in
    let P : List Lit → Type 0 = All (λ m. has_literal marks m ≡ true) in
    λ l. (c.literals.invariant.only l, λ has. All-contains (λ m. has_literal marks m ≡ true) c.args.clause.now l (subst P e c.literals.invariant.has) has)
