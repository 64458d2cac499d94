-- The opposite edge has the opposite value.
use Rattle.std.proofs.Common.{◌≡◌, ◌∙◌, Bool, true, false, not, refl, ap}
use Rattle.bit_graph.specs.Meaning.{exclusive_or}
use Rattle.bit_graph.specs.Values.{value_under, values}
use Rattle.bit_clauses.proofs.Deciders.{decides_as}
use Rattle.bit_system.proofs.OfSides.{all_within_more}
use Rattle.bit_system.proofs.sides.claim_side.Goals as goal

flipped : (n b : Bool) → exclusive_or (not n) b ≡ not (exclusive_or n b)
flipped true true = refl
flipped true false = refl
flipped false true = refl
flipped false false = refl

pub returns : goal.returns
returns c =
    let g = c.args.graph.now in
    let n = c.args.width in
    let e = c.args.edge in
    let bad = c.in_ok-bad.bad in
    let good = c.in_ok-good.good in
    let most = c.higher-vars.result in
    record {
      bad = c.in_ok-bad.ensures.decides;
      good = decides_as n good.clauses (λ x. value_under x g c.negation.result) (λ x. not (value_under x g e)) (λ x. ap (value_under x g) c.negation.ensures ∙ flipped e.negated (values x g e.node)) c.in_ok-good.ensures.decides;
      bad_within = all_within_more bad.vars most bad.clauses c.higher-vars.ensures.first c.in_ok-bad.ensures.within;
      good_within = all_within_more good.vars most good.clauses c.higher-vars.ensures.second c.in_ok-good.ensures.within;
    }
