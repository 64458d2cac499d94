-- What is asked for is the edge alone.
use Rattle.std.proofs.Common.{◌≡◌, ◌∙◌, ℕ, Bool, ◌&&◌, List, ap, subst}
use Rattle.bit_graph.specs.Values.{value_under, values}
use Rattle.bit_clauses.specs.declared.either.Either.{Either}
use Rattle.bit_clauses.specs.Asserted.{all_hold}
use Rattle.bit_clauses.specs.Gated.{DecidesGroup}
use Rattle.bit_clauses.proofs.Deciders.{decides_as}
use Rattle.bit_system.proofs.sides.clauses_of.Goals as goal

pub returns-clause-decides : goal.returns-clause-decides
returns-clause-decides c =
    let g = c.args.graph.now in
    let n = c.args.width in
    let e = c.args.edge in
    let asked = c.ask.new.asked.items in
    let r = c.in_ok-decided.decided in
    let same : (x : ℕ → Bool) → all_hold (values x g) asked ≡ value_under x g e =
    λ x.
    c.in_ok-ask.ensures.holds (values x g) (c.one_way.ensures.law.some x).0
    ∙ ap (λ (es : List Either). all_hold (values x g) es && value_under x g e) c.new-asked.ensures.items in
    decides_as n r.clauses (λ x. all_hold (values x g) asked) (λ x. value_under x g e) same
    (subst (λ (es : List Either). DecidesGroup n g es r.clauses) c.deref.ensures.value c.in_ok-decided.ensures.decides)
