-- The conditions are met where both edges are true.
use Rattle.std.proofs.Common.{◌≡◌, ◌∙◌, Bool, true, ◌&&◌, List, ap, subst, arith}
use Rattle.bit_graph.specs.Values.{value_under, values}
use Rattle.bit_clauses.specs.declared.either.Either.{Either}
use Rattle.bit_clauses.specs.Asserted.{all_hold}
use Rattle.bit_clauses.specs.Gated.{DecidesGroup}
use Rattle.bit_clauses.proofs.Deciders.{decides_as}
use Rattle.bit_faults.proofs.questions.decided_both.Goals as goal

-- two conditions, asked for one after the other
two_asked : (z o p a b : Bool) → z ≡ true → o ≡ (z && a) → p ≡ (o && b) → p ≡ (a && b)
two_asked z o p a b none first second = second ∙ ap (λ (x : Bool). x && b) (first ∙ ap (λ (x : Bool). x && a) none)

pub returns-clause-decides : goal.returns-clause-decides
returns-clause-decides c =
    let g = c.args.graph.now in
    let n = c.args.named in
    let x = c.args.one in
    let e = c.args.other in
    let cs = c.in_ok-decided.decided.clauses in
    let none = c.new-asked.result.items in
    let one = c.ask.new.asked.items in
    let two = c.ask-2.new.asked.items in
    decides_as n cs (λ y. all_hold (values y g) two) (λ y. value_under y g x && value_under y g e)
    (λ y.
    let v = values y g in
    let h = (c.one_way.ensures.law.some y).0 in
    two_asked (all_hold v none) (all_hold v one) (all_hold v two) (value_under y g x) (value_under y g e)
    (ap (all_hold v) c.new-asked.ensures.items) (c.in_ok-ask.ensures.holds v h) (c.in_ok-ask-2.ensures.holds v h))
    (subst (λ (es : List Either). DecidesGroup n g es cs) c.deref.ensures.value c.in_ok-decided.ensures.decides)

pub returns-clause-room : goal.returns-clause-room
returns-clause-room c = omega (arith, c.in_ok-decided.ensures.vars)
