-- A value among those of the expression.
use Rattle.std.proofs.Common.{List, ap, subst, sym, ◌∙◌}
use Rattle.std.specs.Prelude.{All}
use Rattle.std.specs.List.{list_any}
use Rattle.bit_outcomes.specs.declared.told.Member.{Member}
use Rattle.bit_outcomes.specs.Telling.{IsThere, is_member}
use Rattle.bit_outcomes.proofs.OfAsked.{takes_told}
use Rattle.bit_outcomes.proofs.items.takes_value.Goals as goal

pub returns-in_ok-edge-in-Some-clause-value : goal.returns-in_ok-edge-in-Some-clause-value
returns-in_ok-edge-in-Some-clause-value c = λ v p q h a b i j.
    let third = c.in_ok-edge-in-Some.ensures.extends.kept v h in
    let second = c.in_ok-failed-in-Some.ensures.extends.kept v third in
    let first = c.in_ok-any-in-Some.ensures.extends.kept v second in
    let row = rw c.in-Some.is at c.in_ok-row.ensures.told in
    let members = c.as_slice.ensures in
    takes_told v c.args.f c.in-Some.row.fault c.in_ok-failed-in-Some.failed c.negation.result c.in_ok-any-in-Some.any c.in_ok-edge-in-Some.edge c.args.x.now c.in-Some.row.members
    (c.in_ok-failed-in-Some.ensures.value v third) c.negation.ensures (c.in_ok-edge-in-Some.ensures.value v h)
    (λ w d t. c.in_ok-any-in-Some.ensures.value v w second d (subst (λ (ms : List Member). All (IsThere v) ms) (sym members) t) ∙ ap (list_any (is_member v w)) members)
    p q a (row v q first b) i j
