-- A value among others.
use Rattle.std.proofs.Common.{List, ap, subst, sym, ◌∙◌}
use Rattle.std.specs.Prelude.{All}
use Rattle.std.specs.List.{list_any}
use Rattle.bit_outcomes.specs.declared.told.Member.{Member}
use Rattle.bit_outcomes.specs.Telling.{IsThere, is_member}
use Rattle.bit_outcomes.proofs.OfOperands.{included_told}
use Rattle.bit_outcomes.proofs.operators.is_among.Goals as goal

pub returns-in_ok-fault-in-Some-clause-told : goal.returns-in_ok-fault-in-Some-clause-told
returns-in_ok-fault-in-Some-clause-told c = λ v p q h a b.
    let second = c.in_ok-fault-in-Some.ensures.extends.kept v h in
    let first = c.in_ok-e-in-Some.ensures.extends.kept v second in
    let row = rw c.in-Some.is at c.in_ok-as_row.ensures.told in
    let members = c.as_slice.ensures in
    included_told v c.args.f c.in-Some.row.fault c.in_ok-fault-in-Some.fault c.in_ok-e-in-Some.e c.args.x.now c.in-Some.row.members (c.in_ok-fault-in-Some.ensures.value v h)
    (λ w d t. c.in_ok-e-in-Some.ensures.value v w second d (subst (λ (ms : List Member). All (IsThere v) ms) (sym members) t) ∙ ap (list_any (is_member v w)) members) p q a (row v q first b)
