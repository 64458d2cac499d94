use Rattle.std.proofs.Common.{◌≡◌, length, arith}
use Rattle.sat_core.proofs.Refuting.{pair_core}
use Rattle.sat_core.proofs.refute.core_at_once.Goals as goal

pub returns-in_ok-core-in-Some-opposed : goal.returns-in_ok-core-in-Some-opposed
returns-in_ok-core-in-Some-opposed c =
    pair_core c.args.trail.now.literals.items c.args.assumptions.now c.in_ok-core-in-Some-opposed.core.items c.in-Some-opposed.a c.negated.result
    c.in_ok-core-in-Some-opposed.ensures.items c.negated.ensures c.in-Some-opposed.ensures.0 c.in-Some-opposed.ensures.1

pub returns-then-assumptions-eq0 : goal.returns-then-assumptions-eq0
returns-then-assumptions-eq0 c =
    let none : length c.args.assumptions.now ≡ 0 = omega (arith, c.if-assumptions-eq0.true) in
    ((λ k d lt. absurd (omega (arith, none, lt))), λ a has both. absurd (omega (arith, none, has.1)))
