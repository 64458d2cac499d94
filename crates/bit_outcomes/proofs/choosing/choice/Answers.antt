-- Where no branch is a set, it is the tail.
use Rattle.std.proofs.Common.{◌*◌, ℕ, drop, subst}
use Rattle.smv_meaning.specs.Outcomes.{choice}
use Rattle.bit_outcomes.specs.Telling.{Tells}
use Rattle.bit_outcomes.proofs.choosing.choice.Goals as goal

pub returns-then-tail-eq0-clause-told : goal.returns-then-tail-eq0-clause-told
returns-then-tail-eq0-clause-told c = λ rule place v os h all.
    subst (λ (n : ℕ). Tells v c.in_ok-tail.tail.told (choice rule place (drop (2 * n) os))) c.if-tail-eq0.true (c.in_ok-tail.ensures.told rule place v os h all)
