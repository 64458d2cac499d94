-- The numbers below the next one end where it begins; a purse with a ticket left has not answered Spent.
use Rattle.std.proofs.Common.{◌≡◌, ◌<◌, ◌≤◌, Bool, true, false, refl, arith, add-one}
use Rattle.effort_purse.specs.Drawing.{past, numbers_below}
use Rattle.effort_purse.proofs.Past.{past-numbers_below}
use Rattle.effort_purse.proofs.plain.PlainPursePurse.draw.Goals as goal

is_false : (b : Bool) → (b ≡ true → ⊥) → b ≡ false
is_false true h = absurd (h refl)
is_false false h = refl

pub returns-then-self-clause-drawn : goal.returns-then-self-clause-drawn
returns-then-self-clause-drawn c =
    let p = c.args.self.now in
    let below : p.next < p.budget = omega arith in
    let above : past (numbers_below p.next) ≤ p.next = omega (arith, past-numbers_below p.next) in
    let fresh : p.spent ≡ false = is_false p.spent (λ e. let all = p.used_up e in omega arith) in
    rw add-one (below, above, refl, fresh, fresh)
