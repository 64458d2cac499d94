use Rattle.std.proofs.Common.{◌≡◌, ℕ, ◌-◌, ◌∙◌, suc, sym, [], length, get_or, inr, ap, arith}
use Rattle.std.proofs.lemmas.List.{nil_from_length}
use Rattle.rup_check.proofs.searching.find_hints.Goals as goal

pub returns-then-get-ne0 : goal.returns-then-get-ne0
returns-then-get-ne0 c =
    let n = c.len-n.result in
    let says = rw c.in-Found.is at c.in_ok-step.ensures in (
      λ j lt. says.0 j (omega arith),
      inr (
        omega arith,
        λ e.
            let at : n - 1 ≡ e.0 = omega (arith, e.1) in
            let empty : c.get.result.now ≡ [] = c.get.ensures ∙ (rw at e.2) in
            c.if-get-ne0.true (ap length empty),
      ),
    )

pub returns-else-get-ne0 : goal.returns-else-get-ne0
returns-else-get-ne0 c =
    let n = c.len-n.result in
    let log = c.args.log.now in
    let says = rw c.in-Found.is at c.in_ok-step.ensures in
    let whole : length log ≡ suc (n - 1) = omega arith in
    let none : length c.get.result.now ≡ 0 = omega arith in
    let empty : get_or log (n - 1) [] ≡ [] = sym c.get.ensures ∙ nil_from_length _ none in
    ((says.0, (n - 1, whole, empty)), (says.1, says.2.last (n - 1) whole empty))
