use Rattle.std.proofs.Common.{◌∙◌, ℕ, List, [], sym, subst}
use Rattle.std.specs.Prelude.{None}
use Rattle.effort_purse.specs.Drawing.{numbers_below}
use Rattle.effort_purse.specs.Plain.{plain_count, plain_spent}
use Rattle.prove_run.proofs.Finished.{below_long}
use Rattle.prove_ltl.specs.Climbing.{Begins, Settles}
use Rattle.prove_ltl.proofs.Counted.{done_for, plain_used}
use Rattle.prove_ltl.proofs.proving.prove_alone.Goals as goal

pub returns-in-Some : goal.returns-in-Some
returns-in-Some g c =
    let effort = c.args.effort.now in
    let p = c.search_first.new.purse in
    (rw c.in-Some.is at c.in_ok-done.ensures.begins) (λ unknown. plain_used effort p (c.in_ok-done.ensures.budget ∙ c.new-purse.ensures.budget))

pub returns-in_ok-done-in-None : goal.returns-in_ok-done-in-None
returns-in_ok-done-in-None g c =
    let effort = c.args.effort.now in
    let sys = c.args.system.now in
    let m = c.args.monitored.now.system in
    let p = c.search_first.new.purse in
    let d = c.in_ok-done-in-None.done in
    let tickets : List ℕ = numbers_below (plain_count p) in
    let begins : Begins sys effort m tickets (plain_spent p) None = rw c.in-None.is at c.in_ok-done.ensures.begins in
    done_for sys effort m tickets (plain_spent p) d begins
    (subst (λ (n : ℕ). Settles effort m 0 [] [] n d) (sym (below_long (plain_count p))) c.in_ok-done-in-None.ensures)
