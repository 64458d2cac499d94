use Rattle.std.proofs.Common.{arith, ◌∙◌}
use Rattle.sat_prop.proofs.Listing.{undone}
use Rattle.sat_prop.proofs.attach.list_both.Goals as goal

pub returns-in-Err-clause-failed : goal.returns-in-Err-clause-failed
returns-in-Err-clause-failed c =
    undone c.args.lists.now c.push-2.new.self c.pop.new.self c.cell_of-a.result (record { clause = c.args.k; blocker = c.args.h.b })
    (omega (arith, c.cell_of-a.ensures, c.requires.cells.a_cell c.requires.two)) (c.in-Err.ensures.failed ∙ c.in_ok-push.ensures.done) c.pop.ensures
