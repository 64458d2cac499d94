use Rattle.std.proofs.Common.{◌∙◌, length, sym}
use Rattle.effort_purse.specs.Seats.{is_spent, tickets_of}
use Rattle.prove_ltl.proofs.Counted.{climbs_so, unspent_used}
use Rattle.prove_ltl.proofs.together.count_together.Goals as goal

pub returns-clause-climbs : goal.returns-clause-climbs
returns-clause-climbs g c =
    let effort = c.args.effort.now in
    let f = c.args.frames in
    let found = c.in-Some.explored in
    let seat = c.in_ok-explored.field-0.seat in
    let r = c.in_ok-counting.counting in
    let explored = rw c.in-Some.is at c.in_ok-explored.ensures.explored in
    climbs_so effort c.args.monitored.now.system c.args.k found.history.items found.frames (is_spent seat) c.args.work.items (tickets_of seat) (tickets_of r.seat)
    (is_spent r.seat) r.climbed c.in_ok-counting.ensures.climbs f.systems f.lemmas (length (tickets_of c.args.seat)) c.requires.counted explored
    (unspent_used effort (tickets_of r.seat) (is_spent r.seat) (sym c.seen_spent.ensures ∙ c.if-seen_spent.false))
