use Rattle.std.proofs.Common.{Bool, subst}
use Rattle.effort_purse.specs.Seats.{is_spent, tickets_of}
use Rattle.prove_ltl.specs.Climbing.{ClimbsBy}
use Rattle.prove_ltl.proofs.together.counted_by.Goals as goal

pub returns-clause-climbs : goal.returns-clause-climbs
returns-clause-climbs c =
    let seat = c.climbed_by.new.purse.seat in
    subst (λ (over : Bool). ClimbsBy c.args.effort.now c.args.monitored.now.system c.args.k c.args.explored.history.items c.args.explored.frames over
    c.args.work.items (tickets_of c.args.seat) (tickets_of seat) (is_spent seat) c.in_ok-climbed.climbed) c.seen_spent-over.ensures c.in_ok-climbed.ensures.climbs
