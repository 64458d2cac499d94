use Rattle.sat_prop.proofs.Keeping.{watching_retired}
use Rattle.sat_prop.proofs.acts.learn_on.Goals as goal

pub returns-clause-watching : goal.returns-clause-watching
returns-clause-watching c =
    watching_retired c.add_on.new.clauses c.args.trail.now c.add_on.new.rows c.retire_covered.new.rows c.add_on.new.lists c.add_on.new.short.items c.args.swept c.add_on.new.head
    c.retire_covered.ensures c.in_ok-add_on.ensures.watching
