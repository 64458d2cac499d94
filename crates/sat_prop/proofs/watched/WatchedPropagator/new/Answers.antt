use Rattle.std.proofs.Common.{arith}
use Rattle.sat_prop.specs.Entries.{fits}
use Rattle.sat_prop.proofs.Keeping.{watching_none}
use Rattle.sat_prop.proofs.watched.WatchedPropagator.new.Goals as goal

pub invariant_of-result : goal.invariant_of-result
invariant_of-result c =
    let said = c.in_ok-trail.ensures in
    let lists = c.in_ok-lists.ensures in
    record {
      watching = watching_none c.new-3.result c.in_ok-trail.trail c.new-4.result c.in_ok-lists.lists c.new-5.result.items c.new-3.ensures c.new-4.ensures c.new-5.ensures.items said.literals said.level_starts
          (omega (arith, said.vars, c.if-vars.false)) (omega (arith, said.vars, lists.len)) (lists.empty (fits c.new-3.result));
    }
