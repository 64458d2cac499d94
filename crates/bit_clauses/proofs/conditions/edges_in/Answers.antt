-- One clause more.
use Rattle.std.proofs.Common.{◌<◌, length, arith}
use Rattle.bit_clauses.proofs.Joining.{edges_more}
use Rattle.bit_clauses.proofs.conditions.edges_in.Goals as goal

pub clauses-preserved : goal.clauses-preserved
clauses-preserved c =
    let lt : c.clauses.k < length c.args.clauses.now = omega arith in
    edges_more c.args.clauses.now c.clauses.k lt c.clauses.edges.items c.push_edges.new.edges.items c.get.result.now c.get.ensures c.clauses.invariant c.in_ok-push_edges.ensures
