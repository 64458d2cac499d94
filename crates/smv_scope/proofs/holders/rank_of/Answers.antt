use Rattle.std.proofs.Common.{arith}
use Rattle.smv_scope.proofs.Counting.{rank_few, rank_told}
use Rattle.smv_scope.proofs.holders.rank_of.Goals as goal

pub returns-in-None-get-clause-rank : goal.returns-in-None-get-clause-rank
returns-in-None-get-clause-rank c =
    rank_told c.args.scope.now.program c.args.m c.args.v _ c.in-Some.table.now _ c.in-Some.ensures.value (c.args.scope.now.tabled c.args.m) c.in-None-get.ensures.value

pub returns-in-Some-get-clause-rank : goal.returns-in-Some-get-clause-rank
returns-in-Some-get-clause-rank c =
    rank_told c.args.scope.now.program c.args.m c.args.v _ c.in-Some.table.now _ c.in-Some.ensures.value (c.args.scope.now.tabled c.args.m) c.in-Some-get.ensures.value

pub returns-in-Some-get-clause-few : goal.returns-in-Some-get-clause-few
returns-in-Some-get-clause-few c =
    let p = c.args.scope.now.program in
    let rank = rank_told p c.args.m c.args.v _ c.in-Some.table.now _ c.in-Some.ensures.value (c.args.scope.now.tabled c.args.m) c.in-Some-get.ensures.value in
    omega (arith, rank, rank_few p c.args.m c.args.v)
