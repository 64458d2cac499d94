use Rattle.std.proofs.Common.{arith}
use Rattle.rup_check.proofs.Walking.{before_unit}
use Rattle.rup_check.proofs.chains.clause_at.Goals as goal

pub returns-then-unit-units-clause-some : goal.returns-then-unit-units-clause-some
returns-then-unit-units-clause-some c =
    before_unit c.args.clauses.now c.args.units.now c.args.steps.now c.args.count c.args.number _ (omega arith) (omega arith) (omega arith)
