use Rattle.std.proofs.Common.{arith}
use Rattle.clause_core.specs.Literals.{negate}
use Rattle.sat_prop.proofs.Attaching.{not_in_less}
use Rattle.sat_prop.proofs.acts.head_for.Goals as goal

pub returns-clause-open_a : goal.returns-clause-open_a
returns-clause-open_a c two =
    not_in_less c.args.trail.now.literals.items c.open_until.result c.open_until-m.result (negate c.args.h.a) c.open_until.ensures.low (omega (arith, c.open_until-m.ensures.low, c.requires.low))
    c.open_until-m.ensures.open
