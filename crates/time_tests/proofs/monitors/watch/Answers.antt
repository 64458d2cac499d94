use Rattle.std.proofs.Common.{List, sym, subst, arith}
use Rattle.clause_core.specs.declared.literal.Lit.{Lit}
use Rattle.clause_core.specs.Systems.{Gives}
use Rattle.clause_core.proofs.Definitions.{Gives-none}
use Rattle.time_tests.proofs.monitors.watch.Goals as goal

pub monitored-requires-clause-within : goal.monitored-requires-clause-within
monitored-requires-clause-within c = λ k d lt. (let h = c.requires.within k d lt in omega (arith, h, c.requires.all))

pub monitored-requires-clause-given : goal.monitored-requires-clause-given
monitored-requires-clause-given c =
    subst (λ (cs : List (List Lit)). Gives c.args.system.now.state_bits c.args.atoms.now cs) (sym c.requires.none)
    (Gives-none c.args.system.now.state_bits c.args.atoms.now c.requires.within)
