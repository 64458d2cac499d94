use Rattle.std.proofs.Common.{Bool, ◌++◌, take}
use Rattle.clause_core.specs.declared.literal.Lit.{Lit}
use Rattle.clause_core.specs.Propagation.{AllFalse, Closed}
use Rattle.clause_core.specs.Values.{holds, Includes, unset}
use Rattle.rup_check.proofs.following.follows.Given as goal

abbrev pub invariant-rounds : goal.invariant-rounds
invariant-rounds l =
    record {
      done : AllFalse (holds l.values) l.c;
      kept : (t : Lit → Bool) → AllFalse t l.c → Closed t (l.clauses ++ take l.steps l.log) → Includes l.values t;
    }

abbrev pub decreases-rounds : goal.decreases-rounds
decreases-rounds l = unset l.values
