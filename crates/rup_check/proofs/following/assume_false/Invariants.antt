use Rattle.std.proofs.Common.{Bool, take}
use Rattle.clause_core.specs.declared.literal.Lit.{Lit}
use Rattle.clause_core.specs.Propagation.{AllFalse}
use Rattle.clause_core.specs.Values.{holds, Includes}
use Rattle.rup_check.proofs.following.assume_false.Given as goal

abbrev pub invariant-loop-x : goal.invariant-loop-x
invariant-loop-x l =
    record {
      done : AllFalse (holds l.values) (take l.x-index l.c);
      kept : (t : Lit → Bool) → AllFalse t l.c → Includes l.values t;
    }
