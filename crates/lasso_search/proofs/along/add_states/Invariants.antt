use Rattle.std.specs.Prelude.{Contains}
use Rattle.clause_core.specs.declared.literal.Lit.{Lit}
use Rattle.clause_core.specs.Literals.{Within}
use Rattle.lasso_search.proofs.along.add_states.Given as goal

abbrev pub invariant-loop-time : goal.invariant-loop-time
invariant-loop-time l =
    record {
      within : Within l.vars l.out.items;
      kept : (x : Lit) → Contains l.initial.out.items x → Contains l.out.items x;
    }
