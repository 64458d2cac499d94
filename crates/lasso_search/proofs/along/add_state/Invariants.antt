use Rattle.std.specs.Prelude.{Contains}
use Rattle.clause_core.specs.declared.literal.Lit.{Lit}
use Rattle.clause_core.specs.Literals.{Within}
use Rattle.lasso_search.proofs.along.add_state.Given as goal

abbrev pub invariant-loop-bit : goal.invariant-loop-bit
invariant-loop-bit l =
    record {
      within : Within l.vars l.out.items;
      kept : (x : Lit) → Contains l.initial.out.items x → Contains l.out.items x;
    }
