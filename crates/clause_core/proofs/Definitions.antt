-- Systems whose definitions are none.
use Rattle.std.proofs.Common.{ℕ, List, [], refl, arith}
use Rattle.clause_core.specs.declared.literal.Lit.{Lit}
use Rattle.clause_core.specs.Literals.{Within}
use Rattle.clause_core.specs.Systems.{Gives}

-- with no definitions, literals over the state bits are given
pub Gives-none : (state_bits : ℕ) (lits : List Lit) → Within state_bits lits → Gives state_bits lits []
Gives-none state_bits lits within =
    record {
      extends = λ x. (x, (λ v lt. refl), λ k d lt. absurd (omega (arith, lt)));
      one_way = λ a b same _ _. ((λ k d lt. same _ (within k d lt)), λ k d lt. absurd (omega (arith, lt)));
    }
