-- The levels that parameters open, one in another.
use Rattle.std.proofs.Common.{◌≡◌, ◌≢◌, ℕ, zero, suc, ◌+◌, ◌-◌, refl, arith}
use Rattle.smv_tree.specs.declared.tree.Program.{Program}
use Rattle.smv_tree.specs.declared.tree.Expr.{Expr, out-Expr}
use Rattle.smv_resolve.specs.Levels.{levels_within, levels_by_node}

-- one level is opened, and then fewer
pub levels_within-step : (p : Program) (depth at : ℕ) (e : Expr) → depth ≢ 0 → levels_within p depth at e ≡ levels_by_node p (levels_within p (depth - 1)) at (out-Expr e) + 1
unfolding levels_within
levels_within-step p zero at e some = absurd (some refl)
levels_within-step p (suc depth) at e some = let one : suc depth - 1 ≡ depth = omega arith in rw one refl

pub levels_within-none : (p : Program) (depth at : ℕ) (e : Expr) → depth ≡ 0 → levels_within p depth at e ≡ 0
unfolding levels_within
levels_within-none p depth at e none = rw none refl
