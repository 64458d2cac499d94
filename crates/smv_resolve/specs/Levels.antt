-- The levels that are opened before the dots of names, where parameters are followed to an instance.
use Rattle.std.specs.Prelude.{ℕ, zero, suc, ◌+◌, List, [], ◌∷◌}
use Rattle.smv_tree.specs.declared.tree.Program.{Program}
use Rattle.smv_tree.specs.declared.tree.Identifier.{Identifier}
use Rattle.smv_tree.specs.declared.tree.Name.{Name}
use Rattle.smv_tree.specs.declared.tree.Start.{Start}
use Rattle.smv_tree.specs.declared.tree.Expr.{Expr, Expr-F, out-Expr}
use Rattle.smv_scope.specs.Lookup.{Target, depth_limit, start_target}

-- The levels that are opened where parameters are followed from a target on: one for what each was given, and one for
-- each parenthesis there; `levels` gives those from an expression on.
abbrev pub levels_of_target : (ℕ → Expr → ℕ) → Target → ℕ
levels_of_target levels (Target.Given at k owner e) = levels owner e
levels_of_target levels other = 0

abbrev pub levels_by_node : Program → (ℕ → Expr → ℕ) → ℕ → Expr-F Expr → ℕ
levels_by_node p levels at (Expr-F.Name name) = levels_of_target levels (start_target p at name.start)
levels_by_node p levels at (Expr-F.Group place e) = levels at e
levels_by_node p levels at other = 0

unfoldable pub levels_within : Program → ℕ → ℕ → Expr → ℕ
levels_within p zero at e = 0
levels_within p (suc depth) at e = levels_by_node p (levels_within p depth) at (out-Expr e) + 1

abbrev pub levels_before_members : Program → ℕ → Start → List Identifier → ℕ
levels_before_members p at s [] = 0
levels_before_members p at s (x ∷ rest) = levels_of_target (levels_within p depth_limit) (start_target p at s)

-- the levels that are opened before the dots of a name that stands in the instance of this number
unfoldable pub levels_before : Program → ℕ → Name → ℕ
levels_before p at name = levels_before_members p at name.start name.members
