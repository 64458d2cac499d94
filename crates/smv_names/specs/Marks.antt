-- Marks of the modules that are reached, as the code holds them.
use Rattle.std.specs.Prelude.{◌≡◌, ℕ, Bool, true, false, List, length}
use Rattle.digraph.specs.Reach.{seen_at}
use Rattle.smv_tree.specs.declared.tree.Program.{Program}
use Rattle.smv_names.specs.Reached.{FromMain, Reaches}

-- the marks of the nodes that a node reaches are set, and no others
pub record MarksReach (g : List (List ℕ)) (a : ℕ) (marks : List Bool) : Type 0 where
  pub long : length marks ≡ length g
  pub set : (n : ℕ) → seen_at marks n ≡ true → Reaches g a n
  pub others : (n : ℕ) → seen_at marks n ≡ false → Reaches g a n → ⊥

-- the marks of the modules that `main` reaches are set, and no others
pub record MarksFromMain (p : Program) (marks : List Bool) : Type 0 where
  pub long : length marks ≡ length p.modules
  pub set : (n : ℕ) → seen_at marks n ≡ true → FromMain p n
  pub others : (n : ℕ) → seen_at marks n ≡ false → FromMain p n → ⊥
