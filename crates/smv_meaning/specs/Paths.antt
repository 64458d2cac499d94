-- The instances to which paths lead.
use Rattle.std.specs.Prelude.{ℕ, List, [], ◌∷◌, Option, None, Some}
use Rattle.smv_tree.specs.declared.tree.Program.{Program}
use Rattle.smv_scope.specs.Lookup.{member_target}
use Rattle.smv_scope.specs.Target.{Target}

-- the instance that a target is
abbrev pub whole_of : Target → Option ℕ
whole_of (Target.Whole i) = Some i
whole_of other = None

-- where one gets from the instance, if there is one
abbrev pub behind : (ℕ → Option ℕ) → Option ℕ → Option ℕ
behind go None = None
behind go (Some i) = go i

-- the instance to which these names lead, one after another, from the instance of this number
abbrev pub instance_from : Program → List (List ℕ) → ℕ → Option ℕ
instance_from p [] at = Some at
instance_from p (name ∷ path) at = behind (instance_from p path) (whole_of (member_target p at name))

-- the instance of a path, which begins at `main`
abbrev pub instance_at : Program → List (List ℕ) → Option ℕ
instance_at p path = instance_from p path 0
