-- What the formula of a specification says: the same as the specification, where each of its atoms is a part of the
-- program's expressions (NuSMV 2.6 User Manual, 2.4.3, LTL Specifications).
use Rattle.std.specs.Prelude.{ℕ, ◌↔◌, List, map}
use Rattle.smv_tree.specs.declared.tree.Program.{Program}
use Rattle.smv_resolve.specs.declared.node.ExprNode.{ExprNode}
use Rattle.smv_resolve.specs.Resolved.{Resolved, part_at, part_of}
use Rattle.smv_meaning.specs.Lassos.{Lasso, Holds, IsTrueIn}
use Rattle.ltl_meaning.specs.Temporal.{Temporal}
use Rattle.ltl_meaning.specs.Truth.{Moment, IsTrueAt}

-- the parts that atoms stand for, each by the number of its node
abbrev pub atom_parts : List ExprNode → List ℕ → List Resolved
atom_parts nodes atoms = map (part_of nodes) atoms

-- an atom is true on a lasso where its part is TRUE, with the inputs of the step from the state there; one that there
-- is not is false
abbrev pub atoms_on : Program → Lasso → List Resolved → ℕ → Moment
atoms_on p w parts a = IsTrueIn p w (part_at parts a)

-- on each lasso of values the formula is true at just the times at which this holds
pub record Tells (p : Program) (parts : List Resolved) (f : Temporal) (H : Lasso → Moment) : Type 0 where
  pub told : (w : Lasso) (t : ℕ) → IsTrueAt (atoms_on p w parts) f t ↔ H w t

-- at just the times at which the expression holds
abbrev pub Says : Program → List Resolved → Temporal → Resolved → Type 0
Says p parts f r = Tells p parts f (λ w. Holds p w r)
