-- The first of the instances so far.
use Rattle.std.proofs.Common.{◌≡◌, ◌==◌, ℕ, take}
use Rattle.std.specs.HashMap.{get}
use Rattle.smv_scope.specs.Enumerated.{first_instance}
use Rattle.smv_scope.proofs.enumerated.first_instances.Given as goal

abbrev pub invariant-loop-k : goal.invariant-loop-k
invariant-loop-k l = (q : ℕ) → get (λ x y. x == y) l.table q ≡ first_instance (take l.k l.tree) q
