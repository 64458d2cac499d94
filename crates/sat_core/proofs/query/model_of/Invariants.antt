use Rattle.std.proofs.Common.{◌≡◌, take, map, eqb}
use Rattle.sat_core.proofs.query.model_of.Given as goal

abbrev pub invariant-loop-x : goal.invariant-loop-x
invariant-loop-x l = l.model.items ≡ map (λ x. eqb x 1) (take l.x-index l.trail.values.items)
