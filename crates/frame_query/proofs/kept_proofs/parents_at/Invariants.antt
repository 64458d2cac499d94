use Rattle.std.proofs.Common.{◌≡◌, map, take}
use Rattle.frame_query.specs.KeptProofs.{parent_at}
use Rattle.frame_query.proofs.kept_proofs.parents_at.Given as goal

abbrev pub invariant-numbers : goal.invariant-numbers
invariant-numbers l = l.parents.items ≡ map (parent_at l.lemmas) (take l.k-index l.numbers)
