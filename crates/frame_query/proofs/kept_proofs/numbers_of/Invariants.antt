use Rattle.std.proofs.Common.{◌≡◌, map, take}
use Rattle.frame_core.specs.declared.parts.Parent.{Parent}
use Rattle.frame_query.proofs.kept_proofs.numbers_of.Given as goal

abbrev pub invariant-parents : goal.invariant-parents
invariant-parents l = l.numbers.items ≡ map (λ (p : Parent). p.number) (take l.p-index l.parents)
