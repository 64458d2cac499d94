-- The first texts are added.
use Rattle.std.proofs.Common.{◌≡◌, ◌++◌, codes, string_bytes, take}
use Rattle.std.specs.List.{flat_map}
use Rattle.fault_texts.proofs.valuations.push_more.Given as goal

abbrev pub invariant-loop-x : goal.invariant-loop-x
invariant-loop-x l = string_bytes l.text ≡ string_bytes l.initial.text ++ flat_map (λ x. codes ", " ++ x) (take l.x-index l.more)
