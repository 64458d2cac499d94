use Rattle.std.proofs.Common.{◌≡◌, [], ◌∷◌, map, take}
use Rattle.frame_tests.proofs.three_bits.pairs.Given as goal

abbrev pub invariant-pairs : goal.invariant-pairs
invariant-pairs l = l.clauses ≡ map (λ p. p.0 ∷ p.1 ∷ []) (take l.p-index l.pairs)
