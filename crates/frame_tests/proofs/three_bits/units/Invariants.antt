use Rattle.std.proofs.Common.{◌≡◌, [], ◌∷◌, map, take}
use Rattle.frame_tests.proofs.three_bits.units.Given as goal

abbrev pub invariant-lits : goal.invariant-lits
invariant-lits l = l.clauses ≡ map (λ m. m ∷ []) (take l.l-index l.lits)
