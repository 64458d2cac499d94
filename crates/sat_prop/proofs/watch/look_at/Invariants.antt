use Rattle.std.proofs.Common.{◌≡◌, map, take, true}
use Rattle.std.specs.List.{All}
use Rattle.clause_core.specs.Values.{holds}
use Rattle.clause_core.specs.Literals.{negate}
use Rattle.sat_prop.specs.Words.{literal_of}
use Rattle.sat_prop.proofs.watch.look_at.Given as goal

abbrev pub invariant-loop-j : goal.invariant-loop-j
invariant-loop-j l = All (λ m. (m ≡ l.other → ⊥) → holds l.values (negate m) ≡ true) (take l.j (map literal_of l.row))
