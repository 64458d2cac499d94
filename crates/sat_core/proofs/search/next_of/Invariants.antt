use Rattle.std.proofs.Common.{◌≡◌, take, true}
use Rattle.std.specs.List.{All}
use Rattle.sat_prop.specs.Trails.{among}
use Rattle.sat_core.specs.Ends.{IsSeen}
use Rattle.sat_core.proofs.search.next_of.Given as goal

abbrev pub invariant-loop-j : goal.invariant-loop-j
invariant-loop-j l = record {
  said : IsSeen l.trail.literals.items l.assumptions l.seen;
  front : All (λ a. among l.trail.literals.items a ≡ true) (take l.j l.assumptions);
}
