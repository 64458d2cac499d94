use Rattle.std.proofs.Common.{◌≡◌, [], length}
use Rattle.std.specs.List.{All}
use Rattle.sat_prop.proofs.lists.WatchLists.new.Given as goal

abbrev pub invariant-loop : goal.invariant-loop
invariant-loop l = record { len : length l.cells.items ≡ l.counter; empty : All (λ v. v.items ≡ []) l.cells.items }
