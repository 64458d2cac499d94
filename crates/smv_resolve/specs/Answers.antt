-- What the calls of this crate answer.
use Rattle.std.specs.Prelude.{◌≡◌, ℕ, true, map, Option, None, Some, Result, Ok, Err}
use Rattle.smv_tree.specs.declared.place.Place.{Place}
use Rattle.smv_tree.specs.declared.tree.Program.{Program}
use Rattle.smv_tree.specs.declared.tree.Expr.{Expr}
use Rattle.smv_resolve.specs.declared.resolve.ResolveStop.{ResolveStop}
use Rattle.smv_resolve.specs.declared.resolve.ResolveStop.TheVariants as stop
use Rattle.smv_resolve.specs.declared.resolve.Resolution.{Resolution}
use Rattle.smv_resolve.specs.declared.resolve.Single.{Single}
use Rattle.smv_resolve.specs.Items.{items_of, item_by, first_stuck}
use Rattle.smv_resolve.specs.StuckParts.{first_stuck_part, first_part_wholly_stuck}
use Rattle.smv_resolve.specs.Resolved.{Resolved, resolved, wholly_resolved, part_of, is_stuck}

-- the items of the program, none of which is stuck; or the place of the first that is
abbrev pub ResolvesItems : Program → Result Resolution ResolveStop → Type 0
ResolvesItems p (Ok r) = (map (item_by r.nodes) r.items ≡ items_of p) × (first_stuck (items_of p) ≡ None)
ResolvesItems p (Err (stop.Stuck place)) = first_stuck (items_of p) ≡ Some place
ResolvesItems p (Err stop.NoMemory) = Unit {0}

-- an expression as one of some nodes, where it is resolved so; or that it is stuck, told at its first stuck part
abbrev pub ResolvesTo : Resolved → Option Place → Result Single ResolveStop → Type 0
ResolvesTo r part (Ok single) = part_of single.nodes single.root ≡ r
ResolvesTo r part (Err (stop.Stuck place)) = (part ≡ Some place) × (is_stuck r ≡ true)
ResolvesTo r part (Err stop.NoMemory) = Unit {0}

-- the expression in the instance of this number
abbrev pub ResolvesOne : Program → ℕ → Expr → Result Single ResolveStop → Type 0
ResolvesOne p at e result = ResolvesTo (resolved p at e) (first_stuck_part p at e) result

-- the same where names are followed as far as they lead
abbrev pub ResolvesWholly : Program → ℕ → Expr → Result Single ResolveStop → Type 0
ResolvesWholly p at e result = ResolvesTo (wholly_resolved p at e) (first_part_wholly_stuck p at e) result
