-- What is kept while items are listed, and what is promised of each.
use Rattle.std.specs.Prelude.{◌≡◌, ℕ, ◌<◌, true, false, List, [], ◌∷◌, ◌++◌, length, map, Option, None, Some, Result, Ok, Err}
use Rattle.smv_tree.specs.declared.place.Place.{Place}
use Rattle.smv_resolve.specs.declared.node.ExprNode.{ExprNode}
use Rattle.smv_resolve.specs.declared.item.Item.{Item}
use Rattle.smv_resolve.specs.declared.resolve.ResolveStop.{ResolveStop}
use Rattle.smv_resolve.specs.declared.resolve.ResolveStop.TheVariants as stop
use Rattle.smv_resolve.specs.Resolved.{Resolved, part_of, is_stuck}
use Rattle.smv_resolve.specs.Items.{ResolvedItem, item_by, first_stuck}

-- the node is this expression, no part of which is stuck
pub record IsRoot (nodes : List ExprNode) (r : Resolved) (n : ℕ) : Type 0 where
  pub stands : n < length nodes
  pub is : part_of nodes n ≡ r
  pub clear : is_stuck r ≡ false

-- what stopped, told at this place
abbrev pub told_at : ResolveStop → Place → ResolveStop
told_at (stop.Stuck told) place = stop.Stuck place
told_at stop.NoMemory place = stop.NoMemory

-- the node of an expression; or that it is stuck, told at this place
abbrev pub FindsRoot : List ExprNode → Resolved → Place → Result ℕ ResolveStop → Type 0
FindsRoot nodes r place (Ok n) = IsRoot nodes r n
FindsRoot nodes r place (Err (stop.Stuck told)) = (told ≡ place) × (is_stuck r ≡ true)
FindsRoot nodes r place (Err stop.NoMemory) = Unit {0}

abbrev pub StandsTarget : List ExprNode → Option ℕ → Type 0
StandsTarget nodes None = Unit {0}
StandsTarget nodes (Some k) = k < length nodes

-- the nodes of items are there
unfoldable pub AllStand : List ExprNode → List Item → Type 0
AllStand nodes [] = Unit {0}
AllStand nodes (x ∷ xs) = StandsTarget nodes x.target × (x.value < length nodes) × AllStand nodes xs

-- behind the items before stand these, none of which is stuck
pub record Added (old new : List ExprNode) (before after : List Item) (these : List ResolvedItem) : Type 0 where
  pub items : map (item_by new) after ≡ map (item_by old) before ++ these
  pub clear : first_stuck these ≡ None

-- these items are added; or the place of the first of them that is stuck
abbrev pub Adds : List ExprNode → List ExprNode → List Item → List Item → List ResolvedItem → Result (Unit {0}) ResolveStop → Type 0
Adds old new before after these (Ok u) = Added old new before after these
Adds old new before after these (Err (stop.Stuck place)) = first_stuck these ≡ Some place
Adds old new before after these (Err stop.NoMemory) = Unit {0}
