-- The items of a program: its assignments, constraints and specifications, instance by instance, in the order of the
-- source.
use Rattle.std.specs.Prelude.{ℕ, ◌+◌, ◌-◌, Bool, false, ◌||◌, if◌then◌else◌, List, [], ◌∷◌, ◌++◌, map, Option, None, Some}
use Rattle.std.specs.List.{flat_map}
use Rattle.smv_tree.specs.declared.place.Place.{Place}
use Rattle.smv_tree.specs.declared.tree.Program.{Program}
use Rattle.smv_tree.specs.declared.tree.Section.{Section}
use Rattle.smv_tree.specs.declared.tree.Section.TheVariants as section
use Rattle.smv_tree.specs.declared.tree.Assignment.{Assignment}
use Rattle.smv_tree.specs.declared.tree.AssignmentKind.{AssignmentKind}
use Rattle.smv_tree.specs.declared.tree.AssignmentKind.TheVariants as assigned
use Rattle.smv_tree.specs.declared.tree.Expr.{Expr}
use Rattle.smv_tree.specs.declared.tree.Constraint.{Constraint}
use Rattle.smv_tree.specs.declared.tree.Specification.{Specification}
use Rattle.smv_scope.specs.declared.instance.Instance.{Instance}
use Rattle.smv_resolve.specs.declared.item.Item.{Item}
use Rattle.smv_resolve.specs.declared.item.ItemKind.{ItemKind}
use Rattle.smv_resolve.specs.declared.item.ItemKind.TheVariants as item
use Rattle.smv_resolve.specs.declared.node.ExprNode.{ExprNode}
use Rattle.smv_scope.specs.Modules.{sections_of}
use Rattle.smv_scope.specs.Instances.{instances_of}
use Rattle.smv_scope.specs.Lookup.{depth_limit}
use Rattle.smv_resolve.specs.FirstPlaces.{first_place}
use Rattle.smv_resolve.specs.Resolved.{Resolved, resolved, levelled, part_of, is_stuck}

-- An item with its expressions resolved: the instance that it stands in, what it is, its place, where its value begins,
-- what it assigns, if it assigns something, and the value that is assigned, asked for or claimed.
pub record ResolvedItem : Type 0 where
  pub at : ℕ
  pub kind : ItemKind
  pub place : Place
  pub begins : Place
  pub target : Option Resolved
  pub value : Resolved

-- how many levels may be opened in what is assigned, since `init(` and `next(` open one before it
abbrev pub left_levels : AssignmentKind → ℕ
left_levels assigned.Current = depth_limit
left_levels other = depth_limit - 1

abbrev pub resolved_left : Program → ℕ → AssignmentKind → Expr → Resolved
resolved_left p at kind e = levelled p depth_limit at e (left_levels kind)

abbrev pub resolved_assignment : Program → ℕ → Assignment → ResolvedItem
resolved_assignment p at a =
    record { at = at; kind = item.Assignment a.kind; place = a.place; begins = first_place a.value; target = Some (resolved_left p at a.kind a.target); value = resolved p at a.value }

abbrev pub resolved_constraint : Program → ℕ → Constraint → ResolvedItem
resolved_constraint p at c = record { at = at; kind = item.Constraint c.kind; place = c.place; begins = first_place c.formula; target = None; value = resolved p at c.formula }

abbrev pub resolved_specification : Program → ℕ → Specification → ResolvedItem
resolved_specification p at s = record { at = at; kind = item.Specification s.kind; place = s.place; begins = first_place s.formula; target = None; value = resolved p at s.formula }

-- the items of a section in the instance of this number
abbrev pub items_in : Program → ℕ → Section → List ResolvedItem
items_in p at (section.Variables kind vs) = []
items_in p at (section.Definitions ds) = []
items_in p at (section.Constants names) = []
items_in p at (section.Assignments as') = map (resolved_assignment p at) as'
items_in p at (section.Constraint c) = resolved_constraint p at c ∷ []
items_in p at (section.Specification s) = resolved_specification p at s ∷ []

-- the items of these instances, the first of which has number n
abbrev pub items_below : Program → ℕ → List Instance → List ResolvedItem
items_below p n [] = []
items_below p n (x ∷ xs) = flat_map (items_in p n) (sections_of p x.of_module) ++ items_below p (n + 1) xs

-- the items of a program
unfoldable pub items_of : Program → List ResolvedItem
items_of p = items_below p 0 (instances_of p)

abbrev pub target_by : List ExprNode → Option ℕ → Option Resolved
target_by nodes None = None
target_by nodes (Some k) = Some (part_of nodes k)

-- an item whose expressions are nodes
abbrev pub item_by : List ExprNode → Item → ResolvedItem
item_by nodes x = record { at = x.at; kind = x.kind; place = x.place; begins = x.begins; target = target_by nodes x.target; value = part_of nodes x.value }

abbrev pub is_stuck_target : Option Resolved → Bool
is_stuck_target None = false
is_stuck_target (Some r) = is_stuck r

-- some expression of an item has a part that is stuck
abbrev pub is_stuck_item : ResolvedItem → Bool
is_stuck_item x = is_stuck_target x.target || is_stuck x.value

-- the place of the first item with a part that is stuck
abbrev pub first_stuck : List ResolvedItem → Option Place
first_stuck [] = None
first_stuck (x ∷ xs) = if is_stuck_item x then Some x.place else first_stuck xs
