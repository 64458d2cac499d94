-- Where an expression is stuck: at the first of its parts, in the order of the text, that leads nowhere or nests too
-- deep.
use Rattle.std.specs.Prelude.{◌≡◌, ℕ, zero, suc, ◌≤◌, true, List, [], ◌∷◌, ◌++◌, map, Option, None, Some, Result, Ok, Err, if◌then◌else◌}
use Rattle.std.specs.Option.{option_or}
use Rattle.smv_tree.specs.declared.place.Place.{Place}
use Rattle.smv_tree.specs.declared.tree.Program.{Program}
use Rattle.smv_tree.specs.declared.tree.Name.{Name}
use Rattle.smv_value.specs.declared.operator.Operator.{Operator}
use Rattle.smv_tree.specs.declared.tree.Expr.{Expr, Expr-F, fold-Expr}
use Rattle.smv_resolve.specs.declared.node.ExprNode.{ExprNode}
use Rattle.smv_resolve.specs.declared.memo.FoundNode.{FoundNode}
use Rattle.smv_resolve.specs.declared.memo.ResolveError.{ResolveError}
use Rattle.smv_resolve.specs.declared.memo.ResolveError.TheVariants as error
use Rattle.smv_resolve.specs.declared.resolve.ResolveStop.{ResolveStop}
use Rattle.smv_resolve.specs.declared.resolve.ResolveStop.TheVariants as stop
use Rattle.smv_scope.specs.Lookup.{depth_limit}
use Rattle.smv_resolve.specs.Levels.{levels_before}
use Rattle.smv_resolve.specs.Resolved.{Resolved, Levelled, place_of_start, lowered, resolved_name, followed, all_levels, is_stuck}
use Rattle.smv_resolve.specs.Listing.{IsRoot}

-- the first of these places that is there
abbrev pub first_told : List (Option Place) → Option Place
first_told [] = None
first_told (x ∷ xs) = option_or x (first_told xs)

-- one level down, which what stands at this place opens: it is stuck there where no more may be opened
abbrev pub stuck_below : Place → (ℕ → Option Place) → ℕ → Option Place
stuck_below place part zero = Some place
stuck_below place part (suc levels) = part levels

-- this place, if it is stuck there
abbrev pub stuck_at : Place → Resolved → Option Place
stuck_at place r = if is_stuck r then Some place else None

-- a name in the instance of this number, which is stuck at its own place where what it stands for is
abbrev pub stuck_name : Program → (ℕ → Expr → Levelled) → ℕ → Name → ℕ → Option Place
stuck_name p follow at name levels = stuck_at (place_of_start name.start) (lowered (levels_before p at name) (resolved_name p follow at name) levels)

-- operands of an operator at this place: those beside it, and then those a level below
abbrev pub stuck_operands : {A : Type 0} → Place → (A → ℕ → Option Place) → List A → List A → ℕ → Option Place
stuck_operands place part beside below levels = first_told (map (λ e. part e levels) beside ++ map (λ e. stuck_below place (part e) levels) below)

-- the first operand of a chain and those of its links
abbrev pub stuck_links : {A : Type 0} → (A → ℕ → Option Place) → A → List (Place × Operator × A) → ℕ → Option Place
stuck_links {A} part first links levels = option_or (part first levels) (first_told (map (λ (link : Place × Operator × A). part link.2 levels) links))

-- a node in the instance of this number, over where its parts are stuck, by how many levels may be opened in it
abbrev pub stuck_node : Program → (ℕ → Expr → Levelled) → ℕ → Expr-F (ℕ → Option Place) → ℕ → Option Place
stuck_node p follow at (Expr-F.Constant place v) levels = None
stuck_node p follow at (Expr-F.Name name) levels = stuck_name p follow at name levels
stuck_node p follow at (Expr-F.Group place e) levels = stuck_below place e levels
stuck_node p follow at (Expr-F.Next place e) levels = stuck_below place e levels
stuck_node p follow at (Expr-F.Chain first links) levels = stuck_links (λ (e : ℕ → Option Place). e) first links levels
stuck_node p follow at (Expr-F.Apply place o beside below) levels = stuck_operands place (λ (e : ℕ → Option Place). e) beside below levels

-- an expression in the instance of this number, where `follow` resolves what names stand for
unfoldable pub stuck_over : Program → (ℕ → Expr → Levelled) → ℕ → Expr → ℕ → Option Place
stuck_over p follow at e = fold-Expr (ℕ → Option Place) (stuck_node p follow at) e

-- the place of the first stuck part, where at most so many names are followed one in another, by how many levels may be
-- opened
abbrev pub stuck_part : Program → ℕ → ℕ → Expr → ℕ → Option Place
stuck_part p names at e = stuck_over p (followed p names) at e

-- the place of the first stuck part of an expression in the instance of this number
abbrev pub first_stuck_part : Program → ℕ → Expr → Option Place
first_stuck_part p at e = stuck_part p depth_limit at e depth_limit

-- the same where names are followed as far as they lead
abbrev pub first_part_wholly_stuck : Program → ℕ → Expr → Option Place
first_part_wholly_stuck p at e = stuck_part p all_levels at e all_levels

-- No part is stuck, or the place of the first that is, where so many levels may be opened. `part` gives it by the
-- number of names that may be followed, and by that of levels.
abbrev pub TellsPart : ℕ → (ℕ → ℕ → Option Place) → Result FoundNode ResolveError → Type 0
TellsPart most part (Ok x) = (n : ℕ) → most ≤ n → part n most ≡ None
TellsPart most part (Err (error.Stuck place)) = (n : ℕ) → most ≤ n → part n most ≡ Some place
TellsPart most part (Err error.NoMemory) = Unit {0}

-- the node of an expression; or the place of its first part that is stuck
abbrev pub FindsOrTells : List ExprNode → Resolved → Option Place → Result ℕ ResolveStop → Type 0
FindsOrTells nodes r part (Ok n) = IsRoot nodes r n
FindsOrTells nodes r part (Err (stop.Stuck place)) = (part ≡ Some place) × (is_stuck r ≡ true)
FindsOrTells nodes r part (Err stop.NoMemory) = Unit {0}
