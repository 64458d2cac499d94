-- Resolved expressions: in the place of each name stands what it leads to, since a definition is a word for its body,
-- and a parameter for what was given (manual 2.3.2, DEFINE declarations; 2.3.11, Module Instantiations).
use Rattle.std.specs.Prelude.{ℕ, zero, suc, ◌-◌, Bool, true, false, ◌||◌, List, [], ◌∷◌, ◌++◌, fold, map, drop, length, slice_index_or}
use Rattle.smv_tree.specs.declared.place.Place.{Place}
use Rattle.smv_tree.specs.declared.tree.Program.{Program}
use Rattle.smv_tree.specs.declared.tree.Name.{Name}
use Rattle.smv_tree.specs.declared.tree.Start.{Start}
use Rattle.smv_tree.specs.declared.tree.Start.TheVariants as start
use Rattle.smv_value.specs.declared.operator.Operator.{Operator}
use Rattle.smv_value.specs.declared.value.Value.{Value}
use Rattle.smv_value.specs.declared.value.Value.TheVariants as value
use Rattle.smv_tree.specs.declared.tree.Expr.{Expr, Expr-F, fold-Expr}
use Rattle.smv_resolve.specs.declared.node.Naming.{Naming}
use Rattle.smv_resolve.specs.declared.node.Naming.TheVariants as naming
use Rattle.smv_resolve.specs.declared.node.ExprNode.{ExprNode}
use Rattle.smv_resolve.specs.declared.node.ExprNode.TheVariants as node
use Rattle.smv_scope.specs.Lookup.{Target, name_target, depth_limit}
use Rattle.smv_resolve.specs.Levels.{levels_before}

mutual
  -- An expression without names. Each part keeps the place of the node that it is.
  pub data Resolved : Type 0 where
    Constant : Place → Value → Resolved
    -- the variable of this number among those that have values; where slots are laid out, the slot of this number
    Slot : Place → (n : ℕ) → Resolved
    -- the instance of this number, which has no value
    Whole : Place → (at : ℕ) → Resolved
    -- what a parameter was given, or the body of a definition; where slots are laid out, also an array, an element of
    -- one, and an index with which a parameter was given one
    Named : Place → Naming → Resolved → Resolved
    Next : Place → Resolved → Resolved
    Apply : Place → Operator → Operands → Resolved
    -- a name that leads nowhere, or lies too deep
    Stuck : Resolved
    deriving IsSet as resolved_set

  pub data Operands : Type 0 where
    End : Operands
    With : Resolved → Operands → Operands

abbrev pub operands_of : List Resolved → Operands
operands_of [] = Operands.End
operands_of (r ∷ rs) = Operands.With r (operands_of rs)

-- the place of a name
abbrev pub place_of_start : Start → Place
place_of_start (start.Own x) = x.place
place_of_start (start.Itself place) = place

-- what an expression is where so many levels may be opened in it
abbrev pub Levelled : Type 0
Levelled = ℕ → Resolved

-- what stands one level down
abbrev pub opened : Levelled → Levelled
opened e zero = Resolved.Stuck
opened e (suc levels) = e levels

-- what stands so many levels down
abbrev pub lowered : ℕ → Levelled → Levelled
lowered zero e = e
lowered (suc count) e = opened (lowered count e)

-- a name that leads to this, where `below` resolves what it stands for
abbrev pub resolved_target : (ℕ → Expr → Resolved) → Place → Target → Resolved
resolved_target below place (Target.Variable n) = Resolved.Slot place n
resolved_target below place (Target.Whole i) = Resolved.Whole place i
resolved_target below place (Target.Given at k owner e) = Resolved.Named place naming.Given (below owner e)
resolved_target below place (Target.Defined at k e) = Resolved.Named place naming.Defined (below at e)
resolved_target below place (Target.Symbol n) = Resolved.Constant place (value.Sym n)
resolved_target below place Target.Unknown = Resolved.Stuck
resolved_target below place Target.TooFar = Resolved.Stuck

-- a chain, from left to right, where its first operands are resolved
abbrev pub resolved_links : {A : Type 0} → (A → Resolved) → Resolved → List (Place × Operator × A) → Resolved
resolved_links operand left [] = left
resolved_links operand left (link ∷ links) = resolved_links operand (Resolved.Apply link.0 link.1 (operands_of (left ∷ operand link.2 ∷ []))) links

-- operands of an operator: those beside it, on this level, and those a level below
abbrev pub resolved_operands : {A : Type 0} → (A → Levelled) → List A → List A → ℕ → List Resolved
resolved_operands operand beside below levels = map (λ e. operand e levels) beside ++ map (λ e. opened (operand e) levels) below

-- a name in the instance of this number, where `follow` resolves what names stand for
abbrev pub resolved_name : Program → (ℕ → Expr → Levelled) → ℕ → Name → Levelled
resolved_name p follow at name levels = resolved_target (λ owner e. opened (follow owner e) levels) (place_of_start name.start) (name_target p at name)

-- A node in the instance of this number, over its parts. A level is opened by `(`, by `next`, by each operand that
-- stands a level below, and by each name that is followed, before a dot or behind it, where `follow` resolves what it
-- stands for.
abbrev pub resolved_node : Program → (ℕ → Expr → Levelled) → ℕ → Expr-F Levelled → Levelled
resolved_node p follow at (Expr-F.Constant place v) levels = Resolved.Constant place v
resolved_node p follow at (Expr-F.Name name) levels = lowered (levels_before p at name) (resolved_name p follow at name) levels
resolved_node p follow at (Expr-F.Group place e) levels = opened e levels
resolved_node p follow at (Expr-F.Next place e) levels = Resolved.Next place (opened e levels)
resolved_node p follow at (Expr-F.Chain first links) levels = resolved_links (λ (e : Levelled). e levels) (first levels) links
resolved_node p follow at (Expr-F.Apply place o beside below) levels = Resolved.Apply place o (operands_of (resolved_operands (λ (e : Levelled). e) beside below levels))

-- an expression in the instance of this number, where `follow` resolves what names stand for
unfoldable pub resolved_over : Program → (ℕ → Expr → Levelled) → ℕ → Expr → Levelled
resolved_over p follow at e = fold-Expr Levelled (resolved_node p follow at) e

-- what a name stands for, where fewer names than this are followed one in another
unfoldable pub followed : Program → ℕ → ℕ → Expr → Levelled
followed p zero at e = λ levels. Resolved.Stuck
followed p (suc names) at e = resolved_over p (followed p names) at e

-- an expression in the instance of this number, where at most so many names are followed one in another
abbrev pub levelled : Program → ℕ → ℕ → Expr → Levelled
levelled p names at e = resolved_over p (followed p names) at e

-- An expression in the instance of this number: at most so many levels may be open at one place, and so no more names
-- are followed one in another.
abbrev pub resolved : Program → ℕ → Expr → Resolved
resolved p at e = levelled p depth_limit at e depth_limit

-- more levels than any memory holds
abbrev pub all_levels : ℕ
all_levels = 18446744073709551615

-- an expression in the instance of this number, where names are followed as far as they lead
abbrev pub wholly_resolved : Program → ℕ → Expr → Resolved
wholly_resolved p at e = levelled p all_levels at e all_levels

-- some part is stuck
abbrev mutual
  pub is_stuck : Resolved → Bool
  is_stuck (Resolved.Constant place v) = false
  is_stuck (Resolved.Slot place n) = false
  is_stuck (Resolved.Whole place i) = false
  is_stuck (Resolved.Named place naming r) = is_stuck r
  is_stuck (Resolved.Next place r) = is_stuck r
  is_stuck (Resolved.Apply place o rs) = is_some_stuck rs
  is_stuck Resolved.Stuck = true

  pub is_some_stuck : Operands → Bool
  is_some_stuck Operands.End = false
  is_some_stuck (Operands.With r rs) = is_stuck r || is_some_stuck rs

-- the part of this number
abbrev pub part_at : List Resolved → ℕ → Resolved
part_at parts k = slice_index_or parts k Resolved.Stuck

-- the last so many of a list
abbrev pub last_of : {A : Type 0} → ℕ → List A → List A
last_of count xs = drop (length xs - count) xs

-- What a node is, where these are the nodes before it. The operands of an operator are the nodes right before it; a
-- link of a chain names its two.
abbrev pub resolved_by : List Resolved → ExprNode → Resolved
resolved_by parts (node.Constant place v) = Resolved.Constant place v
resolved_by parts (node.Slot place n) = Resolved.Slot place n
resolved_by parts (node.Whole place i) = Resolved.Whole place i
resolved_by parts (node.Named place naming a) = Resolved.Named place naming (part_at parts a)
resolved_by parts (node.Next place a) = Resolved.Next place (part_at parts a)
resolved_by parts (node.Operand a) = part_at parts a
resolved_by parts (node.Apply place o count) = Resolved.Apply place o (operands_of (last_of count parts))
resolved_by parts (node.Link place o a b) = Resolved.Apply place o (operands_of (part_at parts a ∷ part_at parts b ∷ []))

-- the parts with one node more
abbrev pub with_node : List Resolved → ExprNode → List Resolved
with_node parts n = parts ++ resolved_by parts n ∷ []

-- what nodes are, each over those before it
unfoldable pub parts_of : List ExprNode → List Resolved
parts_of nodes = fold with_node [] nodes

-- what the node of this number is
abbrev pub part_of : List ExprNode → ℕ → Resolved
part_of nodes k = part_at (parts_of nodes) k
