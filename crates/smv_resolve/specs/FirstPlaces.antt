-- Where expressions begin.
use Rattle.std.specs.Prelude.{List, [], ◌∷◌}
use Rattle.smv_tree.specs.declared.place.Place.{Place}
use Rattle.smv_tree.specs.declared.tree.Expr.{Expr, Expr-F, fold-Expr}
use Rattle.smv_resolve.specs.Resolved.{place_of_start}

-- the first of these places, or else this one
abbrev pub first_or : Place → List Place → Place
first_or place [] = place
first_or place (x ∷ xs) = x

-- A node, over where its parts begin. A chain begins with its first operand, and an operator with the first that stands
-- beside it.
abbrev pub first_place_in : Expr-F Place → Place
first_place_in (Expr-F.Constant place v) = place
first_place_in (Expr-F.Name name) = place_of_start name.start
first_place_in (Expr-F.Group place e) = place
first_place_in (Expr-F.Next place e) = place
first_place_in (Expr-F.Chain first links) = first
first_place_in (Expr-F.Apply place o beside below) = first_or place beside

-- the place of the first token of an expression
unfoldable pub first_place : Expr → Place
first_place e = fold-Expr Place first_place_in e
