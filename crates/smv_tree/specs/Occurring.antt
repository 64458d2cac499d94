-- The names that occur in an expression.
use Rattle.std.specs.Prelude.{List, [], ◌∷◌, ◌++◌, map}
use Rattle.std.specs.List.{flat_map}
use denote.Ref.{Bor}
use Rattle.smv_tree.specs.declared.place.Place.{Place}
use Rattle.smv_value.specs.declared.operator.Operator.{Operator}
use Rattle.smv_tree.specs.declared.tree.Name.{Name}
use Rattle.smv_tree.specs.declared.tree.Expr.{Expr, Expr-F, fold-Expr}

-- the names of a node, where those of its parts are known
abbrev pub names_of_node : Expr-F (List Name) → List Name
names_of_node (Expr-F.Constant place v) = []
names_of_node (Expr-F.Name name) = name ∷ []
names_of_node (Expr-F.Group place e) = e
names_of_node (Expr-F.Next place e) = e
names_of_node (Expr-F.Apply place o beside below) = flat_map (λ (names : List Name). names) beside ++ flat_map (λ (names : List Name). names) below
names_of_node (Expr-F.Chain first links) = first ++ flat_map (λ (link : Place × Operator × List Name). link.2) links

-- the names of an expression, in the order of the text
unfoldable pub names_in : Expr → List Name
names_in e = fold-Expr (List Name) names_of_node e

-- what is lent, read
abbrev pub read : {A : Type 0} → List (Bor A) → List A
read lent = map (λ x. x.now) lent
