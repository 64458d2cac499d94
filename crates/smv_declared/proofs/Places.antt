-- The place of each expression.
use Rattle.std.proofs.Common.{◌≡◌, List, [], ◌∷◌, map, refl, ap, sym, ◌∙◌}
use Rattle.smv_tree.specs.declared.place.Place.{Place}
use Rattle.smv_value.specs.declared.value.Value.{Value}
use Rattle.smv_value.specs.declared.operator.Operator.{Operator}
use Rattle.smv_tree.specs.declared.tree.Name.{Name}
use Rattle.smv_tree.specs.declared.tree.Expr.{Expr}
use Rattle.smv_tree.specs.declared.tree.Expr.TheOpen.{Expr-F}
use Rattle.smv_tree.specs.declared.tree.Expr.TheFolds.{fold-roll-Expr}
use Rattle.smv_tree.specs.declared.tree.Expr.TheVariants as expr
use Rattle.smv_resolve.specs.Resolved.{place_of_start}
use Rattle.smv_declared.specs.Refusals.{last_place, place_of, place_of_node}

pub place_of-constant : (place : Place) (v : Value) → place_of (expr.Constant place v) ≡ place
unfolding place_of
place_of-constant place v = ap place_of (sym (expr.rolls-Constant place v)) ∙ fold-roll-Expr Place place_of_node (Expr-F.Constant place v)

pub place_of-name : (name : Name) → place_of (expr.Name name) ≡ place_of_start name.start
unfolding place_of
place_of-name name = ap place_of (sym (expr.rolls-Name name)) ∙ fold-roll-Expr Place place_of_node (Expr-F.Name name)

pub place_of-group : (place : Place) (e : Expr) → place_of (expr.Group place e) ≡ place_of e
unfolding place_of
place_of-group place e = ap place_of (sym (expr.rolls-Group place e)) ∙ fold-roll-Expr Place place_of_node (Expr-F.Group place e)

pub place_of-next : (place : Place) (e : Expr) → place_of (expr.Next place e) ≡ place
unfolding place_of
place_of-next place e = ap place_of (sym (expr.rolls-Next place e)) ∙ fold-roll-Expr Place place_of_node (Expr-F.Next place e)

pub place_of-apply : (place : Place) (o : Operator) (beside below : List Expr) → place_of (expr.Apply place o beside below) ≡ place
unfolding place_of
place_of-apply place o beside below = ap place_of (sym (expr.rolls-Apply place o beside below)) ∙ fold-roll-Expr Place place_of_node (Expr-F.Apply place o beside below)

links_same : (first : Place) (links : List (Place × Operator × Expr)) (f : Expr → Place) →
    last_place first (map (λ (link : Place × Operator × Expr). (link.0, link.1, f link.2)) links) ≡ last_place first links
links_same first [] f = refl
links_same first (link ∷ links) f = links_same link.0 links f

pub place_of-chain : (first : Expr) (links : List (Place × Operator × Expr)) → place_of (expr.Chain first links) ≡ last_place (place_of first) links
unfolding place_of
place_of-chain first links =
    ap place_of (sym (expr.rolls-Chain first links)) ∙ fold-roll-Expr Place place_of_node (Expr-F.Chain first links) ∙ links_same (place_of first) links place_of

pub ruleset places = (place_of-constant, place_of-name, place_of-group, place_of-next, place_of-apply, place_of-chain)
