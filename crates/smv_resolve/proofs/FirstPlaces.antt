-- Where each node begins.
use Rattle.std.proofs.Common.{◌≡◌, List, [], ◌∷◌, map, Some, None, slice_get, refl, ap, sym, ◌∙◌}
use Rattle.smv_tree.specs.declared.place.Place.{Place}
use Rattle.smv_value.specs.declared.value.Value.{Value}
use Rattle.smv_value.specs.declared.operator.Operator.{Operator}
use Rattle.smv_tree.specs.declared.tree.Name.{Name}
use Rattle.smv_tree.specs.declared.tree.Expr.{Expr}
use Rattle.smv_tree.specs.declared.tree.Expr.TheOpen.{Expr-F}
use Rattle.smv_tree.specs.declared.tree.Expr.TheFolds.{fold-roll-Expr}
use Rattle.smv_tree.specs.declared.tree.Expr.TheVariants as expr
use Rattle.smv_resolve.specs.Resolved.{place_of_start}
use Rattle.smv_resolve.specs.FirstPlaces.{first_or, first_place_in, first_place}

pub first_place-constant : (place : Place) (v : Value) → first_place (expr.Constant place v) ≡ place
unfolding first_place
first_place-constant place v = ap first_place (sym (expr.rolls-Constant place v)) ∙ fold-roll-Expr Place first_place_in (Expr-F.Constant place v)

pub first_place-name : (name : Name) → first_place (expr.Name name) ≡ place_of_start name.start
unfolding first_place
first_place-name name = ap first_place (sym (expr.rolls-Name name)) ∙ fold-roll-Expr Place first_place_in (Expr-F.Name name)

pub first_place-group : (place : Place) (e : Expr) → first_place (expr.Group place e) ≡ place
unfolding first_place
first_place-group place e = ap first_place (sym (expr.rolls-Group place e)) ∙ fold-roll-Expr Place first_place_in (Expr-F.Group place e)

pub first_place-next : (place : Place) (e : Expr) → first_place (expr.Next place e) ≡ place
unfolding first_place
first_place-next place e = ap first_place (sym (expr.rolls-Next place e)) ∙ fold-roll-Expr Place first_place_in (Expr-F.Next place e)

pub first_place-chain : (first : Expr) (links : List (Place × Operator × Expr)) → first_place (expr.Chain first links) ≡ first_place first
unfolding first_place
first_place-chain first links = ap first_place (sym (expr.rolls-Chain first links)) ∙ fold-roll-Expr Place first_place_in (Expr-F.Chain first links)

pub first_place-apply : (place : Place) (o : Operator) (beside below : List Expr) → first_place (expr.Apply place o beside below) ≡ first_or place (map first_place beside)
unfolding first_place
first_place-apply place o beside below = ap first_place (sym (expr.rolls-Apply place o beside below)) ∙ fold-roll-Expr Place first_place_in (Expr-F.Apply place o beside below)

pub ruleset first_places = (first_place-constant, first_place-name, first_place-group, first_place-next, first_place-chain, first_place-apply)

-- the first of some expressions, if there is one

pub first_or-none : (place : Place) (es : List Expr) → slice_get es 0 ≡ None → first_or place (map first_place es) ≡ place
first_or-none place [] is = refl
first_or-none place (e ∷ es) is = absurd cc

pub first_or-some : (place : Place) (es : List Expr) (e : Expr) → slice_get es 0 ≡ Some e → first_or place (map first_place es) ≡ first_place e
first_or-some place [] e is = absurd cc
first_or-some place (x ∷ es) e is = let same : x ≡ e = cc in ap first_place same
