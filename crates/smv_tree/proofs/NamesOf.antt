-- The names of each node.
use Rattle.std.proofs.Common.{◌≡◌, List, [], ◌∷◌, ◌++◌, map, Result, Ok, Err, OnOk, ap, sym, ◌∙◌, append_assoc}
use Rattle.std.specs.List.{flat_map}
use Rattle.std.proofs.lemmas.List.Folds.{flat_map-map}
use Rattle.smv_tree.specs.declared.place.Place.{Place}
use Rattle.smv_value.specs.declared.value.Value.{Value}
use Rattle.smv_value.specs.declared.operator.Operator.{Operator}
use Rattle.smv_tree.specs.declared.tree.Name.{Name}
use Rattle.smv_tree.specs.declared.tree.Expr.{Expr}
use Rattle.smv_tree.specs.declared.tree.Expr.TheOpen.{Expr-F}
use Rattle.smv_tree.specs.declared.tree.Expr.TheFolds.{fold-roll-Expr}
use Rattle.smv_tree.specs.declared.tree.Expr.TheVariants as expr
use Rattle.smv_tree.specs.Occurring.{names_of_node, names_in}

pub names_in-constant : (place : Place) (v : Value) → names_in (expr.Constant place v) ≡ []
unfolding names_in
names_in-constant place v = ap names_in (sym (expr.rolls-Constant place v)) ∙ fold-roll-Expr (List Name) names_of_node (Expr-F.Constant place v)

pub names_in-name : (name : Name) → names_in (expr.Name name) ≡ name ∷ []
unfolding names_in
names_in-name name = ap names_in (sym (expr.rolls-Name name)) ∙ fold-roll-Expr (List Name) names_of_node (Expr-F.Name name)

pub names_in-group : (place : Place) (e : Expr) → names_in (expr.Group place e) ≡ names_in e
unfolding names_in
names_in-group place e = ap names_in (sym (expr.rolls-Group place e)) ∙ fold-roll-Expr (List Name) names_of_node (Expr-F.Group place e)

pub names_in-next : (place : Place) (e : Expr) → names_in (expr.Next place e) ≡ names_in e
unfolding names_in
names_in-next place e = ap names_in (sym (expr.rolls-Next place e)) ∙ fold-roll-Expr (List Name) names_of_node (Expr-F.Next place e)

pub names_in-apply : (place : Place) (o : Operator) (beside below : List Expr) → names_in (expr.Apply place o beside below) ≡ flat_map names_in beside ++ flat_map names_in below
unfolding names_in
names_in-apply place o beside below =
    ap names_in (sym (expr.rolls-Apply place o beside below)) ∙ fold-roll-Expr (List Name) names_of_node (Expr-F.Apply place o beside below)
    ∙ ap (λ names. names ++ flat_map (λ (names : List Name). names) (map names_in below)) (flat_map-map (λ (names : List Name). names) names_in beside)
    ∙ ap (λ names. flat_map names_in beside ++ names) (flat_map-map (λ (names : List Name). names) names_in below)

pub names_in-chain : (first : Expr) (links : List (Place × Operator × Expr)) →
    names_in (expr.Chain first links) ≡ names_in first ++ flat_map (λ (link : Place × Operator × Expr). names_in link.2) links
unfolding names_in
names_in-chain first links =
    ap names_in (sym (expr.rolls-Chain first links)) ∙ fold-roll-Expr (List Name) names_of_node (Expr-F.Chain first links)
    ∙ ap (λ names. names_in first ++ names) (flat_map-map (λ (link : Place × Operator × List Name). link.2) _ links)

-- a list to which the second part of some elements was added, after the first
pub goes_on : {A T E : Type 0} (result : Result T E) (new mid old xs ys whole : List A) → OnOk result (new ≡ mid ++ ys) → mid ≡ old ++ xs → whole ≡ xs ++ ys → OnOk result (new ≡ old ++ whole)
goes_on (Ok t) new mid old xs ys whole h m w = h ∙ ap (λ l. l ++ ys) m ∙ append_assoc old xs ys ∙ ap (λ l. old ++ l) (sym w)
goes_on (Err e) new mid old xs ys whole h m w = tt
