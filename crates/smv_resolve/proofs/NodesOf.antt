-- What each node is over its parts.
use Rattle.std.proofs.Common.{◌≡◌, ℕ, List, [], ◌∷◌, ◌++◌, map, refl, ap, sym, ◌∙◌}
use Rattle.std.proofs.lemmas.Simd.{map-map}
use Rattle.smv_tree.specs.declared.place.Place.{Place}
use Rattle.smv_value.specs.declared.operator.Operator.{Operator}
use Rattle.smv_value.specs.declared.value.Value.{Value}
use Rattle.smv_tree.specs.declared.tree.Name.{Name}
use Rattle.smv_tree.specs.declared.tree.Program.{Program}
use Rattle.smv_tree.specs.declared.tree.Expr.{Expr}
use Rattle.smv_tree.specs.declared.tree.Expr.TheOpen.{Expr-F}
use Rattle.smv_tree.specs.declared.tree.Expr.TheFolds.{fold-roll-Expr}
use Rattle.smv_tree.specs.declared.tree.Expr.TheVariants as expr
use Rattle.smv_resolve.specs.Levels.{levels_before}
use Rattle.smv_resolve.specs.Resolved.{Resolved, Levelled, operands_of, opened, lowered, resolved_name, resolved_node, resolved_over, resolved_links, resolved_operands, followed, levelled}

-- operands that are given as others
links-map : {A B : Type 0} (operand : B → Resolved) (g : A → B) (left : Resolved) (links : List (Place × Operator × A)) →
    resolved_links operand left (map (λ (link : Place × Operator × A). (link.0, link.1, g link.2)) links) ≡ resolved_links (λ x. operand (g x)) left links
links-map operand g left [] = refl
links-map operand g left (link ∷ links) = links-map operand g (Resolved.Apply link.0 link.1 (operands_of (left ∷ operand (g link.2) ∷ []))) links

-- operands that are given as others
operands-map : {A B : Type 0} (operand : B → Levelled) (g : A → B) (beside below : List A) (d : ℕ) →
    resolved_operands operand (map g beside) (map g below) d ≡ resolved_operands (λ x. operand (g x)) beside below d
operands-map operand g beside below d =
    ap (λ (xs : List Resolved). xs ++ map (λ e. opened (operand e) d) (map g below)) (map-map (λ e. operand e d) g beside)
    ∙ ap (λ (xs : List Resolved). map (λ e. operand (g e) d) beside ++ xs) (map-map (λ e. opened (operand e) d) g below)

module _ (p : Program) (at n d : ℕ) where
  pub levelled-constant : (place : Place) (v : Value) → levelled p n at (expr.Constant place v) d ≡ Resolved.Constant place v
  unfolding resolved_over
  levelled-constant place v =
      ap (λ e. levelled p n at e d) (sym (expr.rolls-Constant place v)) ∙ ap (λ f. f d) (fold-roll-Expr Levelled (resolved_node p (followed p n) at) (Expr-F.Constant place v))

  pub levelled-name : (name : Name) → levelled p n at (expr.Name name) d ≡ lowered (levels_before p at name) (resolved_name p (followed p n) at name) d
  unfolding resolved_over
  levelled-name name =
      ap (λ e. levelled p n at e d) (sym (expr.rolls-Name name)) ∙ ap (λ f. f d) (fold-roll-Expr Levelled (resolved_node p (followed p n) at) (Expr-F.Name name))

  pub levelled-group : (place : Place) (e : Expr) → levelled p n at (expr.Group place e) d ≡ opened (levelled p n at e) d
  unfolding resolved_over
  levelled-group place e =
      ap (λ e. levelled p n at e d) (sym (expr.rolls-Group place e)) ∙ ap (λ f. f d) (fold-roll-Expr Levelled (resolved_node p (followed p n) at) (Expr-F.Group place e))

  pub levelled-next : (place : Place) (e : Expr) → levelled p n at (expr.Next place e) d ≡ Resolved.Next place (opened (levelled p n at e) d)
  unfolding resolved_over
  levelled-next place e =
      ap (λ e. levelled p n at e d) (sym (expr.rolls-Next place e)) ∙ ap (λ f. f d) (fold-roll-Expr Levelled (resolved_node p (followed p n) at) (Expr-F.Next place e))

  pub levelled-apply : (place : Place) (o : Operator) (beside below : List Expr) →
      levelled p n at (expr.Apply place o beside below) d ≡ Resolved.Apply place o (operands_of (resolved_operands (levelled p n at) beside below d))
  unfolding resolved_over
  levelled-apply place o beside below =
      ap (λ e. levelled p n at e d) (sym (expr.rolls-Apply place o beside below)) ∙ ap (λ f. f d) (fold-roll-Expr Levelled (resolved_node p (followed p n) at) (Expr-F.Apply place o beside below))
      ∙ ap (λ rs. Resolved.Apply place o (operands_of rs)) (operands-map (λ (e : Levelled). e) (levelled p n at) beside below d)

  pub levelled-chain : (first : Expr) (links : List (Place × Operator × Expr)) → levelled p n at (expr.Chain first links) d ≡ resolved_links (λ (e : Expr). levelled p n at e d) (levelled p n at first d) links
  unfolding resolved_over
  levelled-chain first links =
      ap (λ e. levelled p n at e d) (sym (expr.rolls-Chain first links)) ∙ ap (λ f. f d) (fold-roll-Expr Levelled (resolved_node p (followed p n) at) (Expr-F.Chain first links))
      ∙ links-map (λ (e : Levelled). e d) (levelled p n at) (levelled p n at first d) links
