-- Elements by their dimensions and indices.
use Rattle.std.proofs.Common.{◌≡◌, ℕ, suc, ◌+◌, ◌*◌, ◌<◌, List, [], ◌∷◌, ◌++◌, length, get_or, map, take, true, false, Some, None, refl, sym, ap, subst, ◌∙◌, arith, append_assoc}
use Rattle.std.specs.Prelude.{ℤ}
use Rattle.std.specs.Option.{is_some}
use Rattle.std.proofs.lemmas.Bool.{cond-true, cond-false}
use Rattle.std.proofs.lemmas.List.{take_more}
use Rattle.std.proofs.lemmas.Grind.{flat_map-append}
use Rattle.value_types.specs.declared.value_type.ValueType.{ValueType}
use Rattle.smv_value.specs.declared.operator.Operator.TheVariants as operator
use Rattle.smv_value.specs.declared.value.Value.{Value}
use Rattle.smv_value.specs.declared.value.Value.TheVariants as value
use Rattle.smv_tree.specs.declared.place.Place.{Place}
use Rattle.smv_resolve.specs.declared.node.Naming.TheVariants as naming
use Rattle.smv_resolve.specs.declared.node.ExprNode.{ExprNode}
use Rattle.smv_resolve.specs.Resolved.{Resolved, operands_of}
use Rattle.smv_declared.specs.declared.variable_type.Bounds.{Bounds}
use Rattle.smv_declared.specs.Types.{size_of}
use Rattle.smv_layout.specs.declared.laid.SubscriptNode.{SubscriptNode}
use Rattle.smv_layout.specs.Arrays.{Subscript, at_index, at_position, choice, element, index_at, is_index, is_inside, never, nowhere, position_in, spanning, turns, turns_to}
use Rattle.smv_layout.specs.Nodes.{AreNodes, IsNode, subscript_by}
use Rattle.smv_layout.proofs.Standing.{AreNodes_push}

pub IsNode_along : (nodes : List ExprNode) (n : ℕ) (r s : Resolved) → r ≡ s → IsNode nodes n r → IsNode nodes n s
IsNode_along nodes n r s e x = record { stands = x.stands; is = x.is ∙ e }

module _ (t : ValueType) (place : Place) where
  -- no dimension is left, or no index
  pub element_none : (ds : List Bounds) (xs : List Subscript) (first : ℕ) → length ds ≡ 0 → Resolved.Slot place first ≡ element t place ds xs first
  element_none [] xs first e = refl
  element_none (d ∷ ds) xs first e = absurd (omega (arith, e))

  pub element_bare : (ds : List Bounds) (nodes : List ExprNode) (xs : List SubscriptNode) (first : ℕ) → length xs ≡ 0 → Resolved.Slot place first ≡ element t place ds (map (subscript_by nodes) xs) first
  element_bare [] nodes xs first e = refl
  element_bare (d ∷ ds) nodes [] first e = refl
  element_bare (d ∷ ds) nodes (x ∷ xs) first e = absurd (omega (arith, e))

  pub nowhere_none : (ds : List Bounds) (xs : List Subscript) → length ds ≡ 0 → choice place (never place (spanning t)) ≡ nowhere t place ds xs
  nowhere_none [] xs e = refl
  nowhere_none (d ∷ ds) xs e = absurd (omega (arith, e))

  pub nowhere_bare : (ds : List Bounds) (nodes : List ExprNode) (xs : List SubscriptNode) → length xs ≡ 0 → choice place (never place (spanning t)) ≡ nowhere t place ds (map (subscript_by nodes) xs)
  nowhere_bare [] nodes xs e = refl
  nowhere_bare (d ∷ ds) nodes [] e = refl
  nowhere_bare (d ∷ ds) nodes (x ∷ xs) e = absurd (omega (arith, e))

  -- a dimension and its index are left
  pub element_both : (ds : List Bounds) (nodes : List ExprNode) (xs : List SubscriptNode) (first : ℕ) (d : Bounds) (below : List Bounds) (x : SubscriptNode) (further : List SubscriptNode) →
      ds ≡ d ∷ below → xs ≡ x ∷ further → element t place (d ∷ below) (subscript_by nodes x ∷ map (subscript_by nodes) further) first ≡ element t place ds (map (subscript_by nodes) xs) first
  element_both ds nodes xs first d below x further e f =
      ap (λ (bs : List Bounds). element t place bs (map (subscript_by nodes) (x ∷ further)) first) (sym e) ∙ ap (λ (ys : List SubscriptNode). element t place ds (map (subscript_by nodes) ys) first) (sym f)

  pub nowhere_both : (ds : List Bounds) (nodes : List ExprNode) (xs : List SubscriptNode) (d : Bounds) (below : List Bounds) (x : SubscriptNode) (further : List SubscriptNode) →
      ds ≡ d ∷ below → xs ≡ x ∷ further → nowhere t place (d ∷ below) (subscript_by nodes x ∷ map (subscript_by nodes) further) ≡ nowhere t place ds (map (subscript_by nodes) xs)
  nowhere_both ds nodes xs d below x further e f =
      ap (λ (bs : List Bounds). nowhere t place bs (map (subscript_by nodes) (x ∷ further))) (sym e) ∙ ap (λ (ys : List SubscriptNode). nowhere t place ds (map (subscript_by nodes) ys)) (sym f)

  -- what stands at no index is marked where the next index is a constant inside
  pub nowhere_inside : (d : Bounds) (ds : List Bounds) (x : Subscript) (xs : List Subscript) → is_inside (Some d) x.constant ≡ true →
      Resolved.Named x.place naming.Element (nowhere t x.place ds xs) ≡ nowhere t place (d ∷ ds) (x ∷ xs)
  nowhere_inside d ds x xs inside =
      sym (cond-true (is_inside (Some d) x.constant) (Resolved.Named x.place naming.Element (nowhere t x.place ds xs)) (choice x.place (is_index x d.low ∷ nowhere t x.place ds xs ∷ [])) inside)

  pub nowhere_outside : (d : Bounds) (ds : List Bounds) (x : Subscript) (xs : List Subscript) → is_inside (Some d) x.constant ≡ false →
      choice x.place (is_index x d.low ∷ nowhere t x.place ds xs ∷ []) ≡ nowhere t place (d ∷ ds) (x ∷ xs)
  nowhere_outside d ds x xs outside =
      sym (cond-false (is_inside (Some d) x.constant) (Resolved.Named x.place naming.Element (nowhere t x.place ds xs)) (choice x.place (is_index x d.low ∷ nowhere t x.place ds xs ∷ [])) outside)

  -- the index is no constant, outside, or inside
  pub element_chosen : (d : Bounds) (ds : List Bounds) (x : Subscript) (xs : List Subscript) (first : ℕ) → x.constant ≡ None →
      choice x.place (turns x d (λ k. element t place ds xs (first + k * size_of ds))) ≡ element t place (d ∷ ds) (x ∷ xs) first
  element_chosen d ds x xs first e =
      ap (at_index x d (λ k. element t place ds xs (first + k * size_of ds)) (nowhere t place (d ∷ ds) (x ∷ xs))) (sym e)

  pub element_outside : (d : Bounds) (ds : List Bounds) (x : Subscript) (xs : List Subscript) (first : ℕ) (z : ℤ) → x.constant ≡ Some z → None ≡ position_in d z →
      choice x.place (is_index x d.low ∷ nowhere t x.place ds xs ∷ []) ≡ element t place (d ∷ ds) (x ∷ xs) first
  element_outside d ds x xs first z e f =
      let outside : is_inside (Some d) x.constant ≡ false = ap (is_inside (Some d)) e ∙ ap is_some (sym f) in
      sym (cond-false (is_inside (Some d) x.constant) (Resolved.Named x.place naming.Element (nowhere t x.place ds xs)) (choice x.place (is_index x d.low ∷ nowhere t x.place ds xs ∷ [])) outside)
      ∙ ap (at_position x (λ k. element t place ds xs (first + k * size_of ds)) (nowhere t place (d ∷ ds) (x ∷ xs))) f
      ∙ ap (at_index x d (λ k. element t place ds xs (first + k * size_of ds)) (nowhere t place (d ∷ ds) (x ∷ xs))) (sym e)

  pub element_inside : (d : Bounds) (ds : List Bounds) (x : Subscript) (xs : List Subscript) (first : ℕ) (z : ℤ) (k : ℕ) → x.constant ≡ Some z → Some k ≡ position_in d z →
      Resolved.Named x.place naming.Element (element t place ds xs (first + k * size_of ds)) ≡ element t place (d ∷ ds) (x ∷ xs) first
  element_inside d ds x xs first z k e f =
      ap (at_position x (λ j. element t place ds xs (first + j * size_of ds)) (nowhere t place (d ∷ ds) (x ∷ xs))) f
      ∙ ap (at_index x d (λ j. element t place ds xs (first + j * size_of ds)) (nowhere t place (d ∷ ds) (x ∷ xs))) (sym e)

-- one turn more

two_more : (nodes : List ExprNode) (ks after : List ℕ) (j k : ℕ) (rs : List Resolved) (q r : Resolved) → AreNodes nodes ks rs → IsNode nodes j q → IsNode nodes k r →
    after ≡ (ks ++ j ∷ []) ++ k ∷ [] → AreNodes nodes after (rs ++ q ∷ r ∷ [])
two_more nodes ks after j k rs q r are x y e =
    let both : AreNodes nodes ((ks ++ j ∷ []) ++ k ∷ []) ((rs ++ q ∷ []) ++ r ∷ []) =
    AreNodes_push nodes (ks ++ j ∷ []) k (rs ++ q ∷ []) r (AreNodes_push nodes ks j rs q are x) y in
    let same : AreNodes nodes after ((rs ++ q ∷ []) ++ r ∷ []) = subst (λ (ns : List ℕ). AreNodes nodes ns ((rs ++ q ∷ []) ++ r ∷ [])) (sym e) both in
    subst (AreNodes nodes after) (append_assoc rs (q ∷ []) (r ∷ [])) same

pub turns_more : (nodes : List ExprNode) (ks after : List ℕ) (x : Subscript) (d : Bounds) (branch : ℕ → Resolved) (k condition n : ℕ) → AreNodes nodes ks (turns_to x d branch k) →
    IsNode nodes condition (is_index x (index_at d k)) → IsNode nodes n (branch k) → after ≡ (ks ++ condition ∷ []) ++ n ∷ [] → AreNodes nodes after (turns_to x d branch (k + 1))
turns_more nodes ks after x d branch k condition n are c b e =
    let next : suc k ≡ k + 1 = omega arith in
    subst (λ (m : ℕ). AreNodes nodes after (turns_to x d branch m)) next (two_more nodes ks after condition n (turns_to x d branch k) (is_index x (index_at d k)) (branch k) are c b e)

pub never_more : (nodes : List ExprNode) (ks after : List ℕ) (place : Place) (vs : List Value) (i : ℕ) (v : Value) (condition n : ℕ) → i < length vs → v ≡ get_or vs i v →
    AreNodes nodes ks (never place (take i vs)) → IsNode nodes condition (Resolved.Constant place (value.Bool false)) → IsNode nodes n (Resolved.Constant place v) →
    after ≡ (ks ++ condition ∷ []) ++ n ∷ [] → AreNodes nodes after (never place (take (i + 1) vs))
never_more nodes ks after place vs i v condition n l at are c b e =
    let more : never place (take (i + 1) vs) ≡ never place (take i vs) ++ Resolved.Constant place (value.Bool false) ∷ Resolved.Constant place v ∷ [] =
    ap (never place) (take_more vs i v l ∙ ap (λ (w : Value). take i vs ++ w ∷ []) (sym at))
    ∙ flat_map-append (λ (w : Value). Resolved.Constant place (value.Bool false) ∷ Resolved.Constant place w ∷ []) (take i vs) (v ∷ []) in
    subst (AreNodes nodes after) (sym more)
    (two_more nodes ks after condition n (never place (take i vs)) (Resolved.Constant place (value.Bool false)) (Resolved.Constant place v) are c b e)

-- the condition over an index, where the value is this integer
pub is_index_by : (nodes : List ExprNode) (n : ℕ) (x : Subscript) (v : Value) (z : ℤ) → v ≡ value.Int z →
    IsNode nodes n (Resolved.Apply x.place operator.Equal (operands_of (Resolved.Apply x.place operator.Subscript (operands_of (x.index ∷ [])) ∷ Resolved.Constant x.place v ∷ []))) →
    IsNode nodes n (is_index x z)
is_index_by nodes n x v z e i =
    subst (λ (w : Value). IsNode nodes n (Resolved.Apply x.place operator.Equal (operands_of (Resolved.Apply x.place operator.Subscript (operands_of (x.index ∷ [])) ∷ Resolved.Constant x.place w ∷ [])))) e i
