-- An array with one index more.
use Rattle.std.proofs.Common.{◌≡◌, ℕ, ◌<◌, Bool, true, false, ◌==◌, List, [], ◌∷◌, ◌++◌, length, map, Option, Some, None, slice_get, sym, ap, subst, ◌∙◌, arith}
use Rattle.std.proofs.lemmas.Bool.{cond-true, cond-false}
use Rattle.std.proofs.lemmas.Bool.Decides.{nat_tests}
use Rattle.std.proofs.lemmas.List.{length-map, map-append}
use Rattle.std.proofs.lemmas.List.Elements.{All-push}
use Rattle.smv_tree.specs.declared.place.Place.{Place}
use Rattle.smv_resolve.specs.declared.node.ExprNode.{ExprNode}
use Rattle.smv_resolve.specs.Finding.{Grows}
use Rattle.smv_declared.specs.declared.variable_type.VariableType.{VariableType}
use Rattle.smv_slots.specs.Slots.{first_slot}
use Rattle.smv_layout.specs.declared.laid.LaidNode.TheVariants as node
use Rattle.smv_layout.specs.declared.laid.SubarrayNode.{SubarrayNode}
use Rattle.smv_layout.specs.declared.laid.SubscriptNode.{SubscriptNode}
use Rattle.smv_layout.specs.Arrays.{Subscript, element}
use Rattle.smv_layout.specs.Layout.{Laid, Subarray, dimension_at, element_laid, in_array, indexed, subscripted}
use Rattle.smv_layout.specs.Nodes.{AreSubscripts, IsLaid, IsNode, SubscriptsStand, subarray_by, subscript_by}
use Rattle.smv_layout.proofs.Standing.{subscripts_kept, subscripts_stand, value_laid}

pub subscripts_more : (old new : List ExprNode) (xs after : List SubscriptNode) (x : SubscriptNode) → Grows old new → SubscriptsStand old xs → x.node < length old → after ≡ xs ++ x ∷ [] →
    AreSubscripts new after (map (subscript_by old) xs ++ subscript_by old x ∷ [])
subscripts_more old new xs after x g s l e =
    let all : SubscriptsStand old (xs ++ x ∷ []) = All-push (λ y. y.node < length old) xs x s l in
    record {
      stand = subst (SubscriptsStand new) (sym e) (subscripts_stand old new g (xs ++ x ∷ []) all);
      are = ap (map (subscript_by new)) e ∙ subscripts_kept old new g (xs ++ x ∷ []) all ∙ map-append (subscript_by old) xs (x ∷ []);
    }

module _ (vs : List VariableType) (place : Place) (nodes : List ExprNode) (array : SubarrayNode) (x : SubscriptNode) (after : List SubscriptNode) (is : after ≡ array.subscripts ++ x ∷ []) where
  many : length after ≡ length (map (subscript_by nodes) array.subscripts ++ subscript_by nodes x ∷ [])
  many = sym (length-map after (subscript_by nodes)) ∙ ap length (ap (map (subscript_by nodes)) is ∙ map-append (subscript_by nodes) array.subscripts (x ∷ []))

  same : (a b c : ℕ) → a ≡ b → b ≡ c → (c == a) ≡ true
  same a b c e f = grind (arith, nat_tests)

  other : (a b c : ℕ) → (a ≡ b → ⊥) → b ≡ c → (c == a) ≡ false
  other a b c e f = grind (arith, nat_tests)

  -- an array with one index more, where the variable has this type
  abbrev more : Option VariableType → Subarray
  more v = subscripted place (dimension_at v (length array.subscripts)) (subarray_by nodes array) (subscript_by nodes x)

  abbrev made : Option VariableType → Laid
  made v = element_laid vs place (subscripted place (dimension_at v (length (map (subscript_by nodes) array.subscripts))) (subarray_by nodes array) (subscript_by nodes x)) v

  abbrev whole : VariableType → Subarray → Laid
  whole v a = Laid.Value (in_array place a.place (first_slot vs a.variable) (element v.element a.place v.dimensions a.subscripts (first_slot vs a.variable)))

  counted : (v : VariableType) → element_laid vs place (more (Some v)) (Some v) ≡ made (Some v)
  counted v =
      ap (λ k. element_laid vs place (subscripted place (dimension_at (Some v) k) (subarray_by nodes array) (subscript_by nodes x)) (Some v)) (sym (length-map array.subscripts (subscript_by nodes)))

  -- there is no such variable
  pub indexed_nowhere : None ≡ slice_get vs array.variable →
      Laid.Array (subscripted place None (subarray_by nodes array) (subscript_by nodes x)) ≡ indexed vs place (subarray_by nodes array) (subscript_by nodes x)
  indexed_nowhere e = ap made e

  -- further indices are to come
  pub indexed_waiting : (v : VariableType) → Some v ≡ slice_get vs array.variable → (length v.dimensions ≡ length after → ⊥) →
      Laid.Array (more (Some v)) ≡ indexed vs place (subarray_by nodes array) (subscript_by nodes x)
  indexed_waiting v e differ =
      let a = more (Some v) in
      sym (cond-false (length a.subscripts == length v.dimensions) (whole v a) (Laid.Array a) (other (length v.dimensions) (length after) (length a.subscripts) differ many))
      ∙ counted v ∙ ap made e

  -- there is an index for each dimension
  pub indexed_whole : (new : List ExprNode) (n first : ℕ) (v : VariableType) → Some v ≡ slice_get vs array.variable → length v.dimensions ≡ length after → first ≡ first_slot vs array.variable →
      IsNode new n (in_array place array.place first (element v.element array.place v.dimensions (map (subscript_by nodes) after) first)) →
      IsLaid new (node.Value n) (indexed vs place (subarray_by nodes array) (subscript_by nodes x))
  indexed_whole new n first v e long at here =
      let a = more (Some v) in
      let at_first : List Subscript → ℕ → Laid = λ ys k. Laid.Value (in_array place array.place k (element v.element array.place v.dimensions ys k)) in
      let made : at_first (map (subscript_by nodes) after) first ≡ indexed vs place (subarray_by nodes array) (subscript_by nodes x) =
      ap (λ (ys : List Subscript). at_first ys first) (ap (map (subscript_by nodes)) is ∙ map-append (subscript_by nodes) array.subscripts (x ∷ []))
      ∙ ap (at_first a.subscripts) at
      ∙ sym (cond-true (length a.subscripts == length v.dimensions) (whole v a) (Laid.Array a) (same (length v.dimensions) (length after) (length a.subscripts) long many))
      ∙ counted v ∙ ap made e in
      let one : IsLaid new (node.Value n) (at_first (map (subscript_by nodes) after) first) = value_laid new n _ here in
      record { stands = one.stands; is = one.is ∙ made }
