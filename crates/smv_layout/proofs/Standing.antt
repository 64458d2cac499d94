-- What stands for expressions stays so when nodes are added.
use Rattle.std.proofs.Common.{◌≡◌, ℕ, ◌<◌, ◌≤◌, List, [], ◌∷◌, ◌++◌, length, map, Some, slice_get, Result, IfOk, refl, sym, ap, subst, ◌∙◌, arith, length-append}
use Rattle.std.specs.List.{All}
use Rattle.std.proofs.lemmas.List.{map-append}
use Rattle.std.proofs.lemmas.List.Elements.{All-cons, All-head, All-nil, All-push, All-tail, All-weaker}
use Rattle.std.proofs.lemmas.Option.{get_or_from_slice_get, slice_get_within}
use Rattle.std.proofs.lemmas.Result.{IfOk-weaker}
use Rattle.smv_resolve.specs.declared.node.ExprNode.{ExprNode}
use Rattle.smv_resolve.specs.Finding.{Grows}
use Rattle.smv_resolve.specs.Resolved.{Resolved, part_of, parts_of, resolved_by}
use Rattle.smv_resolve.proofs.Growing.{part_of_new}
use Rattle.smv_tree.specs.declared.place.Place.{Place}
use Rattle.smv_declared.specs.declared.variable_type.Bounds.{Bounds}
use Rattle.smv_layout.specs.declared.laid.LaidNode.{LaidNode}
use Rattle.smv_layout.specs.declared.laid.LaidNode.TheVariants as node
use Rattle.smv_layout.specs.declared.laid.SubarrayNode.{SubarrayNode}
use Rattle.smv_layout.specs.declared.laid.SubscriptNode.{SubscriptNode}
use Rattle.smv_layout.specs.Arrays.{Subscript}
use Rattle.smv_layout.specs.Layout.{Laid, Subarray, array_of, value_of, variable_laid}
use Rattle.smv_layout.specs.Nodes.{AllStand, AreLaid, AreNodes, AreSubscripts, IsLaid, IsNode, Stands, SubscriptsStand, entry_by, laid_at, laid_by, node_of, subscript_by}

-- two functions that agree where P holds
pub map_kept : {A B : Type 0} (f g : A → B) (P : A → Type 0) → ((x : A) → P x → f x ≡ g x) → (xs : List A) → All P xs → map f xs ≡ map g xs
map_kept f g P same [] all = refl
map_kept {A} {B} f g P same (x ∷ xs) all =
    ap (λ (y : B). y ∷ map f xs) (same x (All-head P x xs all)) ∙ ap (λ (ys : List B). g x ∷ ys) (map_kept f g P same xs (All-tail P x xs all))

-- one node

pub IsNode_pushed : (old new : List ExprNode) (n : ExprNode) (k : ℕ) → new ≡ old ++ n ∷ [] → k ≡ length old → IsNode new k (resolved_by (parts_of old) n)
IsNode_pushed old new n k e at = record {
  stands = omega (arith, ap length e, length-append old (n ∷ []), at);
  is = ap (λ (xs : List ExprNode). part_of xs k) e ∙ ap (λ (j : ℕ). part_of (old ++ n ∷ []) j) at ∙ part_of_new old n;
}

pub IsNode_grown : (old new : List ExprNode) (k : ℕ) (r : Resolved) → Grows old new → IsNode old k r → IsNode new k r
IsNode_grown old new k r g x = record { stands = omega (arith, x.stands, g.longer); is = g.kept k x.stands ∙ x.is }

-- the node of what an expression was already
pub IsNode_same : (nodes : List ExprNode) (k : ℕ) → k < length nodes → IsNode nodes k (part_of nodes k)
IsNode_same nodes k l = record { stands = l; is = refl }

-- several nodes

pub AreNodes_nil : (nodes : List ExprNode) → AreNodes nodes [] []
AreNodes_nil nodes = record { stand = All-nil (λ k. k < length nodes); are = refl }

pub AreNodes_cons : (nodes : List ExprNode) (k : ℕ) (ks : List ℕ) (r : Resolved) (rs : List Resolved) → IsNode nodes k r → AreNodes nodes ks rs → AreNodes nodes (k ∷ ks) (r ∷ rs)
AreNodes_cons nodes k ks r rs x xs = record {
  stand = All-cons (λ k. k < length nodes) k ks x.stands xs.stand;
  are = ap (λ (y : Resolved). y ∷ map (part_of nodes) ks) x.is ∙ ap (λ (ys : List Resolved). r ∷ ys) xs.are;
}

pub AreNodes_two : (nodes : List ExprNode) (j k : ℕ) (q r : Resolved) → IsNode nodes j q → IsNode nodes k r → AreNodes nodes (j ∷ k ∷ []) (q ∷ r ∷ [])
AreNodes_two nodes j k q r x y = AreNodes_cons nodes j (k ∷ []) q (r ∷ []) x (AreNodes_cons nodes k [] r [] y (AreNodes_nil nodes))

pub AreNodes_push : (nodes : List ExprNode) (ks : List ℕ) (k : ℕ) (rs : List Resolved) (r : Resolved) → AreNodes nodes ks rs → IsNode nodes k r → AreNodes nodes (ks ++ k ∷ []) (rs ++ r ∷ [])
AreNodes_push nodes ks k rs r xs x = record {
  stand = All-push (λ k. k < length nodes) ks k xs.stand x.stands;
  are =
      map-append (part_of nodes) ks (k ∷ [])
      ∙ ap (λ (ys : List Resolved). ys ++ part_of nodes k ∷ []) xs.are ∙ ap (λ (y : Resolved). rs ++ y ∷ []) x.is;
}

pub AreNodes_grown : (old new : List ExprNode) (ks : List ℕ) (rs : List Resolved) → Grows old new → AreNodes old ks rs → AreNodes new ks rs
AreNodes_grown old new ks rs g xs = record {
  stand = All-weaker (λ k. k < length old) (λ k. k < length new) (λ k l. omega (arith, l, g.longer)) ks xs.stand;
  are = map_kept (part_of new) (part_of old) (λ k. k < length old) g.kept ks xs.stand ∙ xs.are;
}

-- indices

subscript_kept : (old new : List ExprNode) → Grows old new → (x : SubscriptNode) → x.node < length old → subscript_by new x ≡ subscript_by old x
subscript_kept old new g x l = ap (λ (r : Resolved). let y : Subscript = record { place = x.place; index = r; constant = x.constant } in y) (g.kept x.node l)

pub subscripts_kept : (old new : List ExprNode) → Grows old new → (xs : List SubscriptNode) → SubscriptsStand old xs → map (subscript_by new) xs ≡ map (subscript_by old) xs
subscripts_kept old new g xs s = map_kept (subscript_by new) (subscript_by old) (λ x. x.node < length old) (subscript_kept old new g) xs s

pub subscripts_stand : (old new : List ExprNode) → Grows old new → (xs : List SubscriptNode) → SubscriptsStand old xs → SubscriptsStand new xs
subscripts_stand old new g xs s = All-weaker (λ x. x.node < length old) (λ x. x.node < length new) (λ x l. omega (arith, l, g.longer)) xs s

-- what is laid out

pub laid_kept : (old new : List ExprNode) → Grows old new → (x : LaidNode) → Stands old x → laid_by new x ≡ laid_by old x
laid_kept old new g (node.Value n) s = ap (λ (r : Resolved). Laid.Value r) (g.kept n s)
laid_kept old new g (node.Array x) s =
    ap (λ (r : Resolved). let a : Subarray = record { variable = x.variable; place = x.place; subscripts = map (subscript_by new) x.subscripts; whole = r } in Laid.Array a) (g.kept x.whole s.0)
    ∙ ap (λ (ys : List Subscript). let a : Subarray = record { variable = x.variable; place = x.place; subscripts = ys; whole = part_of old x.whole } in Laid.Array a) (subscripts_kept old new g x.subscripts s.1)

laid_stands : (old new : List ExprNode) → Grows old new → (x : LaidNode) → Stands old x → Stands new x
laid_stands old new g (node.Value n) s = omega (arith, s, g.longer)
laid_stands old new g (node.Array x) s = (omega (arith, s.0, g.longer), subscripts_stand old new g x.subscripts s.1)

pub IsLaid_grown : (old new : List ExprNode) (x : LaidNode) (y : Laid) → Grows old new → IsLaid old x y → IsLaid new x y
IsLaid_grown old new x y g l = record { stands = laid_stands old new g x l.stands; is = laid_kept old new g x l.stands ∙ l.is }

pub AreLaid_grown : (old new : List ExprNode) (xs : List LaidNode) (ys : List Laid) → Grows old new → AreLaid old xs ys → AreLaid new xs ys
AreLaid_grown old new xs ys g l = record {
  stand = All-weaker (Stands old) (Stands new) (laid_stands old new g) xs l.stand;
  are = map_kept (laid_by new) (laid_by old) (Stands old) (laid_kept old new g) xs l.stand ∙ l.are;
}

pub AreLaid_push : (nodes : List ExprNode) (xs : List LaidNode) (x : LaidNode) (ys : List Laid) (y : Laid) → AreLaid nodes xs ys → IsLaid nodes x y → AreLaid nodes (xs ++ x ∷ []) (ys ++ y ∷ [])
AreLaid_push nodes xs x ys y l m = record {
  stand = All-push (Stands nodes) xs x l.stand m.stands;
  are =
      map-append (laid_by nodes) xs (x ∷ [])
      ∙ ap (λ (zs : List Laid). zs ++ laid_by nodes x ∷ []) l.are ∙ ap (λ (z : Laid). ys ++ z ∷ []) m.is;
}

-- the same of what is equal
pub laid_along : {E : Type 0} (nodes : List ExprNode) (r : Result LaidNode E) (y z : Laid) → y ≡ z → IfOk r (λ x. IsLaid nodes x y) → IfOk r (λ x. IsLaid nodes x z)
laid_along nodes r y z e l = IfOk-weaker r (λ x. IsLaid nodes x y) (λ x. IsLaid nodes x z) (λ x i. record { stands = i.stands; is = i.is ∙ e }) l

-- what stands at this number
pub laid_here : (nodes : List ExprNode) (xs : List LaidNode) (k : ℕ) (x : LaidNode) → All (Stands nodes) xs → Some x ≡ slice_get xs k → IsLaid nodes x (laid_at nodes xs k)
laid_here nodes xs k x s e = record {
  stands = subst (Stands nodes) (get_or_from_slice_get xs k x x (sym e)) (s k x (slice_get_within xs k x (sym e)));
  is = ap (entry_by nodes) e;
}

-- the node of what stands for a value
pub node_is : (nodes : List ExprNode) (x : LaidNode) → part_of nodes (node_of x) ≡ value_of (laid_by nodes x)
node_is nodes (node.Value n) = refl
node_is nodes (node.Array x) = refl

pub node_stands : (nodes : List ExprNode) (x : LaidNode) → Stands nodes x → node_of x < length nodes
node_stands nodes (node.Value n) s = s
node_stands nodes (node.Array x) s = s.0

-- those of several
pub nodes_are : (nodes : List ExprNode) (xs : List LaidNode) → All (Stands nodes) xs → AreNodes nodes (map node_of xs) (map value_of (map (laid_by nodes) xs))
nodes_are nodes [] s = AreNodes_nil nodes
nodes_are nodes (x ∷ xs) s =
    AreNodes_cons nodes (node_of x) (map node_of xs) (value_of (laid_by nodes x)) (map value_of (map (laid_by nodes) xs))
    (record { stands = node_stands nodes x (All-head (Stands nodes) x xs s); is = node_is nodes x }) (nodes_are nodes xs (All-tail (Stands nodes) x xs s))

pub AreNodes_one : (nodes : List ExprNode) (k : ℕ) (r : Resolved) → IsNode nodes k r → AreNodes nodes (k ∷ []) (r ∷ [])
AreNodes_one nodes k r x = AreNodes_cons nodes k [] r [] x (AreNodes_nil nodes)

-- the first index and the others

pub subscripts_first : (nodes : List ExprNode) (xs : List SubscriptNode) (x : SubscriptNode) (further : List SubscriptNode) → xs ≡ x ∷ further → SubscriptsStand nodes xs → x.node < length nodes
subscripts_first nodes xs x further e s = All-head (λ y. y.node < length nodes) x further (subst (SubscriptsStand nodes) e s)

pub subscripts_rest : (nodes : List ExprNode) (xs : List SubscriptNode) (x : SubscriptNode) (further : List SubscriptNode) → xs ≡ x ∷ further → SubscriptsStand nodes xs → SubscriptsStand nodes further
subscripts_rest nodes xs x further e s = All-tail (λ y. y.node < length nodes) x further (subst (SubscriptsStand nodes) e s)

-- a value, and an array

pub value_laid : (nodes : List ExprNode) (n : ℕ) (r : Resolved) → IsNode nodes n r → IsLaid nodes (node.Value n) (Laid.Value r)
value_laid nodes n r x = record { stands = x.stands; is = ap (λ (q : Resolved). Laid.Value q) x.is }

pub array_laid : (nodes : List ExprNode) (variable : ℕ) (place : Place) (xs : List SubscriptNode) (n : ℕ) (ys : List Subscript) (r : Resolved) → AreSubscripts nodes xs ys → IsNode nodes n r →
    IsLaid nodes (node.Array (record { variable = variable; place = place; subscripts = xs; whole = n })) (Laid.Array (record { variable = variable; place = place; subscripts = ys; whole = r }))
array_laid nodes variable place xs n ys r s x = record {
  stands = (x.stands, s.stand);
  is =
      ap (λ (q : Resolved). let a : Subarray = record { variable = variable; place = place; subscripts = map (subscript_by nodes) xs; whole = q } in Laid.Array a) x.is
      ∙ ap (λ (zs : List Subscript). let a : Subarray = record { variable = variable; place = place; subscripts = zs; whole = r } in Laid.Array a) s.are;
}

-- a variable that is no array
pub variable_bare : (first : ℕ) (place : Place) (n : ℕ) (ds : List Bounds) → length ds < 1 → Laid.Value (Resolved.Slot place first) ≡ variable_laid first place n ds
variable_bare first place n [] l = refl
variable_bare first place n (d ∷ ds) l = absurd (omega (arith, l))

-- a variable that is an array
pub variable_array : (first : ℕ) (place : Place) (n : ℕ) (ds : List Bounds) → 1 ≤ length ds → Laid.Array (array_of first place n) ≡ variable_laid first place n ds
variable_array first place n [] l = absurd (omega (arith, l))
variable_array first place n (d ∷ ds) l = refl
