use Rattle.std.proofs.Common.{◌≡◌, ℕ, ◌<◌, Bool, ◌&&◌, cond, List, length, get_or, refl, sym, ◌∙◌, ap, arith, zero, suc}
use Rattle.bit_graph.specs.declared.edge.Edge.{Edge}
use Rattle.bit_graph.specs.declared.edge.GraphNode.{GraphNode}
use Rattle.bit_graph.specs.declared.edge.GraphNode.TheVariants.{False, Input, And, Xor, Choice}
use Rattle.bit_graph.specs.Meaning.{edge_value, exclusive_or, NodeHolds, Consistent, IsBelow, Acyclic}
use Rattle.bit_graph.specs.Values.{node_value, values_to, values, Agrees, OneWay}

pub edge_value-same : (v w : ℕ → Bool) (e : Edge) → v e.node ≡ w e.node → edge_value v e ≡ edge_value w e
edge_value-same v w e h = ap (exclusive_or e.negated) h

and_same : (x y z w : Bool) → x ≡ y → z ≡ w → (x && z) ≡ (y && w)
and_same x y z w p q = λ i. p i && q i

-- a node's value depends on the nodes below it alone
node_same : (a v w : ℕ → Bool) (k : ℕ) (n : GraphNode) → IsBelow k n → ((j : ℕ) → j < k → v j ≡ w j) → node_value a v k n ≡ node_value a w k n
node_same a v w k False b h = refl
node_same a v w k Input b h = refl
node_same a v w k (And x y) b h = and_same _ _ _ _ (edge_value-same v w x (h x.node b.0)) (edge_value-same v w y (h y.node b.1))
node_same a v w k (Xor x y) b h = λ i. exclusive_or (h x b.0 i) (h y b.1 i)
node_same a v w k (Choice c x y) b h = λ i. cond (h c b.0 i) (h x b.1 i) (edge_value-same v w y (h y.node b.2) i)

module _ (a : ℕ → Bool) (g : List GraphNode) (ok : Acyclic g) where
  deeper : (d k : ℕ) → k < d → k < length g → values_to a g d k ≡ values_to a g (suc d) k
  unfolding values_to
  deeper zero k h l = absurd (omega arith)
  deeper (suc d) k h l =
      node_same a (values_to a g d) (values_to a g (suc d)) k (get_or g k Input) (ok.below k l)
      (λ j m. deeper d j (omega arith) (omega arith))

  one_level : (k : ℕ) → k < length g → values a g k ≡ node_value a (values a g) k (get_or g k Input)
  unfolding values_to
  one_level k l = deeper (length g) k l l

  holds_from : (v : ℕ → Bool) (k : ℕ) (n : GraphNode) → v k ≡ node_value a v k n → NodeHolds v k n
  holds_from v k False h = h
  holds_from v k Input h = tt
  holds_from v k (And x y) h = h
  holds_from v k (Xor x y) h = h
  holds_from v k (Choice c x y) h = h

  input_from : (v : ℕ → Bool) (k : ℕ) (n : GraphNode) → v k ≡ node_value a v k n → n ≡ Input → v k ≡ a k
  input_from v k n h e = h ∙ ap (node_value a v k) e

  value_from : (v : ℕ → Bool) (k : ℕ) (n : GraphNode) → NodeHolds v k n → (n ≡ Input → v k ≡ a k) → v k ≡ node_value a v k n
  value_from v k False h i = h
  value_from v k Input h i = i refl
  value_from v k (And x y) h i = h
  value_from v k (Xor x y) h i = h
  value_from v k (Choice c x y) h i = h

  below_same : (v : ℕ → Bool) → Consistent v g → Agrees a v g → (d k : ℕ) → k < d → k < length g → v k ≡ values a g k
  below_same v c i zero k h l = absurd (omega arith)
  below_same v c i (suc d) k h l =
      value_from v k (get_or g k Input) (c.holds k l) (i k l)
      ∙ node_same a v (values a g) k (get_or g k Input) (ok.below k l) (λ j m. below_same v c i d j (omega arith) (omega arith))
      ∙ sym (one_level k l)

pub one_way : (g : List GraphNode) → Acyclic g → OneWay g
one_way g ok = record {
  some = λ a. (
    record { holds = λ k l. holds_from a g ok (values a g) k (get_or g k Input) (one_level a g ok k l) },
    λ k l e. input_from a g ok (values a g) k (get_or g k Input) (one_level a g ok k l) e,
  );
  only = λ a v c i k l. below_same a g ok v c i (suc k) k (omega arith) l;
}

-- one more node's value, from those of the nodes before it
pub values-more : (a v : ℕ → Bool) (g : List GraphNode) (k : ℕ) (n : GraphNode) → Acyclic g → k < length g → n ≡ get_or g k Input →
    ((j : ℕ) → j < k → v j ≡ values a g j) → node_value a v k n ≡ values a g k
values-more a v g k n ok l e h =
    ap (node_value a v k) e ∙ node_same a v (values a g) k (get_or g k Input) (ok.below k l) h ∙ sym (one_level a g ok k l)
