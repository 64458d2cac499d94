-- What was taken over from a graph, as the other graph and the inputs that are read grow.
use Rattle.std.proofs.Common.{◌≡◌, ◌∙◌, ℕ, ◌<◌, ◌==◌, Bool, true, false, not, ◌&&◌, cond, List, [], ◌∷◌, ◌++◌, length, get_or, refl, sym, ap, subst, arith}
use Rattle.std.specs.Prelude.{None, Option, Some, slice_index_or}
use Rattle.std.specs.Bool.{beq}
use Rattle.std.proofs.lemmas.Bool.{eqb-true}
use Rattle.std.proofs.lemmas.List.Elements.{All-contains, Contains-append_left, Contains-get_or, Contains-push}
use Rattle.bit_graph.specs.declared.edge.Edge.{Edge}
use Rattle.bit_graph.specs.declared.edge.GraphNode.{GraphNode}
use Rattle.bit_graph.specs.declared.edge.GraphNode.TheVariants.{False, Input, And, Xor, Choice}
use Rattle.bit_graph.specs.Growth.{Extends}
use Rattle.bit_graph.specs.Meaning.{NodeHolds, exclusive_or}
use Rattle.bit_graph.specs.Values.{OneWay, value_under, values}
use Rattle.bit_faults.specs.Cones.{AgreeOn, IsCopy, Takes}
use Rattle.bit_faults.specs.Formulas.{StandsIfAny}

-- as the graph grows

module _ (g h : List GraphNode) (extends : Extends g h) (read : List ℕ) (f : (ℕ → Bool) → Bool) where
  pub copy_kept : (e : Edge) → IsCopy g read e f → IsCopy h read e f
  copy_kept e is = record {
    stands = omega (arith, is.stands, extends.longer);
    value = λ v ok. is.value v (extends.kept v ok);
    reads = is.reads;
  }

  pub takes_kept : (o : Option Edge) → Takes g read o f → Takes h read o f
  takes_kept None is = tt
  takes_kept (Some e) is = copy_kept e is

-- as more inputs are read

first_agree : (read more : List ℕ) (a b : ℕ → Bool) → AgreeOn (read ++ more) a b → AgreeOn read a b
first_agree read more a b agree = λ k d lt.
    All-contains (λ (i : ℕ). a i ≡ b i) (read ++ more) (get_or read k d) agree (Contains-append_left read more (get_or read k d) (Contains-get_or read k d lt))

pub last_agrees : (read : List ℕ) (k : ℕ) (a b : ℕ → Bool) → AgreeOn (read ++ k ∷ []) a b → a k ≡ b k
last_agrees read k a b agree = All-contains (λ (i : ℕ). a i ≡ b i) (read ++ k ∷ []) k agree (Contains-push read k)

pub takes_more : (g : List GraphNode) (read more : List ℕ) (f : (ℕ → Bool) → Bool) (o : Option Edge) → Takes g read o f → Takes g (read ++ more) o f
takes_more g read more f None is = tt
takes_more g read more f (Some e) is = record {
  stands = is.stands;
  value = is.value;
  reads = λ a b agree. is.reads a b (first_agree read more a b agree);
}

pub takes_stand : (g : List GraphNode) (read : List ℕ) (f : (ℕ → Bool) → Bool) (o : Option Edge) → Takes g read o f → StandsIfAny g o
takes_stand g read f None is = tt
takes_stand g read f (Some e) is = is.stands

-- the same function
pub takes_as : (g : List GraphNode) (read : List ℕ) (f h : (ℕ → Bool) → Bool) (o : Option Edge) → ((a : ℕ → Bool) → f a ≡ h a) → Takes g read o f → Takes g read o h
takes_as g read f h None same is = tt
takes_as g read f h (Some e) same is = record {
  stands = is.stands;
  value = λ v ok. is.value v ok ∙ same v;
  reads = λ a b agree. sym (same a) ∙ is.reads a b agree ∙ same b;
}

-- an edge that may be negated

twice : (x y b : Bool) → exclusive_or (exclusive_or x y) b ≡ exclusive_or y (exclusive_or x b)
twice true true true = refl
twice true true false = refl
twice true false true = refl
twice true false false = refl
twice false true true = refl
twice false true false = refl
twice false false true = refl
twice false false false = refl

pub negated_copy : (g : List GraphNode) (read : List ℕ) (e r : Edge) (b : Bool) (f : (ℕ → Bool) → Bool) → r.node ≡ e.node → r.negated ≡ exclusive_or e.negated b → IsCopy g read e f →
    IsCopy g read r (λ a. exclusive_or b (f a))
negated_copy g read e r b f node negated is = record {
  stands = subst (λ k. k < length g) (sym node) is.stands;
  value = λ v ok.
      (λ i. exclusive_or (negated i) (v (node i)))
      ∙ twice e.negated b (v e.node) ∙ ap (exclusive_or b) (is.value v ok);
  reads = λ a b' agree. ap (exclusive_or b) (is.reads a b' agree);
}

-- the values of nodes

module _ (g : List GraphNode) (law : OneWay g) (k : ℕ) (lt : k < length g) (a : ℕ → Bool) where
  holds : (n : GraphNode) → slice_index_or g k Input ≡ n → NodeHolds (values a g) k n
  holds n is = subst (NodeHolds (values a g) k) is ((law.some a).0.holds k lt)

  pub at_false : slice_index_or g k Input ≡ False → values a g k ≡ false
  at_false is = holds False is

  pub at_input : slice_index_or g k Input ≡ Input → values a g k ≡ a k
  at_input is = (law.some a).1 k lt is

  pub at_and : (x y : Edge) → slice_index_or g k Input ≡ And x y → values a g k ≡ (value_under a g x && value_under a g y)
  at_and x y is = holds (And x y) is

  pub at_xor : (x y : ℕ) → slice_index_or g k Input ≡ Xor x y → values a g k ≡ exclusive_or (values a g x) (values a g y)
  at_xor x y is = holds (Xor x y) is

  pub at_choice : (c x : ℕ) (y : Edge) → slice_index_or g k Input ≡ Choice c x y → values a g k ≡ cond (values a g c) (values a g x) (value_under a g y)
  at_choice c x y is = holds (Choice c x y) is

-- one node more that was taken over
module _ (g : List GraphNode) (read : List ℕ) (f : ℕ → (ℕ → Bool) → Bool) (node q : ℕ) (copy : Edge) (old : Option Edge) (is : IsCopy g read copy (f node)) (before : Takes g read old (f q)) where
  put_by : (b : Bool) → (b ≡ true → node ≡ q) → Takes g read (cond b (Some copy) old) (f q)
  put_by true same = subst (λ (k : ℕ). IsCopy g read copy (f k)) (same refl) is
  put_by false same = before

  pub takes_put : Takes g read (cond (node == q) (Some copy) old) (f q)
  takes_put = put_by (node == q) (eqb-true node q)

-- the exclusive or of truth values as the machine has it
pub xor_is : (x y : Bool) → not (beq x y) ≡ exclusive_or x y
xor_is true true = refl
xor_is true false = refl
xor_is false true = refl
xor_is false false = refl
