use Rattle.std.proofs.Common.{◌≡◌, ℕ, ◌<◌, ◌+◌, ◌↔◌, Bool, true, false, ◌&&◌, cond, List, [], ◌∷◌, length, get_or, refl, sym, ◌∙◌, ap, subst, arith, zero, suc, inl, inr}
use Rattle.std.specs.List.{All}
use Rattle.bit_graph.specs.declared.edge.Edge.{Edge}
use Rattle.bit_graph.specs.declared.edge.GraphNode.{GraphNode}
use Rattle.bit_graph.specs.declared.edge.GraphNode.TheVariants.{False, Input, And, Xor, Choice}
use Rattle.bit_graph.specs.Meaning.{edge_value, exclusive_or, NodeHolds, IsBelow, Acyclic, Stands}
use Rattle.bit_graph.specs.Values.{values, Agrees, OneWay}
use Rattle.clause_core.specs.declared.literal.Lit.{Lit}
use Rattle.clause_core.specs.Literals.{negate, Within}
use Rattle.clause_core.specs.Assignments.{ClauseTrue}
use Rattle.clause_core.specs.Propagation.{Closed}
use Rattle.cnf_build.specs.Encoding.{lit, variable_lit, node_lit, down, forced, clauses_of, cnf_from}
use Rattle.cnf_build.specs.Cone.{Reaches, IsCone, Reached}
use Rattle.cnf_build.specs.Numbering.{HasVariable, Numbering}
use Rattle.cnf_build.specs.CnfMeaning.{NodeSet, AllRead, InputsSet, of_nodes, HasValues, CnfLaw, IsCnf}
use Rattle.cnf_build.proofs.NodeClauses.{HoldsLive, SetLive, all_four, all_six, clauses_hold, sets_live, all_nodes}
use Rattle.cnf_build.proofs.Counting.{live_has, numbering_of}
use Rattle.std.proofs.lemmas.List.Elements.{All-cons, All-nil, All-map}

abbrev Same : (ℕ → Bool) → (ℕ → Bool) → (ℕ → Bool) → ℕ → Type 0
Same live v w k = (j : ℕ) → j < k → live j ≡ true → v j ≡ w j

edge_value-same : (v w : ℕ → Bool) (e : Edge) → v e.node ≡ w e.node → edge_value v e ≡ edge_value w e
edge_value-same v w e h = ap (exclusive_or e.negated) h

node_same : (live v w : ℕ → Bool) (k : ℕ) (n : GraphNode) → IsBelow k n → Reaches live n → Same live v w k → (n ≡ Input → v k ≡ w k) →
    NodeHolds v k n → NodeHolds w k n → v k ≡ w k
node_same live v w k False b r h i p q = p ∙ sym q
node_same live v w k Input b r h i p q = i refl
node_same live v w k (And x y) b r h i p q =
    p ∙ (λ j. edge_value-same v w x (h x.node b.0 r.0) j && edge_value-same v w y (h y.node b.1 r.1) j) ∙ sym q
node_same live v w k (Xor x y) b r h i p q = p ∙ (λ j. exclusive_or (h x b.0 r.0 j) (h y b.1 r.1 j)) ∙ sym q
node_same live v w k (Choice c x y) b r h i p q =
    p ∙ (λ j. cond (h c b.0 r.0 j) (h x b.1 r.1 j) (edge_value-same v w y (h y.node b.2 r.2) j)) ∙ sym q

-- a node holds where it and its operands have the values that they have elsewhere
holds_same : (live v w : ℕ → Bool) (k : ℕ) (n : GraphNode) → IsBelow k n → Reaches live n → Same live v w k → v k ≡ w k →
    NodeHolds w k n → NodeHolds v k n
holds_same live v w k False b r h e q = e ∙ q
holds_same live v w k Input b r h e q = tt
holds_same live v w k (And x y) b r h e q =
    e ∙ q ∙ sym (λ j. edge_value-same v w x (h x.node b.0 r.0) j && edge_value-same v w y (h y.node b.1 r.1) j)
holds_same live v w k (Xor x y) b r h e q = e ∙ q ∙ sym (λ j. exclusive_or (h x b.0 r.0 j) (h y b.1 r.1 j))
holds_same live v w k (Choice c x y) b r h e q =
    e ∙ q ∙ sym (λ j. cond (h c b.0 r.0 j) (h x b.1 r.1 j) (edge_value-same v w y (h y.node b.2 r.2) j))

-- t sets the edge's literal if b is true, and else its negation
abbrev Told : (ℕ → ℕ) → (Lit → Bool) → Edge → Bool → Type 0
Told name t e true = t (lit name e) ≡ true
Told name t e false = t (negate (lit name e)) ≡ true

-- the literal of an edge, from that of its node
told_at : (name : ℕ → ℕ) (t : Lit → Bool) (n : ℕ) (p y : Bool) → t (node_lit name n y) ≡ true → Told name t (record { node = n; negated = p }) (exclusive_or p y)
told_at name t n true true h = h
told_at name t n true false h = h
told_at name t n false true h = h
told_at name t n false false h = h

told : (name : ℕ → ℕ) (t : Lit → Bool) (e : Edge) (y : Bool) → t (node_lit name e.node y) ≡ true → Told name t e (exclusive_or e.negated y)
told name t e y h = told_at name t e.node e.negated y h

on_is : (t : Lit → Bool) (i : ℕ) (y z : Bool) → y ≡ z → t (variable_lit i z) ≡ true → t (variable_lit i y) ≡ true
on_is t i y z e h = ap (λ b. t (variable_lit i b)) e ∙ h

and_told : (name : ℕ → ℕ) (t : Lit → Bool) (k : ℕ) (x y : Edge) (p q r : Bool) → NodeSet name t k (And x y) → Told name t x p → Told name t y q →
    r ≡ (p && q) → t (node_lit name k r) ≡ true
and_told name t k x y true true r s hx hy e = on_is t (name k) r true e (s.0 hx hy)
and_told name t k x y true false r s hx hy e = on_is t (name k) r false e (s.2 hy)
and_told name t k x y false q r s hx hy e = on_is t (name k) r false e (s.1 hx)

xor_told : (name : ℕ → ℕ) (t : Lit → Bool) (k x y : ℕ) (p q r : Bool) → NodeSet name t k (Xor x y) → t (node_lit name x p) ≡ true → t (node_lit name y q) ≡ true →
    r ≡ exclusive_or p q → t (node_lit name k r) ≡ true
xor_told name t k x y true true r s hx hy e = on_is t (name k) r false e (s.0 hx hy)
xor_told name t k x y true false r s hx hy e = on_is t (name k) r true e (s.1 hx hy)
xor_told name t k x y false true r s hx hy e = on_is t (name k) r true e (s.2 hx hy)
xor_told name t k x y false false r s hx hy e = on_is t (name k) r false e (s.3 hx hy)

choice_told : (name : ℕ → ℕ) (t : Lit → Bool) (k c x : ℕ) (y : Edge) (p q z r : Bool) → NodeSet name t k (Choice c x y) → t (node_lit name c p) ≡ true →
    t (node_lit name x q) ≡ true → Told name t y z → r ≡ cond p q z → t (node_lit name k r) ≡ true
choice_told name t k c x y true true z r s hc hx hy e = on_is t (name k) r true e (s.0 hc hx)
choice_told name t k c x y true false z r s hc hx hy e = on_is t (name k) r false e (s.1 hc hx)
choice_told name t k c x y false q true r s hc hx hy e = on_is t (name k) r true e (s.2 hc hy)
choice_told name t k c x y false q false r s hc hx hy e = on_is t (name k) r false e (s.3 hc hy)

node_told : (live : ℕ → Bool) (name : ℕ → ℕ) (t : Lit → Bool) (w : ℕ → Bool) (k : ℕ) (n : GraphNode) → NodeSet name t k n → NodeHolds w k n →
    (n ≡ Input → t (node_lit name k (w k)) ≡ true) → IsBelow k n → Reaches live n →
    ((j : ℕ) → j < k → live j ≡ true → t (node_lit name j (w j)) ≡ true) → t (node_lit name k (w k)) ≡ true
node_told live name t w k False s h i b r f = on_is t (name k) (w k) false h s
node_told live name t w k Input s h i b r f = i refl
node_told live name t w k (And x y) s h i b r f =
    and_told name t k x y (edge_value w x) (edge_value w y) (w k) s (told name t x (w x.node) (f x.node b.0 r.0)) (told name t y (w y.node) (f y.node b.1 r.1)) h
node_told live name t w k (Xor x y) s h i b r f = xor_told name t k x y (w x) (w y) (w k) s (f x b.0 r.0) (f y b.1 r.1) h
node_told live name t w k (Choice c x y) s h i b r f =
    choice_told name t k c x y (w c) (w x) (edge_value w y) (w k) s (f c b.0 r.0) (f x b.1 r.1) (told name t y (w y.node) (f y.node b.2 r.2)) h

module _ (live : ℕ → Bool) (g : List GraphNode) (ok : Acyclic g) (cone : IsCone live g) where
  same_below : (v w : ℕ → Bool) → HoldsLive live v g → HoldsLive live w g →
      ((k : ℕ) → k < length g → get_or g k Input ≡ Input → live k ≡ true → v k ≡ w k) → (d k : ℕ) → k < d → k < length g → live k ≡ true → v k ≡ w k
  same_below v w p q i zero k h l on = absurd (omega arith)
  same_below v w p q i (suc d) k h l on =
      node_same live v w k (get_or g k Input) (ok.below k l) (cone k l on)
      (λ j m o. same_below v w p q i d j (omega arith) (omega arith) o) (λ e. i k l e on) (p k l on) (q k l on)

  told_below : (name : ℕ → ℕ) (t : Lit → Bool) (w : ℕ → Bool) → SetLive live name t g → HoldsLive live w g →
      ((k : ℕ) → k < length g → get_or g k Input ≡ Input → live k ≡ true → t (node_lit name k (w k)) ≡ true) →
      (d k : ℕ) → k < d → k < length g → live k ≡ true → t (node_lit name k (w k)) ≡ true
  told_below name t w s h i zero k m l on = absurd (omega arith)
  told_below name t w s h i (suc d) k m l on =
      node_told live name t w k (get_or g k Input) (s k l on) (h k l on) (λ e. i k l e on) (ok.below k l) (cone k l on)
      (λ j n o. told_below name t w s h i d j (omega arith) (omega arith) o)

-- an input asks nothing
holds_input : (v : ℕ → Bool) (k : ℕ) (n : GraphNode) → n ≡ Input → NodeHolds v k n
holds_input v k n e = let P : GraphNode → Type 0 = NodeHolds v k in subst P (sym e) tt

set_input : (name : ℕ → ℕ) (t : Lit → Bool) (k : ℕ) (n : GraphNode) → n ≡ Input → NodeSet name t k n
set_input name t k n e = let P : GraphNode → Type 0 = NodeSet name t k in subst P (sym e) tt

-- no literal is past the variables
module _ (n : ℕ) where
  abbrev In : Lit → Type 0
  In l = l.var < n

  two_in : (l m : Lit) → In l → In m → Within n (l ∷ m ∷ [])
  two_in l m p q = All-cons In l (m ∷ []) p (All-cons In m [] q (All-nil In))

  forced_in : (name : ℕ → ℕ) (k : ℕ) (b : Bool) (l m : Lit) → name k < n → In l → In m → Within n (forced name k b l m)
  forced_in name k b l m h p q = All-cons In (node_lit name k b) (negate l ∷ negate m ∷ []) h (two_in (negate l) (negate m) p q)

  node_within : (live : ℕ → Bool) (name : ℕ → ℕ) → (k : ℕ) (x : GraphNode) → name k < n → IsBelow k x → Reaches live x →
      ((j : ℕ) → j < k → live j ≡ true → name j < n) → All (Within n) (clauses_of name k x)
  node_within live name k False h b r f = All-cons (Within n) (node_lit name k false ∷ []) [] (All-cons In (node_lit name k false) [] h (All-nil In)) (All-nil (Within n))
  node_within live name k Input h b r f = All-nil (Within n)
  node_within live name k (And x y) h b r f =
      let in_x : name x.node < n = f x.node b.0 r.0 in
      let in_y : name y.node < n = f y.node b.1 r.1 in
      let third = forced name k true (lit name x) (lit name y) in
      All-cons (Within n) (down name k x) (down name k y ∷ third ∷ []) (two_in (node_lit name k false) (lit name x) h in_x)
      (All-cons (Within n) (down name k y) (third ∷ []) (two_in (node_lit name k false) (lit name y) h in_y)
      (All-cons (Within n) third [] (forced_in name k true (lit name x) (lit name y) h in_x in_y) (All-nil (Within n))))
  node_within live name k (Xor x y) h b r f =
      let X = node_lit name x in
      let Y = node_lit name y in
      let in_x : name x < n = f x b.0 r.0 in
      let in_y : name y < n = f y b.1 r.1 in
      all_four (Within n) (forced name k false (X true) (Y true)) (forced name k true (X true) (Y false)) (forced name k true (X false) (Y true))
      (forced name k false (X false) (Y false)) (forced_in name k false (X true) (Y true) h in_x in_y) (forced_in name k true (X true) (Y false) h in_x in_y)
      (forced_in name k true (X false) (Y true) h in_x in_y) (forced_in name k false (X false) (Y false) h in_x in_y)
  node_within live name k (Choice c x y) h b r f =
      let C = node_lit name c in
      let X = node_lit name x in
      let Y = lit name y in
      let in_c : name c < n = f c b.0 r.0 in
      let in_x : name x < n = f x b.1 r.1 in
      let in_y : name y.node < n = f y.node b.2 r.2 in
      all_six (Within n) (forced name k true (C true) (X true)) (forced name k false (C true) (X false)) (forced name k true (C false) Y)
      (forced name k false (C false) (negate Y)) (forced name k true (X true) Y) (forced name k false (X false) (negate Y))
      (forced_in name k true (C true) (X true) h in_c in_x) (forced_in name k false (C true) (X false) h in_c in_x) (forced_in name k true (C false) Y h in_c in_y)
      (forced_in name k false (C false) (negate Y) h in_c in_y) (forced_in name k true (X true) Y h in_x in_y) (forced_in name k false (X false) (negate Y) h in_x in_y)

module _ (g : List GraphNode) (roots : List Edge) (vars : ℕ) (cs : List (List Lit)) (lits : List Lit) (ok : Acyclic g) (h : IsCnf g roots vars cs lits) where
  abbrev numbering : Numbering g roots vars
  numbering = numbering_of g roots vars cs lits h

  -- a fact of the nodes' clauses is one of the clauses
  of_clauses : (P : List (List Lit) → Type 0) → P (cnf_from h.live h.name 0 g) → P cs
  of_clauses P p = subst P (sym h.clauses) p

  met : (v : ℕ → Bool) → All (ClauseTrue v) cs ↔ HoldsLive h.live (of_nodes h.name v) g
  met v = of_clauses (λ c. All (ClauseTrue v) c ↔ HoldsLive h.live (of_nodes h.name v) g) (clauses_hold h.live h.name g v)

  set : (t : Lit → Bool) → Closed t cs → SetLive h.live h.name t g
  set t = of_clauses (λ c. Closed t c → SetLive h.live h.name t g) (sets_live h.live h.name g t)

  is_live : (k : ℕ) → Reached g roots k → h.live k ≡ true
  is_live k r = r h.live h.cone h.roots_live

  holds_all : (v : ℕ → Bool) → HoldsLive h.live v g ↔ ((k : ℕ) → HasVariable g roots k → NodeHolds v k (get_or g k Input))
  holds_all v = (
    λ p k has. elim (has.1) [
      | inl input ↦ holds_input v k (get_or g k Input) input
      | inr reached ↦ p k has.0 (is_live k reached)
    ],
    λ p k l on. p k (live_has g roots vars cs lits h k l on),
  )

  sets_all : (t : Lit → Bool) → SetLive h.live h.name t g → (k : ℕ) → HasVariable g roots k → NodeSet h.name t k (get_or g k Input)
  sets_all t p k has = elim (has.1) [
    | inl input ↦ set_input h.name t k (get_or g k Input) input
    | inr reached ↦ p k has.0 (is_live k reached)
  ]

  root_has : All (Stands g) roots → (k : ℕ) (d : Edge) → k < length roots → HasVariable g roots (get_or roots k d).node
  root_has stand k d l = (stand k d l, inr (λ live cone in_roots. in_roots k d l))

  -- where the variables have the nodes' values, each node's variable has the node's
  node_value : (a v : ℕ → Bool) → HasValues g numbering.node vars a v → (k : ℕ) → HasVariable g roots k → v (h.name k) ≡ values a g k
  unfolding numbering_of
  node_value a v is k has =
      let n = numbering.of_node k has in
      is (h.name k) n.0 ∙ ap (values a g) n.1

  module _ (way : OneWay g) where
    values_live : (a : ℕ → Bool) → HoldsLive h.live (values a g) g
    values_live a k l on = (way.some a).0.holds k l

    values_from : (a v : ℕ → Bool) → Agrees a (of_nodes h.name v) g → All (ClauseTrue v) cs → HasValues g numbering.node vars a v
    unfolding numbering_of
    values_from a v agrees is i l =
        let n = numbering.of_variable i l in
        let k = numbering.node i in
        let at_inputs = λ (j : ℕ) (m : j < length g) (input : get_or g j Input ≡ Input). agrees j m input ∙ sym ((way.some a).1 j m input) in
        let here : v (h.name k) ≡ values a g k = elim (n.0.1) [
          | inl input ↦ at_inputs k n.0.0 input
          | inr reached ↦ same_below h.live g ok h.cone (of_nodes h.name v) (values a g) ((met v).0 is) (values_live a) (λ j m e on. at_inputs j m e) (suc k) k (omega arith) n.0.0 (is_live k reached)
        ] in
        sym (ap v n.1) ∙ here

    values_to : (a v : ℕ → Bool) → HasValues g numbering.node vars a v → Agrees a (of_nodes h.name v) g × All (ClauseTrue v) cs
    unfolding numbering_of
    values_to a v is = (
      λ k l input. node_value a v is k (l, inl input) ∙ (way.some a).1 k l input,
      (met v).1 (λ k l on.
          holds_same h.live (of_nodes h.name v) (values a g) k (get_or g k Input) (ok.below k l) (h.cone k l on)
          (λ j m live. node_value a v is j (live_has g roots vars cs lits h j (omega arith) live))
          (node_value a v is k (live_has g roots vars cs lits h k l on)) (values_live a k l on)),
    )

    depends : (a b : ℕ → Bool) → AllRead g roots (λ k. a k ≡ b k) → (k : ℕ) → k < length g → Reached g roots k → values a g k ≡ values b g k
    depends a b same k l reached =
        same_below h.live g ok h.cone (values a g) (values b g) (values_live a) (values_live b)
        (λ j m e on. (way.some a).1 j m e ∙ same j m e (h.reached j on) ∙ sym ((way.some b).1 j m e)) (suc k) k (omega arith) l (is_live k reached)

    spreads : (a : ℕ → Bool) (t : Lit → Bool) → Closed t cs → InputsSet g roots h.name a t → (k : ℕ) → k < length g → Reached g roots k →
        t (node_lit h.name k (values a g k)) ≡ true
    spreads a t closed inputs k l reached =
        told_below h.live g ok h.cone h.name t (values a g) (set t closed) (values_live a)
        (λ j m e on. on_is t (h.name j) (values a g j) (a j) ((way.some a).1 j m e) (inputs j m e (h.reached j on))) (suc k) k (omega arith) l (is_live k reached)

    pub law_of : All (Stands g) roots → CnfLaw g roots vars cs lits
    unfolding numbering_of
    law_of stand = record {
      numbering = numbering;
      literals = h.literals;
      one_way = λ a v. (λ p. values_from a v p.0 p.1, values_to a v);
      agrees = λ a v is k d l.
          edge_value-same (of_nodes h.name v) (values a g) (get_or roots k d) (node_value a v is (get_or roots k d).node (root_has stand k d l));
      depends = depends;
      spreads = spreads;
      holds = λ v. (λ p. (holds_all (of_nodes h.name v)).0 ((met v).0 p), λ p. (met v).1 ((holds_all (of_nodes h.name v)).1 p));
      sets = λ t closed. sets_all t (set t closed);
    }

  pub within_of : All (Within vars) cs
  unfolding numbering_of
  within_of = of_clauses (All (Within vars))
      (all_nodes (Within vars) h.live h.name 0 g (λ k l on.
      let e : 0 + k ≡ k = omega arith in
      let R : ℕ → Type 0 = λ m. h.live m ≡ true in
      let Q : ℕ → Type 0 = λ m. All (Within vars) (clauses_of h.name m (get_or g k Input)) in
      let here = subst R e on in
      subst Q (sym e) (node_within vars h.live h.name k (get_or g k Input) (numbering.of_node k (live_has g roots vars cs lits h k l here)).0 (ok.below k l) (h.cone k l here)
      (λ j m live. (numbering.of_node j (live_has g roots vars cs lits h j (omega arith) live)).0))))

  pub roots_within_of : All (Stands g) roots → Within vars lits
  unfolding numbering_of
  roots_within_of stand =
      let P : List Lit → Type 0 = Within vars in
      subst P (sym h.literals) (All-map (λ l. l.var < vars) (lit h.name) roots (λ k d l. (numbering.of_node (get_or roots k d).node (root_has stand k d l)).0))
