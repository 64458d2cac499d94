use Rattle.std.proofs.Common.{◌≡◌, ℕ, ◌<◌, ◌+◌, ◌⊎◌, ◌↔◌, Bool, true, false, not, ◌&&◌, cond, List, [], ◌∷◌, length, get_or, refl, sym, ◌∙◌, ap, subst, arith, zero, suc, inl, inr}
use Rattle.std.specs.List.{All, Any, Contains}
use Rattle.std.proofs.lemmas.Bool.{not-true, not-false, cases_Bool}
use Rattle.std.proofs.lemmas.List.Elements.{All-nil, All-cons, All-append, All-contains, Contains-append_left, Contains-append_right, Contains-get_or}
use Rattle.bit_graph.specs.declared.edge.Edge.{Edge}
use Rattle.bit_graph.specs.declared.edge.GraphNode.{GraphNode}
use Rattle.bit_graph.specs.declared.edge.GraphNode.TheVariants.{False, Input, And, Xor, Choice}
use Rattle.bit_graph.specs.Meaning.{edge_value, exclusive_or, NodeHolds}
use Rattle.clause_core.specs.declared.literal.Lit.{Lit}
use Rattle.clause_core.specs.Literals.{negate}
use Rattle.clause_core.specs.Assignments.{ClauseTrue}
use Rattle.clause_core.specs.Propagation.{UnitIn, Closed}
use Rattle.cnf_build.specs.Encoding.{lit, node_lit, down, forced, clauses_of, cnf_from}
use Rattle.cnf_build.specs.CnfMeaning.{NodeSet, Forces, of_nodes}

-- v has at each live node the value that the node gives it
abbrev pub HoldsLive : (ℕ → Bool) → (ℕ → Bool) → List GraphNode → Type 0
HoldsLive live v g = (k : ℕ) → k < length g → live k ≡ true → NodeHolds v k (get_or g k Input)

-- unit propagation sets each live node's variable once its operands are set
abbrev pub SetLive : (ℕ → Bool) → (ℕ → ℕ) → (Lit → Bool) → List GraphNode → Type 0
SetLive live name t g = (k : ℕ) → k < length g → live k ≡ true → NodeSet name t k (get_or g k Input)

module _ {X : Type 0} (P : X → Type 0) where
  pub any_head : (x : X) (xs : List X) → P x → Any P (x ∷ xs)
  any_head x xs p = (0, x, omega arith, refl, p)

  pub any_tail : (x : X) (xs : List X) → Any P xs → Any P (x ∷ xs)
  any_tail x xs h = (suc h.0, h.1, omega arith, h.3, h.4)

  split_at : (k : ℕ) (x : X) (xs : List X) (y : X) → k < length (x ∷ xs) → get_or (x ∷ xs) k y ≡ y → P y → P x ⊎ Any P xs
  split_at zero x xs y l e p = inl (subst P (sym e) p)
  split_at (suc k) x xs y l e p = inr (k, y, omega arith, e, p)

  pub any_split : (x : X) (xs : List X) → Any P (x ∷ xs) → P x ⊎ Any P xs
  any_split x xs h = split_at h.0 x xs h.1 h.2 h.3 h.4

  pub any_one : (x : X) → Any P (x ∷ []) → P x
  any_one x h = elim (any_split x [] h) [ inl p ↦ p | inr q ↦ absurd (omega (arith, q.2)) ]

  pub any_two : (x y : X) → Any P (x ∷ y ∷ []) → P x ⊎ P y
  any_two x y h = elim (any_split x (y ∷ []) h) [ inl p ↦ inl p | inr q ↦ inr (any_one y q) ]

  pub any_three : (x y z : X) → Any P (x ∷ y ∷ z ∷ []) → P x ⊎ (P y ⊎ P z)
  any_three x y z h = elim (any_split x (y ∷ z ∷ []) h) [ inl p ↦ inl p | inr q ↦ inr (any_two y z q) ]

pub first_in : {X : Type 0} (x : X) (xs : List X) → Contains (x ∷ xs) x
first_in x xs = (0, omega arith, refl)

-- a literal against its edge
pub on_true : (p y : Bool) → y ≡ not p → exclusive_or p y ≡ true
on_true true y h = ap not h
on_true false y h = h

pub true_on : (p y : Bool) → exclusive_or p y ≡ true → y ≡ not p
true_on true y h = not-true y h
true_on false y h = h

pub on_false : (p y : Bool) → y ≡ not (not p) → exclusive_or p y ≡ false
on_false true y h = ap not h
on_false false y h = h

pub false_on : (p y : Bool) → exclusive_or p y ≡ false → y ≡ not (not p)
false_on true y h = not-false y h
false_on false y h = h

and_from_clauses : (x y z : Bool) → (x ≡ false) ⊎ (y ≡ true) → (x ≡ false) ⊎ (z ≡ true) → (x ≡ true) ⊎ ((y ≡ false) ⊎ (z ≡ false)) → x ≡ (y && z)
and_from_clauses x y z p q r = grind arith

first_clause : (x y z : Bool) → x ≡ (y && z) → (x ≡ false) ⊎ (y ≡ true)
first_clause x true z h = inr refl
first_clause x false z h = inl h

second_clause : (x y z : Bool) → x ≡ (y && z) → (x ≡ false) ⊎ (z ≡ true)
second_clause x true true h = inr refl
second_clause x true false h = inl h
second_clause x false z h = inl h

third_clause : (x y z : Bool) → x ≡ (y && z) → (x ≡ true) ⊎ ((y ≡ false) ⊎ (z ≡ false))
third_clause x true true h = inl h
third_clause x true false h = inr (inr refl)
third_clause x false z h = inr (inl refl)

xor_from : (x y z : Bool) → (y ≡ true → z ≡ true → x ≡ false) → (y ≡ true → z ≡ false → x ≡ true) → (y ≡ false → z ≡ true → x ≡ true) →
    (y ≡ false → z ≡ false → x ≡ false) → x ≡ exclusive_or y z
xor_from x true true p q r s = p refl refl
xor_from x true false p q r s = q refl refl
xor_from x false true p q r s = r refl refl
xor_from x false false p q r s = s refl refl

choice_from : (x c y z : Bool) → (c ≡ true → y ≡ true → x ≡ true) → (c ≡ true → y ≡ false → x ≡ false) → (c ≡ false → z ≡ true → x ≡ true) →
    (c ≡ false → z ≡ false → x ≡ false) → x ≡ cond c y z
choice_from x true true z p q r s = p refl refl
choice_from x true false z p q r s = q refl refl
choice_from x false y true p q r s = r refl refl
choice_from x false y false p q r s = s refl refl

same_branches : (c y : Bool) → cond c y y ≡ y
same_branches true y = refl
same_branches false y = refl

same_or_not : (x y : Bool) → (x ≡ y) ⊎ (x ≡ not y)
same_or_not true true = inl refl
same_or_not true false = inr refl
same_or_not false true = inr refl
same_or_not false false = inl refl

not_both : (x y : Bool) → x ≡ y → x ≡ not y → ⊥
not_both true true p q = cc
not_both true false p q = cc
not_both false true p q = cc
not_both false false p q = cc

module _ {X : Type 0} (P : X → Type 0) where
  pub all_four : (a b c d : X) → P a → P b → P c → P d → All P (a ∷ b ∷ c ∷ d ∷ [])
  all_four a b c d p q r s =
      All-cons P a (b ∷ c ∷ d ∷ []) p (All-cons P b (c ∷ d ∷ []) q (All-cons P c (d ∷ []) r (All-cons P d [] s (All-nil P))))

  pub all_six : (a b c d e f : X) → P a → P b → P c → P d → P e → P f → All P (a ∷ b ∷ c ∷ d ∷ e ∷ f ∷ [])
  all_six a b c d e f p q r s t u = All-cons P a (b ∷ c ∷ d ∷ e ∷ f ∷ []) p (All-cons P b (c ∷ d ∷ e ∷ f ∷ []) q (all_four c d e f r s t u))

module _ (name : ℕ → ℕ) (v : ℕ → Bool) where
  abbrev True : Lit → Type 0
  True l = v l.var ≡ l.positive

  abbrev Met : List Lit → Type 0
  Met c = ClauseTrue v c

  forced_from : (k : ℕ) (y : Bool) (l m : Lit) → Met (forced name k y l m) → True l → True m → v (name k) ≡ y
  forced_from k y l m h on_l on_m =
      elim (any_three True (node_lit name k y) (negate l) (negate m) h) [
        | inl p ↦ p
        | inr q ↦ (elim q [ inl p ↦ absurd (not_both (v l.var) l.positive on_l p) | inr p ↦ absurd (not_both (v m.var) m.positive on_m p) ])
      ]

  forced_met : (k : ℕ) (y : Bool) (l m : Lit) → (True l → True m → v (name k) ≡ y) → Met (forced name k y l m)
  forced_met k y l m f =
      elim (same_or_not (v l.var) l.positive) [
        | inl on_l ↦ (elim (same_or_not (v m.var) m.positive) [
          | inl on_m ↦ any_head True (node_lit name k y) (negate l ∷ negate m ∷ []) (f on_l on_m)
          | inr off ↦ any_tail True (node_lit name k y) (negate l ∷ negate m ∷ []) (any_tail True (negate l) (negate m ∷ []) (any_head True (negate m) [] off))
        ])
        | inr off ↦ any_tail True (node_lit name k y) (negate l ∷ negate m ∷ []) (any_head True (negate l) (negate m ∷ []) off)
      ]

  -- the clauses of a node hold exactly where its value is right
  pub node_from : (k : ℕ) (n : GraphNode) → All (ClauseTrue v) (clauses_of name k n) → NodeHolds (of_nodes name v) k n
  node_from k False h = any_one True (node_lit name k false) (h 0 [] (omega arith))
  node_from k Input h = tt
  node_from k (And a b) h =
      let m1 : Met (down name k a) = h 0 [] (omega arith) in
      let m2 : Met (down name k b) = h 1 [] (omega arith) in
      let m3 : Met (forced name k true (lit name a) (lit name b)) = h 2 [] (omega arith) in
      and_from_clauses (v (name k)) (edge_value (of_nodes name v) a) (edge_value (of_nodes name v) b)
      (elim (any_two True (node_lit name k false) (lit name a) m1) [ inl p ↦ inl p | inr p ↦ inr (on_true a.negated (v (name a.node)) p) ])
      (elim (any_two True (node_lit name k false) (lit name b) m2) [ inl p ↦ inl p | inr p ↦ inr (on_true b.negated (v (name b.node)) p) ])
      (elim (any_three True (node_lit name k true) (negate (lit name a)) (negate (lit name b)) m3) [
        | inl p ↦ inl p
        | inr q ↦ inr (elim q [ inl p ↦ inl (on_false a.negated (v (name a.node)) p) | inr p ↦ inr (on_false b.negated (v (name b.node)) p) ])
      ])
  node_from k (Xor a b) h =
      xor_from (v (name k)) (v (name a)) (v (name b))
      (forced_from k false (node_lit name a true) (node_lit name b true) (h 0 [] (omega arith)))
      (forced_from k true (node_lit name a true) (node_lit name b false) (h 1 [] (omega arith)))
      (forced_from k true (node_lit name a false) (node_lit name b true) (h 2 [] (omega arith)))
      (forced_from k false (node_lit name a false) (node_lit name b false) (h 3 [] (omega arith)))
  node_from k (Choice c a b) h =
      choice_from (v (name k)) (v (name c)) (v (name a)) (edge_value (of_nodes name v) b)
      (forced_from k true (node_lit name c true) (node_lit name a true) (h 0 [] (omega arith)))
      (forced_from k false (node_lit name c true) (node_lit name a false) (h 1 [] (omega arith)))
      (λ p q. forced_from k true (node_lit name c false) (lit name b) (h 2 [] (omega arith)) p (true_on b.negated (v (name b.node)) q))
      (λ p q. forced_from k false (node_lit name c false) (negate (lit name b)) (h 3 [] (omega arith)) p (false_on b.negated (v (name b.node)) q))

  down_met : (k : ℕ) (a : Edge) → (v (name k) ≡ false) ⊎ (edge_value (of_nodes name v) a ≡ true) → Met (down name k a)
  down_met k a h =
      elim h [
        | inl p ↦ any_head True (node_lit name k false) (lit name a ∷ []) p
        | inr p ↦ any_tail True (node_lit name k false) (lit name a ∷ []) (any_head True (lit name a) [] (true_on a.negated (v (name a.node)) p))
      ]

  up_met : (k : ℕ) (a b : Edge) → (v (name k) ≡ true) ⊎ ((edge_value (of_nodes name v) a ≡ false) ⊎ (edge_value (of_nodes name v) b ≡ false)) → Met (forced name k true (lit name a) (lit name b))
  up_met k a b h =
      elim h [
        | inl p ↦ any_head True (node_lit name k true) (negate (lit name a) ∷ negate (lit name b) ∷ []) p
        | inr q ↦ any_tail True (node_lit name k true) (negate (lit name a) ∷ negate (lit name b) ∷ [])
            (elim q [
              | inl p ↦ any_head True (negate (lit name a)) (negate (lit name b) ∷ []) (false_on a.negated (v (name a.node)) p)
              | inr p ↦ any_tail True (negate (lit name a)) (negate (lit name b) ∷ []) (any_head True (negate (lit name b)) [] (false_on b.negated (v (name b.node)) p))
            ])
      ]

  pub node_to : (k : ℕ) (n : GraphNode) → NodeHolds (of_nodes name v) k n → All (ClauseTrue v) (clauses_of name k n)
  node_to k False h = All-cons Met (node_lit name k false ∷ []) [] (any_head True (node_lit name k false) [] h) (All-nil Met)
  node_to k Input h = All-nil Met
  node_to k (And a b) h =
      let third = forced name k true (lit name a) (lit name b) in
      All-cons Met (down name k a) (down name k b ∷ third ∷ []) (down_met k a (first_clause (v (name k)) (edge_value (of_nodes name v) a) (edge_value (of_nodes name v) b) h))
      (All-cons Met (down name k b) (third ∷ []) (down_met k b (second_clause (v (name k)) (edge_value (of_nodes name v) a) (edge_value (of_nodes name v) b) h))
      (All-cons Met third [] (up_met k a b (third_clause (v (name k)) (edge_value (of_nodes name v) a) (edge_value (of_nodes name v) b) h)) (All-nil Met)))
  node_to k (Xor a b) h =
      all_four Met (forced name k false (node_lit name a true) (node_lit name b true)) (forced name k true (node_lit name a true) (node_lit name b false))
      (forced name k true (node_lit name a false) (node_lit name b true)) (forced name k false (node_lit name a false) (node_lit name b false))
      (forced_met k false (node_lit name a true) (node_lit name b true) (λ p q. h ∙ (λ i. exclusive_or (p i) (q i))))
      (forced_met k true (node_lit name a true) (node_lit name b false) (λ p q. h ∙ (λ i. exclusive_or (p i) (q i))))
      (forced_met k true (node_lit name a false) (node_lit name b true) (λ p q. h ∙ (λ i. exclusive_or (p i) (q i))))
      (forced_met k false (node_lit name a false) (node_lit name b false) (λ p q. h ∙ (λ i. exclusive_or (p i) (q i))))
  node_to k (Choice c a b) h =
      let y = edge_value (of_nodes name v) b in
      let on = on_true b.negated (v (name b.node)) in
      let off = on_false b.negated (v (name b.node)) in
      all_six Met (forced name k true (node_lit name c true) (node_lit name a true)) (forced name k false (node_lit name c true) (node_lit name a false))
      (forced name k true (node_lit name c false) (lit name b)) (forced name k false (node_lit name c false) (negate (lit name b)))
      (forced name k true (node_lit name a true) (lit name b)) (forced name k false (node_lit name a false) (negate (lit name b)))
      (forced_met k true (node_lit name c true) (node_lit name a true) (λ p q. h ∙ (λ i. cond (p i) (q i) y)))
      (forced_met k false (node_lit name c true) (node_lit name a false) (λ p q. h ∙ (λ i. cond (p i) (q i) y)))
      (forced_met k true (node_lit name c false) (lit name b) (λ p q. h ∙ (λ i. cond (p i) (v (name a)) (on q i))))
      (forced_met k false (node_lit name c false) (negate (lit name b)) (λ p q. h ∙ (λ i. cond (p i) (v (name a)) (off q i))))
      (forced_met k true (node_lit name a true) (lit name b) (λ p q. h ∙ (λ i. cond (v (name c)) (p i) (on q i)) ∙ same_branches (v (name c)) true))
      (forced_met k false (node_lit name a false) (negate (lit name b)) (λ p q. h ∙ (λ i. cond (v (name c)) (p i) (off q i)) ∙ same_branches (v (name c)) false))

-- the clauses of a live node are among the clauses
pub node_in : (live : ℕ → Bool) (name : ℕ → ℕ) (j : ℕ) (g : List GraphNode) (k : ℕ) (c : List Lit) → k < length g → live (j + k) ≡ true →
    Contains (clauses_of name (j + k) (get_or g k Input)) c → Contains (cnf_from live name j g) c
node_in live name j [] k c l on h = absurd (omega arith)
node_in live name j (n ∷ ns) zero c l on h =
    let e : j + 0 ≡ j = omega arith in
    let P : ℕ → Type 0 = λ m. live m ≡ true in
    let Q : ℕ → Type 0 = λ m. Contains (clauses_of name m n) c in
    let at : live j ≡ true = subst P e on in
    let in_n : Contains (clauses_of name j n) c = subst Q e h in
    let f : cond (live j) (clauses_of name j n) [] ≡ clauses_of name j n = ap (λ b. cond b (clauses_of name j n) []) at in
    let R : List (List Lit) → Type 0 = λ cs. Contains cs c in
    Contains-append_left (cond (live j) (clauses_of name j n) []) (cnf_from live name (suc j) ns) c (subst R (sym f) in_n)
node_in live name j (n ∷ ns) (suc k) c l on h =
    let e : j + suc k ≡ suc j + k = omega arith in
    let P : ℕ → Type 0 = λ m. live m ≡ true in
    let Q : ℕ → Type 0 = λ m. Contains (clauses_of name m (get_or ns k Input)) c in
    Contains-append_right (cond (live j) (clauses_of name j n) []) (cnf_from live name (suc j) ns) c
    (node_in live name (suc j) ns k c (omega arith) (subst P e on) (subst Q e h))

-- what each live node's clauses meet, all clauses meet
pub all_nodes : (P : List Lit → Type 0) (live : ℕ → Bool) (name : ℕ → ℕ) (j : ℕ) (g : List GraphNode) →
    ((k : ℕ) → k < length g → live (j + k) ≡ true → All P (clauses_of name (j + k) (get_or g k Input))) → All P (cnf_from live name j g)
all_nodes P live name j [] h = All-nil P
all_nodes P live name j (n ∷ ns) h =
    let e : j + 0 ≡ j = omega arith in
    let here : live j ≡ true → All P (clauses_of name j n) =
    λ on. (let Q : ℕ → Type 0 = λ m. All P (clauses_of name m n) in subst Q e (h 0 (omega arith) (let R : ℕ → Type 0 = λ m. live m ≡ true in subst R (sym e) on))) in
    let first : All P (cond (live j) (clauses_of name j n) []) =
    elim (cases_Bool (live j)) [
      | inl on ↦ rw on (here on)
      | inr off ↦ rw off (All-nil P)
    ] in
    All-append P (cond (live j) (clauses_of name j n) []) (cnf_from live name (suc j) ns) first
    (all_nodes P live name (suc j) ns (λ k l on.
    let f : j + suc k ≡ suc j + k = omega arith in
    let R : ℕ → Type 0 = λ m. live m ≡ true in
    let Q : ℕ → Type 0 = λ m. All P (clauses_of name m (get_or ns k Input)) in
    subst Q f (h (suc k) (omega arith) (subst R (sym f) on))))

-- P of each clause of each live node
at_node : (P : List Lit → Type 0) (live : ℕ → Bool) (name : ℕ → ℕ) (g : List GraphNode) → All P (cnf_from live name 0 g) →
    (k : ℕ) → k < length g → live k ≡ true → (c : List Lit) → Contains (clauses_of name k (get_or g k Input)) c → P c
at_node P live name g h k l on c in_c =
    let e : 0 + k ≡ k = omega arith in
    let R : ℕ → Type 0 = λ m. live m ≡ true in
    let Q : ℕ → Type 0 = λ m. Contains (clauses_of name m (get_or g k Input)) c in
    All-contains P (cnf_from live name 0 g) c h (node_in live name 0 g k c l (subst R (sym e) on) (subst Q (sym e) in_c))

pub clauses_hold : (live : ℕ → Bool) (name : ℕ → ℕ) (g : List GraphNode) (v : ℕ → Bool) → All (ClauseTrue v) (cnf_from live name 0 g) ↔ HoldsLive live (of_nodes name v) g
clauses_hold live name g v = (
  λ h k l on. node_from name v k (get_or g k Input)
      (λ i d m. at_node (ClauseTrue v) live name g h k l on (get_or (clauses_of name k (get_or g k Input)) i d) (Contains-get_or (clauses_of name k (get_or g k Input)) i d m)),
  λ h. all_nodes (ClauseTrue v) live name 0 g (λ k l on.
      let e : 0 + k ≡ k = omega arith in
      let R : ℕ → Type 0 = λ m. live m ≡ true in
      let Q : ℕ → Type 0 = λ m. All (ClauseTrue v) (clauses_of name m (get_or g k Input)) in
      subst Q (sym e) (node_to name v k (get_or g k Input) (h k l (subst R e on)))),
)

not-not : (b : Bool) → not (not b) ≡ b
not-not true = refl
not-not false = refl

negate-negate : (l : Lit) → negate (negate l) ≡ l
negate-negate l = λ i. record { var = l.var; positive = not-not l.positive i }

module _ (name : ℕ → ℕ) (t : Lit → Bool) where
  abbrev Unit_rule : List Lit → Type 0
  Unit_rule c = (l : Lit) → UnitIn t c l → t l ≡ true

  abbrev Off : Lit → Lit → Type 0
  Off l m = (m ≡ l → ⊥) → t (negate m) ≡ true

  down_sets : (k : ℕ) (a : Edge) → Unit_rule (down name k a) → t (negate (lit name a)) ≡ true → t (node_lit name k false) ≡ true
  down_sets k a rule off =
      let l = node_lit name k false in
      rule l (
        first_in l (lit name a ∷ []),
        All-cons (Off l) l (lit name a ∷ []) (λ ne. absurd (ne refl)) (All-cons (Off l) (lit name a) [] (λ ne. off) (All-nil (Off l))),
      )

  forced_sets : (k : ℕ) (y : Bool) (a b : Lit) → Unit_rule (forced name k y a b) → Forces name t k y a b
  forced_sets k y a b rule on_a on_b =
      let l = node_lit name k y in
      let na = negate a in
      let nb = negate b in
      rule l (
        first_in l (na ∷ nb ∷ []),
        All-cons (Off l) l (na ∷ nb ∷ []) (λ ne. absurd (ne refl))
            (All-cons (Off l) na (nb ∷ []) (λ ne. ap t (negate-negate a) ∙ on_a)
            (All-cons (Off l) nb [] (λ ne. ap t (negate-negate b) ∙ on_b) (All-nil (Off l)))),
      )

  false_sets : (k : ℕ) → Unit_rule (node_lit name k false ∷ []) → t (node_lit name k false) ≡ true
  false_sets k rule =
      let l = node_lit name k false in
      rule l (first_in l [], All-cons (Off l) l [] (λ ne. absurd (ne refl)) (All-nil (Off l)))

  node_set : (k : ℕ) (n : GraphNode) → ((c : List Lit) → Contains (clauses_of name k n) c → Unit_rule c) → NodeSet name t k n
  node_set k False h = false_sets k (h (node_lit name k false ∷ []) (first_in (node_lit name k false ∷ []) []))
  node_set k Input h = tt
  node_set k (And a b) h =
      let third = forced name k true (lit name a) (lit name b) in (
        forced_sets k true (lit name a) (lit name b) (h third (2, omega arith, refl)),
        down_sets k a (h (down name k a) (0, omega arith, refl)),
        down_sets k b (h (down name k b) (1, omega arith, refl)),
      )
  node_set k (Xor a b) h =
      let A = node_lit name a in
      let B = node_lit name b in (
        forced_sets k false (A true) (B true) (h (forced name k false (A true) (B true)) (0, omega arith, refl)),
        forced_sets k true (A true) (B false) (h (forced name k true (A true) (B false)) (1, omega arith, refl)),
        forced_sets k true (A false) (B true) (h (forced name k true (A false) (B true)) (2, omega arith, refl)),
        forced_sets k false (A false) (B false) (h (forced name k false (A false) (B false)) (3, omega arith, refl)),
      )
  node_set k (Choice c a b) h =
      let C = node_lit name c in
      let A = node_lit name a in
      let B = lit name b in (
        forced_sets k true (C true) (A true) (h (forced name k true (C true) (A true)) (0, omega arith, refl)),
        forced_sets k false (C true) (A false) (h (forced name k false (C true) (A false)) (1, omega arith, refl)),
        forced_sets k true (C false) B (h (forced name k true (C false) B) (2, omega arith, refl)),
        forced_sets k false (C false) (negate B) (h (forced name k false (C false) (negate B)) (3, omega arith, refl)),
        forced_sets k true (A true) B (h (forced name k true (A true) B) (4, omega arith, refl)),
        forced_sets k false (A false) (negate B) (h (forced name k false (A false) (negate B)) (5, omega arith, refl)),
      )

-- a closed set holds a node's literal once it holds those of the operands
pub sets_live : (live : ℕ → Bool) (name : ℕ → ℕ) (g : List GraphNode) (t : Lit → Bool) → Closed t (cnf_from live name 0 g) → SetLive live name t g
sets_live live name g t closed k l on =
    node_set name t k (get_or g k Input) (at_node (λ c. (l : Lit) → UnitIn t c l → t l ≡ true) live name g closed k l on)
