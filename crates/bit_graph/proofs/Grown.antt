use Rattle.std.proofs.Common.{◌≡◌, ℕ, ◌<◌, ◌≤◌, ◌+◌, Bool, true, false, cond, List, [], ◌∷◌, ◌++◌, length, get_or, refl, sym, ◌∙◌, ap, subst, arith, rules, length-append, replicate, Option, Some, None, ⊎_elim}
use Rattle.std.specs.Map.{lookup}
use Rattle.std.proofs.lemmas.List.{get_or_append_left, get_or-replicate, length-replicate}
use Rattle.std.proofs.Math.Seq.{get_or-append_seam}
use Rattle.std.proofs.lemmas.Bool.{cases_lt, cases_Bool}
use Rattle.bit_graph.specs.declared.edge.Edge.{Edge}
use Rattle.bit_graph.specs.declared.edge.GraphNode.{GraphNode}
use Rattle.bit_graph.specs.declared.edge.GraphNode.TheVariants.{False, Input, And, Xor, Choice}
use Rattle.bit_graph.specs.Meaning.{gate_value, IsGate, NodeHolds, Consistent, IsBelow, Acyclic, IsNode, IsNew, HasInputs}
use Rattle.bit_graph.specs.Values.{values, HasValue}
use Rattle.bit_graph.specs.Growth.{Extends}
use Rattle.bit_graph.specs.Sharing.{node_eq, SharesIn, IsFalse, Folded, IsFolded, IsReduced}
use Rattle.bit_graph.proofs.Unique.{one_way, edge_value-same}

-- n inputs so far, and nothing else but constants
abbrev Starts : ℕ → List GraphNode → Type 0
Starts n g = HasInputs n g × Acyclic g × ((m : GraphNode) (k : ℕ) → IsGate m → IsNode g k m → ⊥)

pub old_node : (g : List GraphNode) (n : GraphNode) (k : ℕ) → k < length g → get_or (g ++ n ∷ []) k Input ≡ get_or g k Input
old_node g n k h = get_or_append_left g (n ∷ []) Input k h

pub new_node : (g : List GraphNode) (n : GraphNode) → get_or (g ++ n ∷ []) (length g) Input ≡ n
new_node g n = get_or-append_seam g n [] Input

pub longer_push : (g : List GraphNode) (n : GraphNode) → length (g ++ n ∷ []) ≡ length g + 1
longer_push g n = length-append g (n ∷ [])

pub Consistent-front : (v : ℕ → Bool) (g : List GraphNode) (n : GraphNode) → Consistent v (g ++ n ∷ []) → Consistent v g
Consistent-front v g n h = record {
  holds = λ k l. let P : GraphNode → Type 0 = NodeHolds v k in
      subst P (old_node g n k l) (h.holds k (omega (arith, longer_push g n)));
}

pub Acyclic-push : (g : List GraphNode) (n : GraphNode) → Acyclic g → IsBelow (length g) n → Acyclic (g ++ n ∷ [])
Acyclic-push g n h b = record {
  below = λ k l. let P : GraphNode → Type 0 = IsBelow k in
      ⊎_elim
      (λ (m : k < length g). subst P (sym (old_node g n k m)) (h.below k m))
      (λ (m : length g ≤ k).
      let e : k ≡ length g = omega (arith, longer_push g n) in
      let Q : ℕ → Type 0 = λ j. IsBelow j (get_or (g ++ n ∷ []) j Input) in
      subst Q (sym e) (let R : GraphNode → Type 0 = IsBelow (length g) in subst R (sym (new_node g n)) b))
      (cases_lt k (length g));
}

pub node_self : (n : GraphNode) → node_eq n n ≡ true
node_self n = search rules

pub node_same : (x y : GraphNode) → node_eq x y ≡ true → x ≡ y
node_same x y h = search rules

pub at_old : (g : List GraphNode) (m n : GraphNode) (k : ℕ) → IsNode g k n → IsNode (g ++ m ∷ []) k n
at_old g m n k h = (omega (arith, longer_push g m, h.0), old_node g m k h.0 ∙ h.1)

pub at_new : (g : List GraphNode) (n : GraphNode) → IsNode (g ++ n ∷ []) (length g) n
at_new g n = (omega (arith, longer_push g n), new_node g n)

none_is : (o : Option ℕ) → ((k : ℕ) → o ≡ Some k → ⊥) → o ≡ None
none_is None h = refl
none_is (Some k) h = absurd (h k refl)

module _ (g : List GraphNode) (old new : List (GraphNode × ℕ)) (n : GraphNode)
    (none : lookup (node_eq n) old ≡ None)
    (says : (q : GraphNode) → lookup (node_eq q) new ≡ cond (node_eq n q) (Some (length g)) (lookup (node_eq q) old)) where
  found_push : SharesIn g old → (m : GraphNode) (k : ℕ) → lookup (node_eq m) new ≡ Some k → IsNode (g ++ n ∷ []) k m
  found_push h m k e =
      let s : cond (node_eq n m) (Some (length g)) (lookup (node_eq m) old) ≡ Some k = sym (says m) ∙ e in
      ⊎_elim
      (λ (t : node_eq n m ≡ true).
      let n_is : n ≡ m = node_same n m t in
      let f : Some (length g) ≡ Some k = rw t at s in
      let k_is : length g ≡ k = cc in
      let P : ℕ → Type 0 = λ j. IsNode (g ++ n ∷ []) j m in
      let Q : GraphNode → Type 0 = λ x. IsNode (g ++ n ∷ []) (length g) x in
      subst P k_is (subst Q n_is (at_new g n)))
      (λ (t : node_eq n m ≡ false).
      at_old g n m k (h.found m k (rw t at s)))
      (cases_Bool (node_eq n m))

  complete_push : SharesIn g old → (m : GraphNode) (k : ℕ) → IsGate m → IsNode (g ++ n ∷ []) k m → lookup (node_eq m) new ≡ Some k
  complete_push h m k gate at =
      says m ∙
      ⊎_elim
      (λ (l : k < length g).
      let here : IsNode g k m = (l, sym (old_node g n k l) ∙ at.1) in
      let some : lookup (node_eq m) old ≡ Some k = h.complete m k gate here in
      ⊎_elim
      (λ (t : node_eq n m ≡ true).
      let n_is : n ≡ m = node_same n m t in
      let same : lookup (node_eq n) old ≡ lookup (node_eq m) old = λ i. lookup (node_eq (n_is i)) old in
      let no : None ≡ Some k = sym none ∙ same ∙ some in
      cc)
      (λ (t : node_eq n m ≡ false). rw t some)
      (cases_Bool (node_eq n m)))
      (λ (l : length g ≤ k).
      let k_is : length g ≡ k = omega (arith, longer_push g n, at.0) in
      let P : ℕ → Type 0 = λ j. get_or (g ++ n ∷ []) j Input ≡ m in
      let n_is : n ≡ m = sym (new_node g n) ∙ subst P (sym k_is) at.1 in
      let t : node_eq n m ≡ true = sym (λ i. node_eq n (n_is i)) ∙ node_self n in
      rw t (ap Some k_is))
      (cases_lt k (length g))

  pub SharesIn-push : SharesIn g old → SharesIn (g ++ n ∷ []) new
  SharesIn-push h = record { found = found_push h; complete = complete_push h }

holds_value : (v : ℕ → Bool) (k : ℕ) (n : GraphNode) → IsGate n → NodeHolds v k n → v k ≡ gate_value v n
holds_value v k False gate h = h
holds_value v k Input gate h = absurd gate
holds_value v k (And a b) gate h = h
holds_value v k (Xor a b) gate h = h
holds_value v k (Choice c a b) gate h = h

pub found_value : (v : ℕ → Bool) (g : List GraphNode) (n : GraphNode) (k : ℕ) → IsGate n → IsNode g k n → Consistent v g → v k ≡ gate_value v n
found_value v g n k gate at h = holds_value v k n gate (let P : GraphNode → Type 0 = NodeHolds v k in subst P at.1 (h.holds k at.0))

pub new_from_none : (g : List GraphNode) (table : List (GraphNode × ℕ)) (n : GraphNode) → IsGate n → SharesIn g table →
    None ≡ lookup (node_eq n) table → IsNew g n
new_from_none g table n gate h none k at =
    let no : None ≡ Some k = none ∙ h.complete n k gate at in
    cc

pub none_from_new : (g : List GraphNode) (table : List (GraphNode × ℕ)) (n : GraphNode) → SharesIn g table →
    IsNew g n → lookup (node_eq n) table ≡ None
none_from_new g table n h fresh = none_is (lookup (node_eq n) table) (λ k e. fresh k (h.found n k e))

pub gate_not_input : (n : GraphNode) → IsGate n → n ≡ Input → ⊥
gate_not_input n gate e = let P : GraphNode → Type 0 = IsGate in subst P e gate

pub gate_not_false : (n : GraphNode) → IsGate n → n ≡ False → ⊥
gate_not_false n gate e = let P : GraphNode → Type 0 = IsGate in subst P e gate

-- the new node is old or new
new_cases : (g : List GraphNode) (n : GraphNode) (P : ℕ → GraphNode → Type 0) → ((k : ℕ) → k < length g → P k (get_or g k Input)) → P (length g) n →
    (k : ℕ) → k < length (g ++ n ∷ []) → P k (get_or (g ++ n ∷ []) k Input)
new_cases g n P old new k l =
    ⊎_elim
    (λ (m : k < length g). let Q : GraphNode → Type 0 = P k in subst Q (sym (old_node g n k m)) (old k m))
    (λ (m : length g ≤ k).
    let e : length g ≡ k = omega (arith, longer_push g n) in
    let Q : ℕ → Type 0 = λ j. P j (get_or (g ++ n ∷ []) j Input) in
    let R : GraphNode → Type 0 = P (length g) in
    subst Q e (subst R (sym (new_node g n)) new))
    (cases_lt k (length g))

pub HasInputs-push : (g : List GraphNode) (m : GraphNode) (n : ℕ) → (m ≡ Input → ⊥) → HasInputs n g → HasInputs n (g ++ m ∷ [])
HasInputs-push g m n other h = record {
  at = λ k l. at_old g m Input k (h.at k l);
  only = new_cases g m (λ k x. x ≡ Input → k < n) h.only (λ e. absurd (other e));
}

-- one more node leaves the values of the others
values-push : (a : ℕ → Bool) (g : List GraphNode) (n : GraphNode) (k : ℕ) → Acyclic g → IsBelow (length g) n → k < length g →
    values a (g ++ n ∷ []) k ≡ values a g k
values-push a g n k ok below l =
    let later = (one_way (g ++ n ∷ []) (Acyclic-push g n ok below)).some a in
    (one_way g ok).only a (values a (g ++ n ∷ [])) (Consistent-front (values a (g ++ n ∷ [])) g n later.0)
    (λ j m e. later.1 j (omega (arith, longer_push g n)) (old_node g n j m ∙ e))
    k l

HasValue-push : (a : ℕ → Bool) (g : List GraphNode) (n : GraphNode) (e : Edge) (b : Bool) → Acyclic g → IsBelow (length g) n →
    HasValue a g e b → HasValue a (g ++ n ∷ []) e b
unfolding HasValue
HasValue-push a g n e b ok below h = (
  omega (arith, longer_push g n, h.0),
  edge_value-same (values a (g ++ n ∷ [])) (values a g) e (values-push a g n e.node ok below h.0) ∙ h.1,
)

pub Extends-push : (g : List GraphNode) (n : GraphNode) → IsGate n → Acyclic g → IsBelow (length g) n → Extends g (g ++ n ∷ [])
Extends-push g n gate ok below = record {
  longer = omega (arith, longer_push g n);
  kept = λ v h. Consistent-front v g n h;
  values = λ x e y h. HasValue-push x g n e y ok below h;
  inputs = λ i h. HasInputs-push g n i (gate_not_input n gate) h;
}

Starts-push : (g : List GraphNode) (m : GraphNode) (n p : ℕ) → (IsGate m → ⊥) → HasInputs p (g ++ m ∷ []) → IsBelow (length g) m → Starts n g → Starts p (g ++ m ∷ [])
Starts-push g m n p other inputs below h = (
  inputs,
  Acyclic-push g m h.1 below,
  λ x k gate at. new_cases g m (λ j y. y ≡ x → ⊥) (λ j l e. h.2 x j gate (l, e))
      (λ e. other (let P : GraphNode → Type 0 = IsGate in subst P (sym e) gate)) k at.0 at.1,
)

Starts-inputs : (n : ℕ) → Starts n (replicate n Input)
Starts-inputs n =
    let input : (k : ℕ) → k < length (replicate n Input) → get_or (replicate n Input) k Input ≡ Input = λ k l.
    get_or-replicate n k Input Input (omega (arith, length-replicate n Input)) in (
      record {
        at = λ k l. (omega (arith, length-replicate n Input), get_or-replicate n k Input Input l);
        only = λ k l e. omega (arith, length-replicate n Input);
      },
      record { below = λ k l. let P : GraphNode → Type 0 = IsBelow k in subst P (sym (input k l)) tt },
      λ m k gate at. let P : GraphNode → Type 0 = IsGate in subst P (sym at.1 ∙ input k at.0) gate,
    )

-- the nodes of a new graph
start : (n : ℕ) → Starts n (replicate n Input ++ False ∷ [])
start n =
    let g = replicate n Input in
    let h = Starts-inputs n in
    Starts-push g False n n (λ gate. gate) (HasInputs-push g False n (λ e. cc) h.0) tt h

-- where no node is a gate, all are folded
Folded-other : (g : List GraphNode) (n : GraphNode) → (IsGate n → ⊥) → Folded g n
Folded-other g False other = tt
Folded-other g Input other = tt
Folded-other g (And a b) other = absurd (other tt)
Folded-other g (Xor a b) other = absurd (other tt)
Folded-other g (Choice c a b) other = absurd (other tt)

-- the inputs and the invariant of a new graph
pub start_inputs : (n : ℕ) → HasInputs n (replicate n Input ++ False ∷ [])
start_inputs n = (start n).0

pub start_ok : (n : ℕ) (table : List (GraphNode × ℕ)) → table ≡ [] → let g = replicate n Input ++ False ∷ [] in
    Acyclic g × SharesIn g table × IsNode g n False × IsFolded g
start_ok n table e =
    let g = replicate n Input ++ False ∷ [] in
    let s = start n in
    let P : ℕ → Type 0 = λ k. IsNode g k False in (
      s.1,
      rw e (record {
        found = λ m k f. let no : None ≡ Some k = f in cc;
        complete = λ m k gate at. absurd (s.2 m k gate at);
      }),
      subst P (length-replicate n Input) (at_new (replicate n Input) False),
      λ m k at. Folded-other g m (λ gate. s.2 m k gate at),
    )

-- a new gate is no constant
no_constant : (g : List GraphNode) (n : GraphNode) (i : ℕ) → IsGate n → (IsFalse g i → ⊥) → IsFalse (g ++ n ∷ []) i → ⊥
no_constant g n i gate h at =
    new_cases g n (λ j m. i ≡ j → m ≡ False → ⊥)
    (λ j l same f. let P : ℕ → Type 0 = λ m. IsFalse g m → ⊥ in subst P same h (l, f))
    (λ same f. gate_not_false n gate f) i at.0 refl at.1

Folded-push : (g : List GraphNode) (n m : GraphNode) → IsGate n → Folded g m → Folded (g ++ n ∷ []) m
Folded-push g n False gate h = tt
Folded-push g n Input gate h = tt
Folded-push g n (And a b) gate h = (h.0, no_constant g n a.node gate h.1, no_constant g n b.node gate h.2)
Folded-push g n (Xor a b) gate h = (h.0, no_constant g n a gate h.1, no_constant g n b gate h.2)
Folded-push g n (Choice c a b) gate h = (h.0, no_constant g n c gate h.1, no_constant g n a gate h.2, no_constant g n b.node gate h.3)

pub IsFolded-push : (g : List GraphNode) (n : GraphNode) → IsGate n → Folded g n → IsFolded g → IsFolded (g ++ n ∷ [])
IsFolded-push g n gate here h = λ m k at.
    new_cases g n (λ j x. x ≡ m → Folded (g ++ n ∷ []) m)
    (λ j l e. Folded-push g n m gate (h m j (l, e)))
    (λ e. Folded-push g n m gate (let P : GraphNode → Type 0 = Folded g in subst P e here))
    k at.0 at.1

-- a table of the gates has no room for two equal ones
pub reduced : (g : List GraphNode) (table : List (GraphNode × ℕ)) → SharesIn g table → IsFolded g → IsReduced g
reduced g table h folded = record {
  same = λ n j k gate p q. (let e : Some j ≡ Some k = sym (h.complete n j gate p) ∙ h.complete n k gate q in cc);
  folded = folded;
}
