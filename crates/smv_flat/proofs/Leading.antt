-- What the graph of slots and nodes leads to.
use Rattle.std.proofs.Common.{◌≡◌, ◌⊎◌, inl, inr, ℕ, zero, suc, ◌+◌, ◌-◌, ◌<◌, ◌≤◌, ◌==◌, Bool, true, false, ◌&&◌, nat_lt, if◌then◌else◌, List, [], ◌∷◌, ◌++◌, length, get_or, slice_get, Some, refl, sym, ap, subst, ◌∙◌, arith, All, Contains, length-append}
use Rattle.std.specs.List.{flat_map}
use Rattle.std.proofs.lemmas.Bool.{cases_lt, lt-ltb, ltb-true, cond_both}
use Rattle.std.proofs.lemmas.List.{get_or_append_left, get_or-append_right, get_or_past}
use Rattle.std.proofs.lemmas.List.Elements.{All-nil, All-cons, All-append, All-weaker, All-contains, All-contains_itself, Contains-append_left, Contains-append_right}
use Rattle.std.proofs.lemmas.List.FromFn.{get_or-map-range_with_len, length-map-range_with_len}
use Rattle.std.proofs.lemmas.Option.{slice_get_cases}
use Rattle.digraph.specs.Cycles.{Closed, Edge, Leads, Walk, successors}
use Rattle.smv_resolve.specs.declared.node.ExprNode.{ExprNode}
use Rattle.smv_resolve.specs.Resolved.{part_of}
use Rattle.smv_flat.specs.declared.assigned.Assigned.{Assigned}
use Rattle.smv_flat.specs.declared.time.Time.{Time}
use Rattle.smv_flat.specs.Assignments.{looks_ahead, occurs, speaks_of}
use Rattle.smv_flat.specs.Graph.{operands, own_slot, part_below, root_of, roots, row, rows, slot_rows, stand, whole_graph}
use Rattle.smv_flat.proofs.Listed.{all_joined, joined_in, first_in, none_in}
use Rattle.smv_resolve.proofs.Parts.{before, before_long, below_is, below_stuck, part_is}
use Rattle.smv_flat.proofs.Reading.{IsRead, Passes, nothing_read, own_is_read, parts_pass, whence}

pub leads_next : (g : List (List ℕ)) (a x b : ℕ) → Edge g a x → Leads g x b → Leads g a b
leads_next g a x b edge leads = (x ∷ leads.0, (edge, leads.1))

walk_join : (g : List (List ℕ)) (xs ys : List ℕ) (a m b : ℕ) → Walk g a xs m → Walk g m ys b → Walk g a (xs ++ m ∷ ys) b
walk_join g [] ys a m b v w = (v, w)
walk_join g (x ∷ xs) ys a m b v w = (v.0, walk_join g xs ys x m b v.1 w)

pub leads_join : (g : List (List ℕ)) (a m b : ℕ) → Leads g a m → Leads g m b → Leads g a b
leads_join g a m b v w = (v.0 ++ m ∷ w.0, walk_join g v.0 w.0 a m b v.1 w.1)

some_node : (nodes : List ExprNode) (k : ℕ) → k < length nodes → (x : ExprNode) × (slice_get nodes k ≡ Some x)
some_node nodes k lt =
    elim (slice_get_cases nodes k).1 [
      | inl some ↦ (some.0, some.2)
      | inr past ↦ let le : length nodes ≤ k = past.0 in absurd (omega (arith, lt, le))
    ]

-- a node stands behind the slots, and within the graph
pub stands_behind : (slots nodes : ℕ) (ahead : Bool) (k : ℕ) → slots ≤ stand slots nodes ahead k
stands_behind slots nodes true k = omega arith
stands_behind slots nodes false k = omega arith

stands_within : (slots nodes : ℕ) (ahead : Bool) (k : ℕ) → k < nodes → stand slots nodes ahead k < slots + (nodes + nodes)
stands_within slots nodes true k lt = omega arith
stands_within slots nodes false k lt = omega arith

-- a place in the graph is a slot, or where a node stands
pub stands : (slots nodes z : ℕ) → z < slots + (nodes + nodes) → (z < slots) ⊎ ((ahead : Bool) × (k : ℕ) × (k < nodes) × (z ≡ stand slots nodes ahead k))
stands slots nodes z lt =
    elim (cases_lt z slots) [
      | inl slot ↦ inl slot
      | inr node ↦
          elim (cases_lt z (slots + nodes)) [
            | inl here ↦ inr (false, z - slots, omega arith, omega arith)
            | inr there ↦ inr (true, z - (slots + nodes), omega arith, omega arith)
          ]
    ]

-- nodes that stand at one place are one
pub stands_once : (slots nodes : ℕ) (a b : Bool) (k j : ℕ) → k < nodes → j < k → stand slots nodes a k ≡ stand slots nodes b j → ⊥
stands_once slots nodes true true k j lt less e = omega arith
stands_once slots nodes true false k j lt less e = omega arith
stands_once slots nodes false true k j lt less e = omega arith
stands_once slots nodes false false k j lt less e = omega arith

module _ (slots : ℕ) (nodes : List ExprNode) (time : Time) (all : List Assigned) where
  pub size : length (whole_graph slots nodes time all) ≡ slots + (length nodes + length nodes)
  unfolding whole_graph
  size =
      let n = length nodes in
      let a = length-map-range_with_len (roots slots n time all) 0 slots in
      let b = length-map-range_with_len (λ k. row slots n false k (slice_get nodes k)) 0 n in
      let c = length-map-range_with_len (λ k. row slots n true k (slice_get nodes k)) 0 n in
      let d = length-append (slot_rows slots n time all) (rows slots nodes false) in
      let e = length-append (slot_rows slots n time all ++ rows slots nodes false) (rows slots nodes true) in
      omega (arith, a, b, c, d, e)

  pub slot_row : (x : ℕ) → x < slots → successors (whole_graph slots nodes time all) x ≡ roots slots (length nodes) time all x
  unfolding whole_graph
  slot_row x lt =
      let n = length nodes in
      let a : length (slot_rows slots n time all) ≡ slots = length-map-range_with_len (roots slots n time all) 0 slots in
      let d = length-append (slot_rows slots n time all) (rows slots nodes false) in
      let zero-plus : 0 + x ≡ x = omega arith in
      get_or_append_left (slot_rows slots n time all ++ rows slots nodes false) (rows slots nodes true) [] x (omega (arith, a, d, lt))
      ∙ get_or_append_left (slot_rows slots n time all) (rows slots nodes false) [] x (omega (arith, a, lt))
      ∙ get_or-map-range_with_len (roots slots n time all) 0 slots x x [] lt zero-plus

  present_row : (k : ℕ) → k < length nodes → successors (whole_graph slots nodes time all) (slots + k) ≡ row slots (length nodes) false k (slice_get nodes k)
  unfolding whole_graph
  present_row k lt =
      let n = length nodes in
      let a : length (slot_rows slots n time all) ≡ slots = length-map-range_with_len (roots slots n time all) 0 slots in
      let b : length (rows slots nodes false) ≡ n = length-map-range_with_len (λ i. row slots n false i (slice_get nodes i)) 0 n in
      let d = length-append (slot_rows slots n time all) (rows slots nodes false) in
      let zero-plus : 0 + k ≡ k = omega arith in
      let back : slots + k - slots ≡ k = omega arith in
      get_or_append_left (slot_rows slots n time all ++ rows slots nodes false) (rows slots nodes true) [] (slots + k) (omega (arith, a, b, d, lt))
      ∙ get_or-append_right (slot_rows slots n time all) (rows slots nodes false) slots (slots + k) [] a (omega arith)
      ∙ ap (λ i. get_or (rows slots nodes false) i []) back
      ∙ get_or-map-range_with_len (λ i. row slots n false i (slice_get nodes i)) 0 n k k [] lt zero-plus

  next_row : (k : ℕ) → k < length nodes → successors (whole_graph slots nodes time all) ((slots + length nodes) + k) ≡ row slots (length nodes) true k (slice_get nodes k)
  unfolding whole_graph
  next_row k lt =
      let n = length nodes in
      let a : length (slot_rows slots n time all) ≡ slots = length-map-range_with_len (roots slots n time all) 0 slots in
      let b : length (rows slots nodes false) ≡ n = length-map-range_with_len (λ i. row slots n false i (slice_get nodes i)) 0 n in
      let d = length-append (slot_rows slots n time all) (rows slots nodes false) in
      let front : length (slot_rows slots n time all ++ rows slots nodes false) ≡ slots + n = omega (arith, a, b, d) in
      let zero-plus : 0 + k ≡ k = omega arith in
      let back : (slots + n) + k - (slots + n) ≡ k = omega arith in
      get_or-append_right (slot_rows slots n time all ++ rows slots nodes false) (rows slots nodes true) (slots + n) ((slots + n) + k) [] front (omega arith)
      ∙ ap (λ i. get_or (rows slots nodes true) i []) back
      ∙ get_or-map-range_with_len (λ i. row slots n true i (slice_get nodes i)) 0 n k k [] lt zero-plus

  node_row : (ahead : Bool) (k : ℕ) → k < length nodes → successors (whole_graph slots nodes time all) (stand slots (length nodes) ahead k) ≡ row slots (length nodes) ahead k (slice_get nodes k)
  node_row true k lt = next_row k lt
  node_row false k lt = present_row k lt

  -- an edge to a part that lies before its node
  part_edge : (limit : ℕ) (o : Bool × ℕ) → o.1 < limit → Contains (part_below slots (length nodes) limit o) (stand slots (length nodes) o.0 o.1)
  part_edge limit o lt =
      let P : List ℕ → Type 0 = λ vs. Contains vs (stand slots (length nodes) o.0 o.1) in
      subst P (sym (ap (λ b. if b then stand slots (length nodes) o.0 o.1 ∷ [] else []) (lt-ltb o.1 limit lt))) (first_in (stand slots (length nodes) o.0 o.1) [])

  -- a node leads to the slots that it reads
  pub leads_up : (most k : ℕ) → k < most → (ahead : Bool) (y : ℕ) → y < slots → k < length nodes → occurs ahead y (part_of nodes k) ≡ true
      → Leads (whole_graph slots nodes time all) (stand slots (length nodes) ahead k) y
  leads_up zero k lt ahead y there within h = absurd (omega (arith, lt))
  leads_up (suc most) k lt ahead y there within h =
      let n = length nodes in
      let g = whole_graph slots nodes time all in
      let found = some_node nodes k within in
      let x = found.0 in
      let successor : successors g (stand slots n ahead k) ≡ own_slot slots ahead x ++ flat_map (part_below slots n k) (operands ahead k x) =
      node_row ahead k within ∙ ap (row slots n ahead k) found.1 in
      let P : ℕ → List ℕ → Type 0 = λ v vs. Contains vs v in
      elim (whence slots ahead y (before nodes k) k x (before_long nodes k (omega (arith, within))) there (sym (ap (occurs ahead y) (part_is nodes k x found.1)) ∙ h)) [
        | inl own ↦ ([], subst (P y) (sym successor) (Contains-append_left (own_slot slots ahead x) (flat_map (part_below slots n k) (operands ahead k x)) y own))
        | inr by ↦
            let o = by.0 in
            elim (cases_lt o.1 k) [
              | inl less ↦
                  let v = stand slots n o.0 o.1 in
                  let edge : Contains (flat_map (part_below slots n k) (operands ahead k x)) v = joined_in (part_below slots n k) (operands ahead k x) o v by.1 (part_edge k o less) in
                  leads_next g (stand slots n ahead k) v y (subst (P v) (sym successor) (Contains-append_right (own_slot slots ahead x) (flat_map (part_below slots n k) (operands ahead k x)) v edge))
                  (leads_up most o.1 (omega (arith, lt, less)) o.0 y there (omega (arith, less, within)) (sym (ap (occurs o.0 y) (below_is nodes k o.1 less (omega (arith, within)))) ∙ by.2))
              | inr ge ↦ nothing_read (sym (ap (occurs o.0 y) (below_stuck nodes k o.1 (omega (arith, within)) ge)) ∙ by.2)
            ]
      ]

  -- what a node leads to is a slot that it reads, or a node before it whose reads are its own
  abbrev pub Down : Bool → ℕ → ℕ → Type 0
  Down ahead k z =
      ((z < slots) × (occurs ahead z (part_of nodes k) ≡ true))
      ⊎ ((o : Bool × ℕ) × (o.1 < k) × (z ≡ stand slots (length nodes) o.0 o.1) × ((y : ℕ) → occurs o.0 y (part_of nodes o.1) ≡ true → occurs ahead y (part_of nodes k) ≡ true))

  pub leads_down : (ahead : Bool) (k z : ℕ) → k < length nodes → Edge (whole_graph slots nodes time all) (stand slots (length nodes) ahead k) z → Down ahead k z
  leads_down ahead k z within edge =
      let n = length nodes in
      let g = whole_graph slots nodes time all in
      let found = some_node nodes k within in
      let x = found.0 in
      let is = part_is nodes k x found.1 in
      let own = own_slot slots ahead x in
      let others = flat_map (part_below slots n k) (operands ahead k x) in
      let D : ℕ → Type 0 = Down ahead k in
      let P : List ℕ → Type 0 = λ vs. Contains vs z in
      let here : Contains (own ++ others) z = subst P (node_row ahead k within ∙ ap (row slots n ahead k) found.1) edge in
      let reads : All D own = All-weaker (IsRead slots ahead (before nodes k) x) D (λ y h. inl (h.0, ap (occurs ahead y) is ∙ h.1)) own (own_is_read slots ahead (before nodes k) x) in
      let each : All (λ o. All D (part_below slots n k o)) (operands ahead k x) =
      All-weaker (Passes ahead (before nodes k) x) (λ o. All D (part_below slots n k o))
      (λ o pass. cond_both (nat_lt o.1 k) (stand slots n o.0 o.1 ∷ []) [] (λ vs. All D vs)
      (λ t. let less : o.1 < k = ltb-true o.1 k t in
      All-cons D (stand slots n o.0 o.1) []
      (inr (o, less, refl, λ y h. ap (occurs ahead y) is ∙ pass y (ap (occurs o.0 y) (below_is nodes k o.1 less (omega (arith, within))) ∙ h))) (All-nil D))
      (λ f. All-nil D))
      (operands ahead k x) (parts_pass ahead (before nodes k) k x (before_long nodes k (omega (arith, within)))) in
      All-contains D (own ++ others) z (All-append D own others reads (all_joined D (part_below slots n k) (operands ahead k x) each)) here

  -- where a value stands that is assigned to a slot
  abbrev pub IsRoot : ℕ → ℕ → Type 0
  IsRoot x z =
      (a : Assigned) × Contains all a × ((speaks_of time a.kind && a.slot == x) ≡ true) × (a.value < length nodes) × (z ≡ stand slots (length nodes) (looks_ahead a.kind) a.value)

  pub root_edge : (x : ℕ) (a : Assigned) → x < slots → Contains all a → (speaks_of time a.kind && a.slot == x) ≡ true → a.value < length nodes
      → Edge (whole_graph slots nodes time all) x (stand slots (length nodes) (looks_ahead a.kind) a.value)
  root_edge x a lt here gives within =
      let n = length nodes in
      let o : Bool × ℕ = (looks_ahead a.kind, a.value) in
      let v = stand slots n (looks_ahead a.kind) a.value in
      let P : List ℕ → Type 0 = λ vs. Contains vs v in
      let own : Contains (root_of slots n time x a) v = subst P (sym (ap (λ b. if b then part_below slots n n o else []) gives)) (part_edge n o within) in
      subst P (sym (slot_row x lt)) (joined_in (root_of slots n time x) all a v here own)

  pub roots_only : (x z : ℕ) → x < slots → Edge (whole_graph slots nodes time all) x z → IsRoot x z
  roots_only x z lt edge =
      let n = length nodes in
      let P : List ℕ → Type 0 = λ vs. Contains vs z in
      let R : ℕ → Type 0 = IsRoot x in
      let each : All (λ a. All R (root_of slots n time x a)) all =
      All-weaker (Contains all) (λ a. All R (root_of slots n time x a))
      (λ a here. cond_both (speaks_of time a.kind && a.slot == x) (part_below slots n n (looks_ahead a.kind, a.value)) [] (λ vs. All R vs)
      (λ gives. cond_both (nat_lt a.value n) (stand slots n (looks_ahead a.kind) a.value ∷ []) [] (λ vs. All R vs)
      (λ t. All-cons R (stand slots n (looks_ahead a.kind) a.value) [] (a, here, gives, ltb-true a.value n t, refl) (All-nil R))
      (λ f. All-nil R))
      (λ f. All-nil R))
      all (All-contains_itself all) in
      All-contains R (roots slots n time all x) z (all_joined R (root_of slots n time x) all each) (subst P (slot_row x lt) edge)

  pub within_graph : (a b : ℕ) → Edge (whole_graph slots nodes time all) a b → a < slots + (length nodes + length nodes)
  within_graph a b edge =
      elim (cases_lt a (slots + (length nodes + length nodes))) [
        | inl lt ↦ lt
        | inr ge ↦
            let P : List ℕ → Type 0 = λ vs. Contains vs b in
            let past : length (whole_graph slots nodes time all) ≤ a = omega (arith, size, ge) in
            absurd (none_in b (subst P (get_or_past (whole_graph slots nodes time all) a [] past) edge))
      ]

  -- the graph leads to itself alone
  pub closed : Closed (whole_graph slots nodes time all)
  closed a v edge =
      let n = length nodes in
      let g = whole_graph slots nodes time all in
      let inside : v < slots + (n + n) =
      elim (stands slots n a (within_graph a v edge)) [
        | inl slot ↦
            let root = roots_only a v slot edge in
            let low = stands_within slots n (looks_ahead root.0.kind) root.0.value root.3 in
            let is = root.4 in
            omega (arith, low, is)
        | inr at ↦
            let P : ℕ → Type 0 = λ u. Edge g u v in
            elim (leads_down at.0 at.1 v at.2 (subst P at.3 edge)) [
              | inl read ↦ let lt = read.0 in omega (arith, lt)
              | inr part ↦
                  let less = part.1 in
                  let lt = at.2 in
                  let within : part.0.1 < n = omega (arith, less, lt) in
                  let low = stands_within slots n part.0.0 part.0.1 within in
                  let is = part.2 in
                  omega (arith, low, is)
            ]
      ] in
      omega (arith, size, inside)
