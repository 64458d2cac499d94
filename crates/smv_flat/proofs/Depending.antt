-- The dependencies between slots, and what the graph of slots and nodes leads to.
use Rattle.std.proofs.Common.{◌≡◌, inl, inr, ℕ, ◌+◌, ◌<◌, ◌≤◌, Bool, true, ◌||◌, List, [], ◌∷◌, length, map, filter, refl, sym, ap, subst, ◌∙◌, arith, Contains}
use Rattle.std.specs.List.{list_any, range_with_len}
use Rattle.std.proofs.lemmas.Bool.{cases_lt, and_parts, and_from}
use Rattle.std.proofs.lemmas.List.{get_or_past}
use Rattle.std.proofs.lemmas.List.Elements.{All-contains, All-filter, filter_passes}
use Rattle.std.proofs.lemmas.List.Folds.{Any-from_list_any, list_any-from_Any}
use Rattle.std.proofs.lemmas.List.FromFn.{get_or-map-range_with_len, length-map-range_with_len}
use Rattle.digraph.specs.Cycles.{Acyclic, Edge, Leads, Walk}
use Rattle.smv_resolve.specs.declared.node.ExprNode.{ExprNode}
use Rattle.smv_resolve.specs.Resolved.{part_of}
use Rattle.smv_flat.specs.declared.assigned.Assigned.{Assigned}
use Rattle.smv_flat.specs.declared.time.Time.{Time}
use Rattle.smv_flat.specs.Assignments.{SlotAssignment, depends, gives, looks_ahead, occurs, ties}
use Rattle.smv_flat.specs.Graph.{assigned_by, stand, whole_graph}
use Rattle.smv_flat.proofs.Leading.{leads_join, leads_next, leads_up, root_edge}
use Rattle.smv_flat.proofs.Listed.{kept, none_in, number_in, numbers_below}
use Rattle.smv_resolve.proofs.Parts.{part_past}
use Rattle.smv_flat.proofs.Reading.{nothing_read}

any_mapped : {A B : Type 0} (p : B → Bool) (f : A → B) (xs : List A) → list_any p (map f xs) ≡ list_any (λ x. p (f x)) xs
any_mapped p f [] = refl
any_mapped p f (x ∷ xs) = ap (λ b. p (f x) || b) (any_mapped p f xs)

-- the graph of dependencies of so many slots by these assignments
abbrev pub slot_graph : ℕ → Time → List SlotAssignment → List (List ℕ)
slot_graph slots time as' = map (λ x. filter (depends time as' x) (range_with_len 0 slots)) (range_with_len 0 slots)

pub depends_edge : (slots : ℕ) (time : Time) (as' : List SlotAssignment) (x y : ℕ) → x < slots → y < slots → depends time as' x y ≡ true → Edge (slot_graph slots time as') x y
depends_edge slots time as' x y lt lt' holds =
    let f = λ (i : ℕ). filter (depends time as' i) (range_with_len 0 slots) in
    let zero-plus : 0 + x ≡ x = omega arith in
    let P : List ℕ → Type 0 = λ vs. Contains vs y in
    subst P (sym (get_or-map-range_with_len f 0 slots x x [] lt zero-plus)) (kept (depends time as' x) (range_with_len 0 slots) y (number_in slots y lt') holds)

pub edge_depends : (slots : ℕ) (time : Time) (as' : List SlotAssignment) (x y : ℕ) → Edge (slot_graph slots time as') x y → (x < slots) × (y < slots) × (depends time as' x y ≡ true)
edge_depends slots time as' x y edge =
    let f = λ (i : ℕ). filter (depends time as' i) (range_with_len 0 slots) in
    let zero-plus : 0 + x ≡ x = omega arith in
    let P : List ℕ → Type 0 = λ vs. Contains vs y in
    elim (cases_lt x slots) [
      | inl lt ↦
          let here : Contains (f x) y = subst P (get_or-map-range_with_len f 0 slots x x [] lt zero-plus) edge in (
            lt,
            All-contains (λ v. v < slots) (f x) y (All-filter (depends time as' x) (λ v. v < slots) (range_with_len 0 slots) (numbers_below slots)) here,
            All-contains (λ v. depends time as' x v ≡ true) (f x) y (filter_passes (depends time as' x) (range_with_len 0 slots)) here,
          )
      | inr ge ↦
          let long = length-map-range_with_len f 0 slots in
          let past : length (slot_graph slots time as') ≤ x = omega (arith, long, ge) in
          absurd (none_in y (subst P (get_or_past (slot_graph slots time as') x [] past) edge))
    ]

module _ (slots : ℕ) (nodes : List ExprNode) (time : Time) (all : List Assigned) where
  -- the dependencies by these assignments
  abbrev pub dependency : List (List ℕ)
  dependency = slot_graph slots time (map (assigned_by nodes) all)

  -- an assignment that ties two slots
  pub tied : (x y : ℕ) → depends time (map (assigned_by nodes) all) x y ≡ true
      → (a : Assigned) × Contains all a × (gives time x (assigned_by nodes a) ≡ true) × (occurs (looks_ahead a.kind) y (part_of nodes a.value) ≡ true)
  tied x y holds =
      let some = Any-from_list_any (λ (a : Assigned). ties time x y (assigned_by nodes a)) all (sym (any_mapped (ties time x y) (assigned_by nodes) all) ∙ holds) in
      let a = some.1 in
      let parts = and_parts (gives time x (assigned_by nodes a)) (occurs (looks_ahead a.kind) y (part_of nodes a.value)) some.4 in
      (a, (some.0, some.2, some.3), parts.0, parts.1)

  -- an assignment ties the slots that its value reads
  pub ties_edge : (x y : ℕ) (a : Assigned) → x < slots → y < slots → Contains all a → gives time x (assigned_by nodes a) ≡ true → occurs (looks_ahead a.kind) y (part_of nodes a.value) ≡ true
      → Edge dependency x y
  ties_edge x y a lt lt' here given read =
      depends_edge slots time (map (assigned_by nodes) all) x y lt lt'
      (any_mapped (ties time x y) (assigned_by nodes) all
      ∙ list_any-from_Any (λ (b : Assigned). ties time x y (assigned_by nodes b)) all
      (here.0, a, here.1, here.2, and_from (gives time x (assigned_by nodes a)) (occurs (looks_ahead a.kind) y (part_of nodes a.value)) given read))

  -- what reads something is a node
  node_read : (ahead : Bool) (y k : ℕ) → occurs ahead y (part_of nodes k) ≡ true → k < length nodes
  node_read ahead y k read =
      elim (cases_lt k (length nodes)) [
        | inl lt ↦ lt
        | inr past ↦ nothing_read (sym (ap (occurs ahead y) (part_past nodes k past)) ∙ read)
      ]

  -- a slot leads to those that it depends on
  pub edge_leads : (x y : ℕ) → Edge dependency x y → Leads (whole_graph slots nodes time all) x y
  edge_leads x y edge =
      let says = edge_depends slots time (map (assigned_by nodes) all) x y edge in
      let tie = tied x y says.2 in
      let a = tie.0 in
      let within : a.value < length nodes = node_read (looks_ahead a.kind) y a.value tie.3 in
      leads_next (whole_graph slots nodes time all) x (stand slots (length nodes) (looks_ahead a.kind) a.value) y
      (root_edge slots nodes time all x a says.0 tie.1 tie.2 within)
      (leads_up slots nodes time all (a.value + 1) a.value (omega arith) (looks_ahead a.kind) y says.1 within tie.3)

  walk_leads : (xs : List ℕ) (a b : ℕ) → Walk dependency a xs b → Leads (whole_graph slots nodes time all) a b
  walk_leads [] a b w = edge_leads a b w
  walk_leads (x ∷ xs) a b w = leads_join (whole_graph slots nodes time all) a x b (edge_leads a x w.0) (walk_leads xs x b w.1)

  -- where the graph has no cycle, no slot depends on itself
  pub acyclic : Acyclic (whole_graph slots nodes time all) → Acyclic dependency
  acyclic none a leads = none a (walk_leads leads.0 a a leads.1)
