-- The slots of a cycle of the graph of slots and nodes are a cycle of dependencies.
use Rattle.std.proofs.Common.{◌≡◌, ◌≢◌, ◌⊎◌, inl, inr, ℕ, ◌+◌, ◌<◌, ◌≤◌, Bool, true, cond, nat_lt, List, [], ◌∷◌, length, filter, get_or, refl, sym, ap, subst, ◌∙◌, arith, All}
use Rattle.std.specs.List.{AllPairs}
use Rattle.std.proofs.lemmas.Bool.{lt-ltb, le-ltb}
use Rattle.std.proofs.lemmas.List.{get_or_default}
use Rattle.std.proofs.lemmas.List.Elements.{All-filter, All-from_get_or, All-head, All-tail}
use Rattle.std.proofs.lemmas.List.Kept.{AllPairs-filter}
use Rattle.digraph.specs.Cycles.{Distinct, Edge, IsCanonicalCycle, Walk}
use Rattle.smv_resolve.specs.declared.node.ExprNode.{ExprNode}
use Rattle.smv_resolve.specs.Resolved.{part_of}
use Rattle.smv_flat.specs.declared.assigned.Assigned.{Assigned}
use Rattle.smv_flat.specs.declared.time.Time.{Time}
use Rattle.smv_flat.specs.Assignments.{looks_ahead, occurs}
use Rattle.smv_flat.specs.Graph.{slots_among, stand, whole_graph}
use Rattle.smv_flat.proofs.Depending.{dependency, ties_edge}
use Rattle.smv_flat.proofs.Leading.{leads_down, roots_only, stands, stands_behind, stands_once, within_graph}

-- a list that names nothing twice still does not where some are left out
pub distinct_kept : (p : ℕ → Bool) (xs : List ℕ) → Distinct xs → Distinct (filter p xs)
distinct_kept p xs distinct =
    let pairs : AllPairs (λ x y. x ≢ y) xs =
    λ i j d lt within e. distinct i j lt within (get_or_default xs i 0 d (omega (arith, lt, within)) ∙ e ∙ get_or_default xs j d 0 within) in
    λ i j lt within. AllPairs-filter (λ x y. x ≢ y) p xs pairs i j 0 lt within

module _ (slots : ℕ) (nodes : List ExprNode) (time : Time) (all : List Assigned) where
  -- slot x depends on what the node reads
  abbrev pub Carries : ℕ → Bool → ℕ → Type 0
  Carries x ahead k = (y : ℕ) → y < slots → occurs ahead y (part_of nodes k) ≡ true → Edge (dependency slots nodes time all) x y

  -- a walk from slot x stands there, or at a node that reads for it
  abbrev pub At : ℕ → ℕ → Type 0
  At x at = ((at ≡ x) × (x < slots)) ⊎ ((ahead : Bool) × (k : ℕ) × (k < length nodes) × (at ≡ stand slots (length nodes) ahead k) × Carries x ahead k)

  -- the next step comes to a slot that x depends on, or to a node that reads for it
  step : (x at z : ℕ) → At x at → Edge (whole_graph slots nodes time all) at z → ((z < slots) × Edge (dependency slots nodes time all) x z) ⊎ ((slots ≤ z) × At x z)
  step x at z (inl slot) edge =
      let P : ℕ → Type 0 = λ u. Edge (whole_graph slots nodes time all) u z in
      let root = roots_only slots nodes time all x z slot.1 (subst P slot.0 edge) in
      let a = root.0 in
      let behind = stands_behind slots (length nodes) (looks_ahead a.kind) a.value in
      let is = root.4 in
      inr (omega (arith, behind, is), inr (looks_ahead a.kind, a.value, root.3, root.4, λ y there read. ties_edge slots nodes time all x y a slot.1 there root.1 root.2 read))
  step x at z (inr node) edge =
      let P : ℕ → Type 0 = λ u. Edge (whole_graph slots nodes time all) u z in
      elim (leads_down slots nodes time all node.0 node.1 z node.2 (subst P node.3 edge)) [
        | inl read ↦ inl (read.0, node.4 z read.0 read.1)
        | inr part ↦
            let o = part.0 in
            let behind = stands_behind slots (length nodes) o.0 o.1 in
            let is = part.2 in
            let less = part.1 in
            let lt = node.2 in
            inr (omega (arith, behind, is), inr (o.0, o.1, omega (arith, less, lt), part.2, λ y there read. node.4 y there (part.3 y read)))
      ]

  -- the slots of a walk are a walk along dependencies
  slots_walk : (zs : List ℕ) (x at b : ℕ) → At x at → b < slots → Walk (whole_graph slots nodes time all) at zs b → Walk (dependency slots nodes time all) x (slots_among slots zs) b
  slots_walk [] x at b here end walk =
      elim (step x at b here walk) [
        | inl slot ↦ slot.1
        | inr node ↦ let le = node.0 in absurd (omega (arith, le, end))
      ]
  slots_walk (z ∷ zs) x at b here end walk =
      let W : List ℕ → Type 0 = λ vs. Walk (dependency slots nodes time all) x vs b in
      elim (step x at z here walk.0) [
        | inl slot ↦
            subst W (sym (ap (λ t. cond t (z ∷ slots_among slots zs) (slots_among slots zs)) (lt-ltb z slots slot.0)))
            (slot.1, slots_walk zs z z b (inl (refl, slot.0)) end walk.1)
        | inr node ↦
            subst W (sym (ap (λ t. cond t (z ∷ slots_among slots zs) (slots_among slots zs)) (le-ltb z slots node.0)))
            (slots_walk zs x z b node.1 end walk.1)
      ]

  -- a walk that passes no slot comes to nodes before the first
  falls : (zs : List ℕ) (ahead : Bool) (k b : ℕ) → k < length nodes → Walk (whole_graph slots nodes time all) (stand slots (length nodes) ahead k) zs b → All (λ v. slots ≤ v) zs → slots ≤ b
      → (o : Bool × ℕ) × (o.1 < k) × (b ≡ stand slots (length nodes) o.0 o.1)
  falls [] ahead k b within walk past end =
      elim (leads_down slots nodes time all ahead k b within walk) [
        | inl read ↦ let lt = read.0 in absurd (omega (arith, lt, end))
        | inr part ↦ (part.0, part.1, part.2)
      ]
  falls (z ∷ zs) ahead k b within walk past end =
      elim (leads_down slots nodes time all ahead k z within walk.0) [
        | inl read ↦ let lt = read.0 in let le : slots ≤ z = All-head (λ v. slots ≤ v) z zs past in absurd (omega (arith, lt, le))
        | inr part ↦
            let less = part.1 in
            let P : ℕ → Type 0 = λ u. Walk (whole_graph slots nodes time all) u zs b in
            let rest = falls zs part.0.0 part.0.1 b (omega (arith, less, within)) (subst P part.2 walk.1) (All-tail (λ v. slots ≤ v) z zs past) end in
            let lower = rest.1 in
            (rest.0, omega (arith, lower, less), rest.2)
      ]

  -- a cycle passes a slot
  passes_slot : (x : ℕ) (xs : List ℕ) → Walk (whole_graph slots nodes time all) x xs x → x < slots + (length nodes + length nodes) → All (λ v. x ≤ v) xs → x < slots
  passes_slot x xs walk inside least =
      elim (stands slots (length nodes) x inside) [
        | inl slot ↦ slot
        | inr node ↦
            let P : ℕ → Type 0 = λ u. Walk (whole_graph slots nodes time all) u xs x in
            let behind : slots ≤ x = let low = stands_behind slots (length nodes) node.0 node.1 in let is = node.3 in omega (arith, low, is) in
            let past : All (λ v. slots ≤ v) xs = λ i d lt. let le : x ≤ get_or xs i d = least i d lt in omega (arith, le, behind) in
            let lower = falls xs node.0 node.1 x node.2 (subst P node.3 walk) past behind in
            absurd (stands_once slots (length nodes) node.0 lower.0.0 node.1 lower.0.1 node.2 lower.1 (sym node.3 ∙ lower.2))
      ]

  walk_inside : (x : ℕ) (xs : List ℕ) (b : ℕ) → Walk (whole_graph slots nodes time all) x xs b → x < slots + (length nodes + length nodes)
  walk_inside x [] b walk = within_graph slots nodes time all x b walk
  walk_inside x (z ∷ zs) b walk = within_graph slots nodes time all x z walk.0

  least_of : (x : ℕ) (xs : List ℕ) → IsCanonicalCycle (whole_graph slots nodes time all) (x ∷ xs) → All (λ v. x ≤ v) (x ∷ xs)
  least_of x xs round = All-from_get_or (λ v. x ≤ v) (x ∷ xs) 0 (λ i lt. round.least i lt)

  from_slot : (x : ℕ) (xs : List ℕ) → x < slots → IsCanonicalCycle (whole_graph slots nodes time all) (x ∷ xs) → IsCanonicalCycle (dependency slots nodes time all) (x ∷ slots_among slots xs)
  from_slot x xs slot round =
      let kept : slots_among slots (x ∷ xs) ≡ x ∷ slots_among slots xs = ap (λ t. cond t (x ∷ slots_among slots xs) (slots_among slots xs)) (lt-ltb x slots slot) in
      let D : List ℕ → Type 0 = Distinct in
      let L : List ℕ → Type 0 = λ vs. All (λ v. x ≤ v) vs in
      let low : All (λ v. x ≤ v) (x ∷ slots_among slots xs) = subst L kept (All-filter (λ v. nat_lt v slots) (λ v. x ≤ v) (x ∷ xs) (least_of x xs round)) in
      record {
        leads = slots_walk xs x x x (inl (refl, slot)) slot round.leads;
        simple = subst D kept (distinct_kept (λ v. nat_lt v slots) (x ∷ xs) round.simple);
        least = λ j lt. low j 0 lt;
      }

  -- the slots of a least cycle are one
  pub least_slots : (round : List ℕ) → IsCanonicalCycle (whole_graph slots nodes time all) round → IsCanonicalCycle (dependency slots nodes time all) (slots_among slots round)
  least_slots [] round = absurd round.leads
  least_slots (x ∷ xs) round =
      let slot : x < slots = passes_slot x xs round.leads (walk_inside x xs x round.leads) (All-tail (λ v. x ≤ v) x xs (least_of x xs round)) in
      let R : List ℕ → Type 0 = IsCanonicalCycle (dependency slots nodes time all) in
      subst R (sym (ap (λ t. cond t (x ∷ slots_among slots xs) (slots_among slots xs)) (lt-ltb x slots slot))) (from_slot x xs slot round)
