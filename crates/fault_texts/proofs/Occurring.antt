-- The slots of marked nodes are those that occur in the nodes from which marks were spread.
use Rattle.std.proofs.Common.{◌≡◌, inl, inr, ℕ, zero, suc, ◌<◌, ◌≤◌, ◌==◌, Bool, true, false, ◌&&◌, ◌||◌, nat_lt, List, length, replicate, Some, slice_get, refl, sym, ap, subst, ◌∙◌, arith}
use Rattle.std.proofs.lemmas.List.{get_or_past, get_or-replicate, length-replicate}
use Rattle.std.proofs.lemmas.Bool.{and_from, and_parts, cases_lt, eq-eqb, eqb-true, lt-ltb, or_right}
use Rattle.std.proofs.lemmas.Option.{slice_get_cases}
use Rattle.smv_resolve.specs.declared.node.ExprNode.{ExprNode}
use Rattle.smv_resolve.specs.Resolved.{Resolved, part_of, parts_of}
use Rattle.smv_resolve.proofs.Parts.{length-parts}
use Rattle.smv_flat.specs.Assignments.{occurs}
use Rattle.fault_texts.specs.declared.reads.Sought.TheVariants as sought
use Rattle.fault_texts.specs.Marks.{Finds, Marks, Spreads, TellsSlots, mark}
use Rattle.fault_texts.proofs.Parting.{Own, own_in, parted}

same_tests : (x y : Bool) → (x ≡ true → y ≡ true) → (y ≡ true → x ≡ true) → x ≡ y
same_tests true y to from = sym (to refl)
same_tests false true to from = from refl
same_tests false false to from = refl

-- what occurs in a node stands in the list
stands : (ahead : Bool) (y : ℕ) (nodes : List ExprNode) (k : ℕ) → occurs ahead y (part_of nodes k) ≡ true → k < length nodes
stands ahead y nodes k h =
    elim (cases_lt k (length nodes)) [
      | inl less ↦ less
      | inr past ↦
          let size = length-parts nodes in
          let none : false ≡ true = sym (ap (occurs ahead y) (get_or_past (parts_of nodes) k Resolved.Stuck (omega (arith, size, past)))) ∙ h in
          absurd cc
    ]

some_node : (nodes : List ExprNode) (k : ℕ) → k < length nodes → (x : ExprNode) × (slice_get nodes k ≡ Some x)
some_node nodes k lt =
    elim (slice_get_cases nodes k).1 [
      | inl some ↦ (some.0, some.2)
      | inr past ↦ let le : length nodes ≤ k = past.0 in absurd (omega (arith, lt, le))
    ]

-- a marked node that has it as its own
pub record Holder (nodes : List ExprNode) (marks : List Bool) (ahead : Bool) (y : ℕ) : Type 0 where
  pub at : ℕ
  pub node : ExprNode
  pub marked : mark marks at ≡ true
  pub is : slice_get nodes at ≡ Some node
  pub own : Own ahead y nodes at node

module _ (nodes : List ExprNode) (old new : List Bool) (spreads : Spreads nodes old new) where
  -- from a marked node in which it occurs, marked nodes lead to one that has it as its own
  pub holder : (most k : ℕ) (ahead : Bool) (y : ℕ) → k < most → mark new k ≡ true → occurs ahead y (part_of nodes k) ≡ true → Holder nodes new ahead y
  holder zero k ahead y less marked h = absurd (omega (arith, less))
  holder (suc most) k ahead y less marked h =
      let found = some_node nodes k (stands ahead y nodes k h) in
      let x = found.0 in
      elim (parted ahead y nodes k x found.1 h) [
        | inl own ↦ record { at = k; node = x; marked = marked; is = found.1; own = own }
        | inr part ↦
            let below = part.2 in
            holder most part.0 ahead y (omega (arith, less, below)) (spreads.on k x part.0 marked found.1 part.1) part.3
      ]

  -- what a marked node has as its own occurs in a node from which marks were spread
  pub came_from : (ahead : Bool) (y at : ℕ) (x : ExprNode) → mark new at ≡ true → slice_get nodes at ≡ Some x → Own ahead y nodes at x
      → (k : ℕ) × (mark old k ≡ true) × (occurs ahead y (part_of nodes k) ≡ true)
  came_from ahead y at x marked is own =
      let from = spreads.from at marked in
      (from.0, from.1, from.2 ahead y (own_in ahead y nodes at x is own))

-- a node alone was marked
pub record IsRoot (nodes : List ExprNode) (root : ℕ) (marks : List Bool) : Type 0 where
  pub made : Marks (λ j. nat_lt j (length nodes) && j == root) (replicate (length nodes) false) marks

none_of_none : (n j : ℕ) → mark (replicate n false) j ≡ false
none_of_none n j =
    elim (cases_lt j n) [
      | inl less ↦ get_or-replicate n j false false less
      | inr past ↦ let size = length-replicate n false in get_or_past (replicate n false) j false (omega (arith, size, past))
    ]

root_alone : (nodes : List ExprNode) (root : ℕ) (marks : List Bool) → IsRoot nodes root marks → (j : ℕ) → mark marks j ≡ true → j ≡ root
root_alone nodes root marks r j h =
    let test : ((mark (replicate (length nodes) false) j) || (nat_lt j (length nodes) && j == root)) ≡ true = sym (r.made.marks j) ∙ h in
    let second : (false || (nat_lt j (length nodes) && j == root)) ≡ true =
    ap (λ b. b || (nat_lt j (length nodes) && j == root)) (sym (none_of_none (length nodes) j)) ∙ test in
    eqb-true j root (and_parts (nat_lt j (length nodes)) (j == root) second).1

root_marked : (nodes : List ExprNode) (root : ℕ) (marks : List Bool) → IsRoot nodes root marks → root < length nodes → mark marks root ≡ true
root_marked nodes root marks r inside =
    r.made.marks root
    ∙ or_right (mark (replicate (length nodes) false) root) (nat_lt root (length nodes) && root == root)
    (and_from (nat_lt root (length nodes)) (root == root) (lt-ltb root (length nodes) inside) (eq-eqb root root refl))

module _ (nodes : List ExprNode) (root slots : ℕ) (first here : List Bool) (is_root : IsRoot nodes root first) (spreads : Spreads nodes first here) where
  at_root : (ahead : Bool) (y at : ℕ) (x : ExprNode) → mark here at ≡ true → slice_get nodes at ≡ Some x → Own ahead y nodes at x → occurs ahead y (part_of nodes root) ≡ true
  at_root ahead y at x marked is own =
      let from = came_from nodes first here spreads ahead y at x marked is own in
      let P : ℕ → Type 0 = λ k. occurs ahead y (part_of nodes k) ≡ true in
      subst P (root_alone nodes root first is_root from.0 from.1) from.2

  from_root : (ahead : Bool) (y : ℕ) → occurs ahead y (part_of nodes root) ≡ true → Holder nodes here ahead y
  from_root ahead y h =
      holder nodes first here spreads (suc root) root ahead y (omega arith) (spreads.kept root (root_marked nodes root first is_root (stands ahead y nodes root h))) h

  -- the slots that occur outside of `next`
  pub told_now : (now : List Bool) → Finds nodes here sought.Slot slots now → TellsSlots false (part_of nodes root) slots now
  told_now now finds n inside =
      same_tests (mark now n) (occurs false n (part_of nodes root))
      (λ h. let s = finds.only n h in at_root false n s.at s.node s.marked s.is s.number)
      (λ h. let f = from_root false n h in finds.all n inside (record { at = f.at; node = f.node; marked = f.marked; is = f.is; number = f.own }))

  -- and those that occur under it
  pub told_next : (begun under next : List Bool) → Finds nodes here sought.Under (length nodes) begun → Spreads nodes begun under → Finds nodes under sought.Slot slots next
      → TellsSlots true (part_of nodes root) slots next
  told_next begun under next starts spread_on finds n inside = same_tests (mark next n) (occurs true n (part_of nodes root)) to from
    where
      to : mark next n ≡ true → occurs true n (part_of nodes root) ≡ true
      to h =
          let s = finds.only n h in
          let back = came_from nodes begun under spread_on false n s.at s.node s.marked s.is s.number in
          let start = starts.only back.0 back.1 in
          at_root true n start.at start.node start.marked start.is (back.0, start.number, back.2)

      from : occurs true n (part_of nodes root) ≡ true → mark next n ≡ true
      from h =
          let f = from_root true n h in
          let a = f.own.0 in
          let there = f.own.2 in
          let begins = starts.all a (stands false n nodes a there) (record { at = f.at; node = f.node; marked = f.marked; is = f.is; number = f.own.1 }) in
          let last = holder nodes begun under spread_on (suc a) a false n (omega arith) (spread_on.kept a begins) there in
          finds.all n inside (record { at = last.at; node = last.node; marked = last.marked; is = last.is; number = last.own })
