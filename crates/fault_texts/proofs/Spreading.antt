-- Marks are spread from the last node to the first, and what is looked for is gathered from the first to the last.
use Rattle.std.proofs.Common.{◌≡◌, inl, inr, ℕ, ◌+◌, ◌<◌, ◌≤◌, ◌==◌, Bool, true, false, ◌&&◌, nat_lt, List, length, replicate, Option, None, Some, slice_get, refl, sym, ap, ◌∙◌, arith}
use Rattle.std.proofs.lemmas.List.{get_or_past, get_or-replicate, length-replicate}
use Rattle.std.proofs.lemmas.Bool.{and_from, and_parts, cases_eq, cases_lt, eq-eqb, eqb-true, lt-ltb, or_cases, or_left, or_right}
use Rattle.std.proofs.lemmas.Option.{slice_get_within}
use Rattle.smv_resolve.specs.declared.node.ExprNode.{ExprNode}
use Rattle.fault_texts.specs.declared.reads.Sought.{Sought}
use Rattle.fault_texts.specs.Marks.{Finds, IsSought, IsWithin, Marks, Spreads, mark, number_sought, reads}
use Rattle.fault_texts.proofs.Parting.{reads_less, within}

-- marks are spread from all nodes from number i on
pub record SpreadsFrom (nodes : List ExprNode) (i : ℕ) (old new : List Bool) : Type 0 where
  pub long : length new ≡ length old
  pub kept : (k : ℕ) → mark old k ≡ true → mark new k ≡ true
  pub from : (j : ℕ) → mark new j ≡ true → (k : ℕ) × (mark old k ≡ true) × IsWithin nodes j k
  pub on : (k : ℕ) (x : ExprNode) (j : ℕ) → i ≤ k → mark new k ≡ true → slice_get nodes k ≡ Some x → reads k x j ≡ true → mark new j ≡ true

pub begun : (nodes : List ExprNode) (marks : List Bool) → SpreadsFrom nodes (length nodes) marks marks
begun nodes marks = record {
  long = refl;
  kept = λ k h. h;
  from = λ j h. (j, h, λ ahead y o. o);
  on = λ k x j past m is r. let less = slice_get_within nodes k x is in absurd (omega (arith, past, less));
}

pub ended : (nodes : List ExprNode) (old new : List Bool) → SpreadsFrom nodes 0 old new → Spreads nodes old new
ended nodes old new h = record { long = h.long; kept = h.kept; from = h.from; on = λ k x j m is r. h.on k x j (omega arith) m is r }

-- a node that is not marked leads to none
pub passed_over : (nodes : List ExprNode) (i : ℕ) (old now : List Bool) → mark now i ≡ false → SpreadsFrom nodes (i + 1) old now → SpreadsFrom nodes i old now
passed_over nodes i old now off h = record {
  long = h.long;
  kept = h.kept;
  from = h.from;
  on = λ k x j le m is r. elim (cases_eq k i) [
    | inl same ↦ let none : false ≡ true = sym off ∙ ap (mark now) (sym same) ∙ m in absurd cc
    | inr other ↦ h.on k x j (beyond i k le other) m is r
  ];
}
  where
    beyond : (i k : ℕ) → i ≤ k → (k ≡ i → ⊥) → i + 1 ≤ k
    beyond i k le other = elim (cases_lt i k) [ inl less ↦ omega (arith, less) | inr ge ↦ absurd (other (omega (arith, le, ge))) ]

-- what a marked node reads is marked
pub went_on : (nodes : List ExprNode) (i : ℕ) (x : ExprNode) (old now after : List Bool) → slice_get nodes i ≡ Some x → mark now i ≡ true → Marks (reads i x) now after
    → SpreadsFrom nodes (i + 1) old now → SpreadsFrom nodes i old after
went_on nodes i x old now after here marked more h = record {
  long = more.long ∙ h.long;
  kept = λ k m. stays k (h.kept k m);
  from = λ j m. elim (or_cases (mark now j) (reads i x j) (sym (more.marks j) ∙ m)) [
    | inl before ↦ h.from j before
    | inr read ↦
        let back = h.from i marked in
        (back.0, back.1, λ ahead y o. back.2 ahead y (within nodes i x j here read ahead y o))
  ];
  on = λ k y j le m is r. elim (cases_eq k i) [
    | inl same ↦ own k y j same is r
    | inr other ↦ stays j (h.on k y j (beyond i k le other) (was k le m) is r)
  ];
}
  where
    stays : (k : ℕ) → mark now k ≡ true → mark after k ≡ true
    stays k m = more.marks k ∙ or_left (mark now k) (reads i x k) m

    beyond : (i k : ℕ) → i ≤ k → (k ≡ i → ⊥) → i + 1 ≤ k
    beyond i k le other = elim (cases_lt i k) [ inl less ↦ omega (arith, less) | inr ge ↦ absurd (other (omega (arith, le, ge))) ]

    -- nodes from number i on are marked by nothing below them
    was : (k : ℕ) → i ≤ k → mark after k ≡ true → mark now k ≡ true
    was k le m =
        elim (or_cases (mark now k) (reads i x k) (sym (more.marks k) ∙ m)) [
          | inl before ↦ before
          | inr read ↦ let less = reads_less i x k read in absurd (omega (arith, less, le))
        ]

    own : (k : ℕ) (y : ExprNode) (j : ℕ) → k ≡ i → slice_get nodes k ≡ Some y → reads k y j ≡ true → mark after j ≡ true
    own k y j same is r =
        let e : ◌≡◌ {A = Option ExprNode} (Some y) (Some x) = sym is ∙ ap (slice_get nodes) same ∙ here in
        let one : y ≡ x = cc in
        let read : reads i x j ≡ true = ap (λ z. reads i z j) (sym one) ∙ ap (λ n. reads n y j) (sym same) ∙ r in
        more.marks j ∙ or_right (mark now j) (reads i x j) read

-- Gathering.

-- the numbers that the first marked nodes have are marked
pub record FoundBefore (nodes : List ExprNode) (marks : List Bool) (what : Sought) (size i : ℕ) (found : List Bool) : Type 0 where
  pub long : length found ≡ size
  pub all : (n : ℕ) → n < size → (s : IsSought nodes marks what n) → s.at < i → mark found n ≡ true
  pub only : (n : ℕ) → mark found n ≡ true → IsSought nodes marks what n

pub none_found : (nodes : List ExprNode) (marks : List Bool) (what : Sought) (size : ℕ) → FoundBefore nodes marks what size 0 (replicate size false)
none_found nodes marks what size = record {
  long = length-replicate size false;
  all = λ n inside s less. absurd (omega (arith, less));
  only = λ n h. let none : false ≡ true = sym (off n) ∙ h in absurd cc;
}
  where
    off : (n : ℕ) → mark (replicate size false) n ≡ false
    off n =
        elim (cases_lt n size) [
          | inl less ↦ get_or-replicate size n false false less
          | inr past ↦ let long = length-replicate size false in get_or_past (replicate size false) n false (omega (arith, long, past))
        ]

-- where the node of number i has no number that is looked for, nothing is added
pub none_here : (nodes : List ExprNode) (marks : List Bool) (what : Sought) (size i : ℕ) (found : List Bool)
    → ((n : ℕ) → (s : IsSought nodes marks what n) → s.at ≡ i → ⊥) → FoundBefore nodes marks what size i found → FoundBefore nodes marks what size (i + 1) found
none_here nodes marks what size i found none h = record {
  long = h.long;
  all = λ n inside s less. elim (cases_lt s.at i) [
    | inl before ↦ h.all n inside s before
    | inr ge ↦ absurd (none n s (omega (arith, less, ge)))
  ];
  only = h.only;
}

pub unmarked_here : (nodes : List ExprNode) (marks : List Bool) (what : Sought) (size i : ℕ) (found : List Bool) → mark marks i ≡ false
    → FoundBefore nodes marks what size i found → FoundBefore nodes marks what size (i + 1) found
unmarked_here nodes marks what size i found off h =
    none_here nodes marks what size i found (λ n s same. let clash : false ≡ true = sym off ∙ ap (mark marks) (sym same) ∙ s.marked in absurd cc) h

-- the node that is looked at, by its number
same_node : (nodes : List ExprNode) (i k : ℕ) (x y : ExprNode) → slice_get nodes i ≡ Some x → k ≡ i → slice_get nodes k ≡ Some y → y ≡ x
same_node nodes i k x y here same is =
    let e : ◌≡◌ {A = Option ExprNode} (Some y) (Some x) = sym is ∙ ap (slice_get nodes) same ∙ here in cc

number_here : (nodes : List ExprNode) (marks : List Bool) (what : Sought) (i n : ℕ) (x : ExprNode) → slice_get nodes i ≡ Some x → (s : IsSought nodes marks what n) → s.at ≡ i
    → number_sought what i x ≡ Some n
number_here nodes marks what i n x here s same =
    ap (λ z. number_sought what i z) (sym (same_node nodes i s.at x s.node here same s.is)) ∙ ap (λ k. number_sought what k s.node) (sym same) ∙ s.number

pub unnumbered_here : (nodes : List ExprNode) (marks : List Bool) (what : Sought) (size i : ℕ) (x : ExprNode) (found : List Bool) → slice_get nodes i ≡ Some x
    → number_sought what i x ≡ None → FoundBefore nodes marks what size i found → FoundBefore nodes marks what size (i + 1) found
unnumbered_here nodes marks what size i x found here none h =
    none_here nodes marks what size i found
    (λ n s same. let clash : ◌≡◌ {A = Option ℕ} None (Some n) = sym none ∙ number_here nodes marks what i n x here s same in absurd cc) h

-- the number of a marked node is marked
pub found_here : (nodes : List ExprNode) (marks : List Bool) (what : Sought) (size i m : ℕ) (x : ExprNode) (found after : List Bool) → slice_get nodes i ≡ Some x → mark marks i ≡ true
    → number_sought what i x ≡ Some m → Marks (λ j. nat_lt j size && j == m) found after → FoundBefore nodes marks what size i found → FoundBefore nodes marks what size (i + 1) after
found_here nodes marks what size i m x found after here on number more h = record {
  long = more.long ∙ h.long;
  all = λ n inside s less. elim (cases_lt s.at i) [
    | inl before ↦ more.marks n ∙ or_left (mark found n) (nat_lt n size && n == m) (h.all n inside s before)
    | inr ge ↦
        let e : ◌≡◌ {A = Option ℕ} (Some m) (Some n) = sym number ∙ number_here nodes marks what i n x here s (omega (arith, less, ge)) in
        let same : n ≡ m = cc in
        more.marks n ∙ or_right (mark found n) (nat_lt n size && n == m) (and_from (nat_lt n size) (n == m) (lt-ltb n size inside) (eq-eqb n m same))
  ];
  only = λ n hit. elim (or_cases (mark found n) (nat_lt n size && n == m) (sym (more.marks n) ∙ hit)) [
    | inl before ↦ h.only n before
    | inr new ↦
        let same : n ≡ m = eqb-true n m (and_parts (nat_lt n size) (n == m) new).1 in
        record { at = i; node = x; marked = on; is = here; number = number ∙ ap (λ k. Some k) (sym same) }
  ];
}

pub all_found : (nodes : List ExprNode) (marks : List Bool) (what : Sought) (size : ℕ) (found : List Bool) → FoundBefore nodes marks what size (length nodes) found → Finds nodes marks what size found
all_found nodes marks what size found h = record {
  long = h.long;
  all = λ n inside s. h.all n inside s (slice_get_within nodes s.at s.node s.is);
  only = h.only;
}
