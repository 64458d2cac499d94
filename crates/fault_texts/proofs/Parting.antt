-- What occurs in a node: it is the node's own, or it occurs in a node that it reads.
use Rattle.std.proofs.Common.{◌≡◌, ◌⊎◌, inl, inr, ℕ, zero, suc, ◌+◌, ◌-◌, ◌<◌, ◌≤◌, ◌==◌, Bool, true, false, not, ◌&&◌, ◌||◌, nat_lt, nat_le, if◌then◌else◌, List, [], ◌∷◌, length, get_or, drop, Option, None, Some, slice_get, refl, sym, ap, subst, ◌∙◌, arith}
use Rattle.std.specs.List.{list_any}
use Rattle.std.proofs.lemmas.List.{get_or-drop, length-drop, get_or_past}
use Rattle.std.proofs.lemmas.Option.{slice_get_within}
use Rattle.std.proofs.lemmas.Bool.{and_from, and_parts, cases_lt, eq-eqb, eqb-true, le-leb, leb-true, le-ltb, lt-ltb, ltb-true, or_cases, or_left, or_right}
use Rattle.smv_tree.specs.declared.place.Place.{Place}
use Rattle.smv_value.specs.declared.operator.Operator.{Operator}
use Rattle.smv_resolve.specs.declared.node.ExprNode.{ExprNode}
use Rattle.smv_resolve.specs.declared.node.ExprNode.TheVariants as node
use Rattle.smv_resolve.specs.Resolved.{Resolved, last_of, operands_of, part_at, part_of, resolved_by}
use Rattle.smv_resolve.proofs.Parts.{before, before_long, below_is, part_is}
use Rattle.smv_flat.specs.Assignments.{occurs, occurs_in_some}
use Rattle.fault_texts.specs.Marks.{IsWithin, reads, slot_of, under_next}

nothing : {P : Type 0} → false ≡ true → P
nothing e = cc

-- what occurs in a part is there
stands_before : (ahead : Bool) (y : ℕ) (parts : List Resolved) (a : ℕ) → occurs ahead y (part_at parts a) ≡ true → a < length parts
stands_before ahead y parts a h =
    elim (cases_lt a (length parts)) [
      | inl less ↦ less
      | inr past ↦ nothing (sym (ap (occurs ahead y) (get_or_past parts a Resolved.Stuck past)) ∙ h)
    ]

any_occurs : (ahead : Bool) (y : ℕ) (rs : List Resolved) → occurs_in_some ahead y (operands_of rs) ≡ list_any (occurs ahead y) rs
any_occurs ahead y [] = refl
any_occurs ahead y (r ∷ rs) = ap (λ b. occurs ahead y r || b) (any_occurs ahead y rs)

any_at : (p : Resolved → Bool) (rs : List Resolved) (i : ℕ) (d : Resolved) → i < length rs → p (get_or rs i d) ≡ true → list_any p rs ≡ true
any_at p [] i d l h = absurd (omega (arith, l))
any_at p (r ∷ rs) zero d l h = or_left (p r) (list_any p rs) h
any_at p (r ∷ rs) (suc i) d l h = or_right (p r) (list_any p rs) (any_at p rs i d (omega (arith, l)) h)

any_where : (p : Resolved → Bool) (rs : List Resolved) (d : Resolved) → list_any p rs ≡ true → (i : ℕ) × (i < length rs) × (p (get_or rs i d) ≡ true)
any_where p [] d h = absurd cc
any_where p (r ∷ rs) d h =
    elim (or_cases (p r) (list_any p rs) h) [
      | inl here ↦ (0, omega arith, here)
      | inr later ↦ let at = any_where p rs d later in (suc at.0, (let lt = at.1 in omega (arith, lt)), at.2)
    ]

-- it occurs in a part that the node of number k reads
abbrev pub ByPart : Bool → ℕ → List Resolved → ℕ → ExprNode → Type 0
ByPart ahead y parts k x = (j : ℕ) × (reads k x j ≡ true) × (occurs ahead y (part_at parts j) ≡ true)

-- it is the node's own: the slot that it is; or where it looks ahead, one under the `next` that it is
abbrev pub OwnBy : Bool → ℕ → List Resolved → ℕ → ExprNode → Type 0
OwnBy false y parts k x = slot_of x ≡ Some y
OwnBy true y parts k x = (a : ℕ) × (under_next k x ≡ Some a) × (occurs false y (part_at parts a) ≡ true)

by_one : (ahead : Bool) (y : ℕ) (parts : List Resolved) (k a : ℕ) (x : ExprNode) → length parts ≡ k → ((j : ℕ) → reads k x j ≡ (nat_lt j k && j == a))
    → occurs ahead y (part_at parts a) ≡ true → ByPart ahead y parts k x
by_one ahead y parts k a x long is h =
    let inside = stands_before ahead y parts a h in
    let less : a < k = omega (arith, inside, long) in
    (a, is a ∙ and_from (nat_lt a k) (a == a) (lt-ltb a k less) (eq-eqb a a refl), h)

by_last : (ahead : Bool) (y : ℕ) (parts : List Resolved) (place : Place) (o : Operator) (count : ℕ)
    → occurs_in_some ahead y (operands_of (last_of count parts)) ≡ true → ByPart ahead y parts (length parts) (node.Apply place o count)
by_last ahead y parts place o count h =
    let k = length parts in
    let at = any_where (occurs ahead y) (drop (k - count) parts) Resolved.Stuck (sym (any_occurs ahead y (last_of count parts)) ∙ h) in
    let i = at.0 in
    let lt : i < length (drop (k - count) parts) = at.1 in
    let size = length-drop (k - count) parts in
    let j = (k - count) + i in
    let less : j < k = omega (arith, lt, size) in
    let there : occurs ahead y (part_at parts j) ≡ true = ap (occurs ahead y) (sym (get_or-drop (k - count) parts i Resolved.Stuck)) ∙ at.2 in
    (j, and_from (nat_lt j k) (nat_le (k - count) j) (lt-ltb j k less) (le-leb (k - count) j (omega arith)), there)

by_two : (ahead : Bool) (y : ℕ) (parts : List Resolved) (k : ℕ) (place : Place) (o : Operator) (a b : ℕ) → length parts ≡ k
    → (occurs ahead y (part_at parts a) || (occurs ahead y (part_at parts b) || false)) ≡ true → ByPart ahead y parts k (node.Link place o a b)
by_two ahead y parts k place o a b long h =
    elim (or_cases (occurs ahead y (part_at parts a)) (occurs ahead y (part_at parts b) || false) h) [
      | inl left ↦
          let inside = stands_before ahead y parts a left in
          let less : a < k = omega (arith, inside, long) in
          (a, and_from (nat_lt a k) (a == a || a == b) (lt-ltb a k less) (or_left (a == a) (a == b) (eq-eqb a a refl)), left)
      | inr other ↦
          let right = or_last (occurs ahead y (part_at parts b)) other in
          let inside = stands_before ahead y parts b right in
          let less : b < k = omega (arith, inside, long) in
          (b, and_from (nat_lt b k) (b == a || b == b) (lt-ltb b k less) (or_right (b == a) (b == b) (eq-eqb b b refl)), right)
    ]
  where
    or_last : (c : Bool) → (c || false) ≡ true → c ≡ true
    or_last true e = refl
    or_last false e = e

own_slot : (ahead : Bool) (y : ℕ) (parts : List Resolved) (k : ℕ) (place : Place) (n : ℕ) → (not ahead && n == y) ≡ true → OwnBy ahead y parts k (node.Slot place n)
own_slot true y parts k place n h = nothing h
own_slot false y parts k place n h = ap (λ m. Some m) (eqb-true n y h)

own_next : (ahead : Bool) (y : ℕ) (parts : List Resolved) (k : ℕ) (place : Place) (a : ℕ) → length parts ≡ k → (ahead && occurs false y (part_at parts a)) ≡ true
    → OwnBy ahead y parts k (node.Next place a)
own_next false y parts k place a long h = nothing h
own_next true y parts k place a long h =
    let inside = stands_before false y parts a h in
    let less : a < k = omega (arith, inside, long) in
    (a, ap (λ b. if b then Some a else None) (lt-ltb a k less), h)

-- what occurs in a node is its own, or occurs in a part that it reads
own_or_part : (ahead : Bool) (y : ℕ) (parts : List Resolved) (k : ℕ) (x : ExprNode) → length parts ≡ k → occurs ahead y (resolved_by parts x) ≡ true
    → OwnBy ahead y parts k x ⊎ ByPart ahead y parts k x
own_or_part ahead y parts k (node.Constant place v) long h = nothing h
own_or_part ahead y parts k (node.Slot place n) long h = inl (own_slot ahead y parts k place n h)
own_or_part ahead y parts k (node.Whole place i) long h = nothing h
own_or_part ahead y parts k (node.Named place naming a) long h = inr (by_one ahead y parts k a (node.Named place naming a) long (λ j. refl) h)
own_or_part ahead y parts k (node.Next place a) long h = inl (own_next ahead y parts k place a long h)
own_or_part ahead y parts k (node.Operand a) long h = inr (by_one ahead y parts k a (node.Operand a) long (λ j. refl) h)
own_or_part ahead y parts k (node.Apply place o count) long h =
    let Q : ℕ → Type 0 = λ n. ByPart ahead y parts n (node.Apply place o count) in
    inr (subst Q long (by_last ahead y parts place o count h))
own_or_part ahead y parts k (node.Link place o a b) long h = inr (by_two ahead y parts k place o a b long h)

-- what is a node's own occurs in it
own_occurs : (ahead : Bool) (y : ℕ) (parts : List Resolved) (k : ℕ) (x : ExprNode) → OwnBy ahead y parts k x → occurs ahead y (resolved_by parts x) ≡ true
own_occurs false y parts k (node.Slot place n) h = let e : n ≡ y = cc in eq-eqb n y e
own_occurs false y parts k (node.Constant place v) h = absurd cc
own_occurs false y parts k (node.Whole place i) h = absurd cc
own_occurs false y parts k (node.Named place naming a) h = absurd cc
own_occurs false y parts k (node.Next place a) h = absurd cc
own_occurs false y parts k (node.Operand a) h = absurd cc
own_occurs false y parts k (node.Apply place o count) h = absurd cc
own_occurs false y parts k (node.Link place o a b) h = absurd cc
own_occurs true y parts k (node.Next place a) h = next_occurs (cases_lt a k)
  where
    next_occurs : (a < k) ⊎ (k ≤ a) → occurs false y (part_at parts a) ≡ true
    next_occurs (inl less) =
        let e : ◌≡◌ {A = Option ℕ} (Some a) (Some h.0) = sym (ap (λ b. if b then Some a else None) (lt-ltb a k less)) ∙ h.1 in
        let same : a ≡ h.0 = cc in
        let P : ℕ → Type 0 = λ i. occurs false y (part_at parts i) ≡ true in
        subst P (sym same) h.2
    next_occurs (inr ge) =
        let e : ◌≡◌ {A = Option ℕ} None (Some h.0) = sym (ap (λ b. if b then Some a else None) (le-ltb a k ge)) ∙ h.1 in
        absurd cc
own_occurs true y parts k (node.Slot place n) h = let e = h.1 in absurd cc
own_occurs true y parts k (node.Constant place v) h = let e = h.1 in absurd cc
own_occurs true y parts k (node.Whole place i) h = let e = h.1 in absurd cc
own_occurs true y parts k (node.Named place naming a) h = let e = h.1 in absurd cc
own_occurs true y parts k (node.Operand a) h = let e = h.1 in absurd cc
own_occurs true y parts k (node.Apply place o count) h = let e = h.1 in absurd cc
own_occurs true y parts k (node.Link place o a b) h = let e = h.1 in absurd cc

one_is : (k a j : ℕ) → (nat_lt j k && j == a) ≡ true → j ≡ a
one_is k a j h = eqb-true j a (and_parts (nat_lt j k) (j == a) h).1

-- what occurs in a part that a node reads occurs in the node
part_occurs : (ahead : Bool) (y : ℕ) (parts : List Resolved) (k : ℕ) (x : ExprNode) (j : ℕ) → length parts ≡ k → reads k x j ≡ true → occurs ahead y (part_at parts j) ≡ true
    → occurs ahead y (resolved_by parts x) ≡ true
part_occurs ahead y parts k (node.Constant place v) j long r h = nothing r
part_occurs ahead y parts k (node.Slot place n) j long r h = nothing r
part_occurs ahead y parts k (node.Whole place i) j long r h = nothing r
part_occurs ahead y parts k (node.Named place naming a) j long r h =
    let P : ℕ → Type 0 = λ i. occurs ahead y (part_at parts i) ≡ true in subst P (one_is k a j r) h
part_occurs ahead y parts k (node.Next place a) j long r h = nothing r
part_occurs ahead y parts k (node.Operand a) j long r h =
    let P : ℕ → Type 0 = λ i. occurs ahead y (part_at parts i) ≡ true in subst P (one_is k a j r) h
part_occurs ahead y parts k (node.Apply place o count) j long r h =
    let n = length parts in
    let both = and_parts (nat_lt j k) (nat_le (k - count) j) r in
    let less = ltb-true j k both.0 in
    let least = leb-true (k - count) j both.1 in
    let i = j - (n - count) in
    let is : (n - count) + i ≡ j = omega (arith, long, least) in
    let size = length-drop (n - count) parts in
    let inside : i < length (drop (n - count) parts) = omega (arith, long, less, least, size) in
    any_occurs ahead y (last_of count parts)
    ∙ any_at (occurs ahead y) (drop (n - count) parts) i Resolved.Stuck inside
    (ap (occurs ahead y) (get_or-drop (n - count) parts i Resolved.Stuck ∙ ap (part_at parts) is) ∙ h)
part_occurs ahead y parts k (node.Link place o a b) j long r h =
    let P : ℕ → Type 0 = λ i. occurs ahead y (part_at parts i) ≡ true in
    elim (or_cases (j == a) (j == b) (and_parts (nat_lt j k) (j == a || j == b) r).1) [
      | inl left ↦ or_left (occurs ahead y (part_at parts a)) (occurs ahead y (part_at parts b) || false) (subst P (eqb-true j a left) h)
      | inr right ↦ or_right (occurs ahead y (part_at parts a)) (occurs ahead y (part_at parts b) || false)
          (or_left (occurs ahead y (part_at parts b)) false (subst P (eqb-true j b right) h))
    ]

pub reads_less : (k : ℕ) (x : ExprNode) (j : ℕ) → reads k x j ≡ true → j < k
reads_less k (node.Constant place v) j r = nothing r
reads_less k (node.Slot place n) j r = nothing r
reads_less k (node.Whole place i) j r = nothing r
reads_less k (node.Named place naming a) j r = ltb-true j k (and_parts (nat_lt j k) (j == a) r).0
reads_less k (node.Next place a) j r = nothing r
reads_less k (node.Operand a) j r = ltb-true j k (and_parts (nat_lt j k) (j == a) r).0
reads_less k (node.Apply place o count) j r = ltb-true j k (and_parts (nat_lt j k) (nat_le (k - count) j) r).0
reads_less k (node.Link place o a b) j r = ltb-true j k (and_parts (nat_lt j k) (j == a || j == b) r).0

under_less : (k : ℕ) (x : ExprNode) (a : ℕ) → under_next k x ≡ Some a → a < k
under_less k (node.Next place b) a e = go (cases_lt b k)
  where
    go : (b < k) ⊎ (k ≤ b) → a < k
    go (inl less) =
        let s : ◌≡◌ {A = Option ℕ} (Some b) (Some a) = sym (ap (λ t. if t then Some b else None) (lt-ltb b k less)) ∙ e in
        let same : b ≡ a = cc in
        omega (arith, same, less)
    go (inr ge) =
        let s : ◌≡◌ {A = Option ℕ} None (Some a) = sym (ap (λ t. if t then Some b else None) (le-ltb b k ge)) ∙ e in
        absurd cc
under_less k (node.Constant place v) a e = absurd cc
under_less k (node.Slot place n) a e = absurd cc
under_less k (node.Whole place i) a e = absurd cc
under_less k (node.Named place naming b) a e = absurd cc
under_less k (node.Operand b) a e = absurd cc
under_less k (node.Apply place o count) a e = absurd cc
under_less k (node.Link place o b c) a e = absurd cc

-- the node of number k has it as its own
abbrev pub Own : Bool → ℕ → List ExprNode → ℕ → ExprNode → Type 0
Own false y nodes k x = slot_of x ≡ Some y
Own true y nodes k x = (a : ℕ) × (under_next k x ≡ Some a) × (occurs false y (part_of nodes a) ≡ true)

-- it occurs in a node that the node of number k reads
abbrev pub InPart : Bool → ℕ → List ExprNode → ℕ → ExprNode → Type 0
InPart ahead y nodes k x = (j : ℕ) × (reads k x j ≡ true) × (j < k) × (occurs ahead y (part_of nodes j) ≡ true)

-- what occurs in a node that another reads occurs in that
pub within : (nodes : List ExprNode) (k : ℕ) (x : ExprNode) (j : ℕ) → slice_get nodes k ≡ Some x → reads k x j ≡ true → IsWithin nodes j k
within nodes k x j is r ahead y h =
    let inside : k < length nodes = slice_get_within nodes k x is in
    let less = reads_less k x j r in
    let there : occurs ahead y (part_at (before nodes k) j) ≡ true = ap (occurs ahead y) (below_is nodes k j less (omega (arith, inside))) ∙ h in
    ap (occurs ahead y) (part_is nodes k x is) ∙ part_occurs ahead y (before nodes k) k x j (before_long nodes k (omega (arith, inside))) r there

to_own : (ahead : Bool) (y : ℕ) (nodes : List ExprNode) (k : ℕ) (x : ExprNode) → k ≤ length nodes → OwnBy ahead y (before nodes k) k x → Own ahead y nodes k x
to_own false y nodes k x inside h = h
to_own true y nodes k x inside h = (h.0, h.1, ap (occurs false y) (sym (below_is nodes k h.0 (under_less k x h.0 h.1) inside)) ∙ h.2)

from_own : (ahead : Bool) (y : ℕ) (nodes : List ExprNode) (k : ℕ) (x : ExprNode) → k ≤ length nodes → Own ahead y nodes k x → OwnBy ahead y (before nodes k) k x
from_own false y nodes k x inside h = h
from_own true y nodes k x inside h = (h.0, h.1, ap (occurs false y) (below_is nodes k h.0 (under_less k x h.0 h.1) inside) ∙ h.2)

pub own_in : (ahead : Bool) (y : ℕ) (nodes : List ExprNode) (k : ℕ) (x : ExprNode) → slice_get nodes k ≡ Some x → Own ahead y nodes k x → occurs ahead y (part_of nodes k) ≡ true
own_in ahead y nodes k x is h =
    let inside : k < length nodes = slice_get_within nodes k x is in
    ap (occurs ahead y) (part_is nodes k x is) ∙ own_occurs ahead y (before nodes k) k x (from_own ahead y nodes k x (omega (arith, inside)) h)

-- what occurs in a node is its own, or occurs in a node that it reads
pub parted : (ahead : Bool) (y : ℕ) (nodes : List ExprNode) (k : ℕ) (x : ExprNode) → slice_get nodes k ≡ Some x → occurs ahead y (part_of nodes k) ≡ true
    → Own ahead y nodes k x ⊎ InPart ahead y nodes k x
parted ahead y nodes k x is h =
    let inside : k < length nodes = slice_get_within nodes k x is in
    let le : k ≤ length nodes = omega (arith, inside) in
    elim (own_or_part ahead y (before nodes k) k x (before_long nodes k le) (sym (ap (occurs ahead y) (part_is nodes k x is)) ∙ h)) [
      | inl own ↦ inl (to_own ahead y nodes k x le own)
      | inr part ↦
          let less = reads_less k x part.0 part.1 in
          inr (part.0, part.1, less, ap (occurs ahead y) (sym (below_is nodes k part.0 less le)) ∙ part.2)
    ]
