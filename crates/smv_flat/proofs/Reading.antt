-- What a node reads, by what its parts read.
use Rattle.std.proofs.Common.{◌≡◌, ◌⊎◌, inl, inr, ℕ, zero, suc, ◌+◌, ◌-◌, ◌<◌, Bool, true, false, not, ◌&&◌, ◌||◌, ◌==◌, nat_lt, if◌then◌else◌, List, [], ◌∷◌, length, get_or, drop, refl, sym, ap, ◌∙◌, subst, arith, All, Contains}
use Rattle.std.specs.List.{list_any}
use Rattle.std.proofs.lemmas.List.{get_or-drop, length-drop}
use Rattle.std.proofs.lemmas.List.FromFn.{get_or-map-range_with_len, length-map-range_with_len}
use Rattle.std.proofs.lemmas.Bool.{or_left, or_right, or_cases, eqb-true, eq-eqb, lt-ltb, cond_both, ltb-true}
use Rattle.std.proofs.lemmas.List.Elements.{All-nil, All-cons}
use Rattle.smv_tree.specs.declared.place.Place.{Place}
use Rattle.smv_value.specs.declared.operator.Operator.{Operator}
use Rattle.smv_resolve.specs.declared.node.ExprNode.{ExprNode}
use Rattle.smv_resolve.specs.declared.node.ExprNode.TheVariants as node
use Rattle.smv_resolve.specs.Resolved.{Resolved, last_of, operands_of, part_at, resolved_by}
use Rattle.smv_flat.specs.Assignments.{occurs, occurs_in_some}
use Rattle.smv_flat.specs.Graph.{operands, own_slot, slot_read}
use Rattle.smv_flat.proofs.Listed.{first_in}

-- what this part reads is read by the whole
abbrev pub Passes : Bool → List Resolved → ExprNode → Bool × ℕ → Type 0
Passes ahead parts x o = (y : ℕ) → occurs o.0 y (part_at parts o.1) ≡ true → occurs ahead y (resolved_by parts x) ≡ true

next_passes : (ahead : Bool) (parts : List Resolved) (k : ℕ) (place : Place) (a : ℕ) → All (Passes ahead parts (node.Next place a)) (operands ahead k (node.Next place a))
next_passes true parts k place a = All-cons (Passes true parts (node.Next place a)) (false, a) [] (λ y h. h) (All-nil (Passes true parts (node.Next place a)))
next_passes false parts k place a = All-nil (Passes false parts (node.Next place a))

-- operands

any_occurs : (ahead : Bool) (y : ℕ) (rs : List Resolved) → occurs_in_some ahead y (operands_of rs) ≡ list_any (occurs ahead y) rs
any_occurs ahead y [] = refl
any_occurs ahead y (r ∷ rs) = ap (λ b. occurs ahead y r || b) (any_occurs ahead y rs)

any_at : (p : Resolved → Bool) (rs : List Resolved) (i : ℕ) (d : Resolved) → i < length rs → p (get_or rs i d) ≡ true → list_any p rs ≡ true
any_at p [] i d l h = absurd (omega (arith, l))
any_at p (r ∷ rs) zero d l h = or_left (p r) (list_any p rs) h
any_at p (r ∷ rs) (suc i) d l h = or_right (p r) (list_any p rs) (any_at p rs i d (omega (arith, l)) h)

any_where : (p : Resolved → Bool) (rs : List Resolved) (d : Resolved) → list_any p rs ≡ true → (i : ℕ) × (i < length rs) × (p (get_or rs i d) ≡ true)
any_where p [] d h = absurd cc
any_where p (r ∷ rs) d h =
    elim (or_cases (p r) (list_any p rs) h) [
      | inl here ↦ (0, omega arith, here)
      | inr later ↦ let at = any_where p rs d later in (suc at.0, (let lt = at.1 in omega (arith, lt)), at.2)
    ]

-- the last nodes, by their numbers
apply_passes : (ahead : Bool) (parts : List Resolved) (place : Place) (o : Operator) (count : ℕ) →
    All (Passes ahead parts (node.Apply place o count)) (operands ahead (length parts) (node.Apply place o count))
apply_passes ahead parts place o count i d l =
    let k = length parts in
    let g : ℕ → Bool × ℕ = λ j. (ahead, j) in
    let many = length-map-range_with_len g (k - count) (k - (k - count)) in
    let within : i < k - (k - count) = omega (arith, l, many) in
    let is : get_or (operands ahead k (node.Apply place o count)) i d ≡ (ahead, (k - count) + i) =
    get_or-map-range_with_len g (k - count) (k - (k - count)) i ((k - count) + i) d within refl in
    let P : Bool × ℕ → Type 0 = Passes ahead parts (node.Apply place o count) in
    let size = length-drop (k - count) parts in
    let inside : i < length (drop (k - count) parts) = omega (arith, within, size) in
    subst P (sym is) (λ y h.
    any_occurs ahead y (last_of count parts)
    ∙ any_at (occurs ahead y) (drop (k - count) parts) i Resolved.Stuck inside (ap (occurs ahead y) (get_or-drop (k - count) parts i Resolved.Stuck) ∙ h))

-- what the parts read is read by the whole
pub parts_pass : (ahead : Bool) (parts : List Resolved) (k : ℕ) (x : ExprNode) → length parts ≡ k → All (Passes ahead parts x) (operands ahead k x)
parts_pass ahead parts k (node.Constant place b) long = All-nil (Passes ahead parts (node.Constant place b))
parts_pass ahead parts k (node.Slot place n) long = All-nil (Passes ahead parts (node.Slot place n))
parts_pass ahead parts k (node.Whole place i) long = All-nil (Passes ahead parts (node.Whole place i))
parts_pass ahead parts k (node.Named place naming a) long =
    let P = Passes ahead parts (node.Named place naming a) in All-cons P (ahead, a) [] (λ y h. h) (All-nil P)
parts_pass ahead parts k (node.Next place a) long = next_passes ahead parts k place a
parts_pass ahead parts k (node.Operand a) long = let P = Passes ahead parts (node.Operand a) in All-cons P (ahead, a) [] (λ y h. h) (All-nil P)
parts_pass ahead parts k (node.Apply place o count) long =
    let Q : ℕ → Type 0 = λ n. All (Passes ahead parts (node.Apply place o count)) (operands ahead n (node.Apply place o count)) in
    subst Q long (apply_passes ahead parts place o count)
parts_pass ahead parts k (node.Link place o a b) long =
    let P = Passes ahead parts (node.Link place o a b) in
    All-cons P (ahead, a) ((ahead, b) ∷ [])
    (λ y h. or_left (occurs ahead y (part_at parts a)) (occurs ahead y (part_at parts b) || false) h)
    (All-cons P (ahead, b) []
    (λ y h. or_right (occurs ahead y (part_at parts a)) (occurs ahead y (part_at parts b) || false) (or_left (occurs ahead y (part_at parts b)) false h))
    (All-nil P))

-- the slot is there, and is read
abbrev pub IsRead : ℕ → Bool → List Resolved → ExprNode → ℕ → Type 0
IsRead slots ahead parts x y = (y < slots) × (occurs ahead y (resolved_by parts x) ≡ true)

slot_is_read : (slots : ℕ) (ahead : Bool) (parts : List Resolved) (place : Place) (n : ℕ) → All (IsRead slots ahead parts (node.Slot place n)) (slot_read slots ahead n)
slot_is_read slots true parts place n = All-nil (IsRead slots true parts (node.Slot place n))
slot_is_read slots false parts place n =
    let P = IsRead slots false parts (node.Slot place n) in
    cond_both (nat_lt n slots) (n ∷ []) [] (λ ns. All P ns)
    (λ t. All-cons P n [] (ltb-true n slots t, eq-eqb n n refl) (All-nil P)) (λ f. All-nil P)

-- the slot that a node reads itself is read
pub own_is_read : (slots : ℕ) (ahead : Bool) (parts : List Resolved) (x : ExprNode) → All (IsRead slots ahead parts x) (own_slot slots ahead x)
own_is_read slots ahead parts (node.Slot place n) = slot_is_read slots ahead parts place n
own_is_read slots ahead parts (node.Constant place b) = All-nil (IsRead slots ahead parts (node.Constant place b))
own_is_read slots ahead parts (node.Whole place i) = All-nil (IsRead slots ahead parts (node.Whole place i))
own_is_read slots ahead parts (node.Named place naming a) = All-nil (IsRead slots ahead parts (node.Named place naming a))
own_is_read slots ahead parts (node.Next place a) = All-nil (IsRead slots ahead parts (node.Next place a))
own_is_read slots ahead parts (node.Operand a) = All-nil (IsRead slots ahead parts (node.Operand a))
own_is_read slots ahead parts (node.Apply place o count) = All-nil (IsRead slots ahead parts (node.Apply place o count))
own_is_read slots ahead parts (node.Link place o a b) = All-nil (IsRead slots ahead parts (node.Link place o a b))

-- a part reads the slot
abbrev pub ByPart : Bool → ℕ → List Resolved → ℕ → ExprNode → Type 0
ByPart ahead y parts k x = (o : Bool × ℕ) × Contains (operands ahead k x) o × (occurs o.0 y (part_at parts o.1) ≡ true)

-- the slot that is read is the node's own, or a part reads it
abbrev pub Whence : ℕ → Bool → ℕ → List Resolved → ℕ → ExprNode → Type 0
Whence slots ahead y parts k x = Contains (own_slot slots ahead x) y ⊎ ByPart ahead y parts k x

pub nothing_read : {P : Type 0} → false ≡ true → P
nothing_read e = cc

whence_slot : (slots : ℕ) (ahead : Bool) (y : ℕ) (place : Place) (n : ℕ) → y < slots → (not ahead && n == y) ≡ true → Contains (slot_read slots ahead n) y
whence_slot slots true y place n lt h = nothing_read h
whence_slot slots false y place n lt h =
    let e : n ≡ y = eqb-true n y h in
    let N : List ℕ → Type 0 = λ ns. Contains ns y in
    let Q : ℕ → Type 0 = λ m. Contains (slot_read slots false m) y in
    subst Q (sym e) (subst N (sym (ap (λ b. if b then y ∷ [] else []) (lt-ltb y slots lt))) (first_in y []))

whence_next : (ahead : Bool) (y : ℕ) (parts : List Resolved) (k : ℕ) (place : Place) (a : ℕ)
    → (ahead && occurs false y (part_at parts a)) ≡ true → ByPart ahead y parts k (node.Next place a)
whence_next true y parts k place a h = ((false, a), first_in (false, a) [], h)
whence_next false y parts k place a h = nothing_read h

whence_apply : (ahead : Bool) (y : ℕ) (parts : List Resolved) (place : Place) (o : Operator) (count : ℕ)
    → occurs_in_some ahead y (operands_of (last_of count parts)) ≡ true → ByPart ahead y parts (length parts) (node.Apply place o count)
whence_apply ahead y parts place o count h =
    let k = length parts in
    let g : ℕ → Bool × ℕ = λ j. (ahead, j) in
    let at = any_where (occurs ahead y) (drop (k - count) parts) Resolved.Stuck (sym (any_occurs ahead y (last_of count parts)) ∙ h) in
    let i = at.0 in
    let lt : i < length (drop (k - count) parts) = at.1 in
    let size = length-drop (k - count) parts in
    let many = length-map-range_with_len g (k - count) (k - (k - count)) in
    let within : i < k - (k - count) = omega (arith, lt, size) in
    let inside : i < length (operands ahead k (node.Apply place o count)) = omega (arith, within, many) in
    let it : Bool × ℕ = (ahead, (k - count) + i) in (
      it,
      (i, inside, get_or-map-range_with_len g (k - count) (k - (k - count)) i ((k - count) + i) it within refl),
      ap (occurs ahead y) (sym (get_or-drop (k - count) parts i Resolved.Stuck)) ∙ at.2,
    )

whence_link : (ahead : Bool) (y : ℕ) (parts : List Resolved) (k : ℕ) (place : Place) (o : Operator) (a b : ℕ)
    → (occurs ahead y (part_at parts a) || (occurs ahead y (part_at parts b) || false)) ≡ true → ByPart ahead y parts k (node.Link place o a b)
whence_link ahead y parts k place o a b h =
    elim (or_cases (occurs ahead y (part_at parts a)) (occurs ahead y (part_at parts b) || false) h) [
      | inl left ↦ ((ahead, a), first_in (ahead, a) ((ahead, b) ∷ []), left)
      | inr right ↦ ((ahead, b), (1, omega arith, refl), or_last (occurs ahead y (part_at parts b)) right)
    ]
  where
    or_last : (c : Bool) → (c || false) ≡ true → c ≡ true
    or_last true e = refl
    or_last false e = e

-- where a slot is read, it is the node's own, or a part reads it
pub whence : (slots : ℕ) (ahead : Bool) (y : ℕ) (parts : List Resolved) (k : ℕ) (x : ExprNode) → length parts ≡ k → y < slots → occurs ahead y (resolved_by parts x) ≡ true
    → Whence slots ahead y parts k x
whence slots ahead y parts k (node.Constant place b) long lt h = nothing_read h
whence slots ahead y parts k (node.Whole place i) long lt h = nothing_read h
whence slots ahead y parts k (node.Slot place n) long lt h = inl (whence_slot slots ahead y place n lt h)
whence slots ahead y parts k (node.Named place naming a) long lt h = inr ((ahead, a), first_in (ahead, a) [], h)
whence slots ahead y parts k (node.Next place a) long lt h = inr (whence_next ahead y parts k place a h)
whence slots ahead y parts k (node.Operand a) long lt h = inr ((ahead, a), first_in (ahead, a) [], h)
whence slots ahead y parts k (node.Apply place o count) long lt h =
    let Q : ℕ → Type 0 = λ n. ByPart ahead y parts n (node.Apply place o count) in
    inr (subst Q long (whence_apply ahead y parts place o count h))
whence slots ahead y parts k (node.Link place o a b) long lt h = inr (whence_link ahead y parts k place o a b h)
