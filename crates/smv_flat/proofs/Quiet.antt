-- What reads no slot depends on none, and values that read none of their own time depend on themselves in no cycle.
use Rattle.std.proofs.Common.{◌≡◌, ℕ, zero, suc, ◌+◌, ◌<◌, Bool, true, false, not, ◌&&◌, ◌||◌, ◌==◌, List, [], ◌∷◌, ◌++◌, length, map, take, get_or, inl, inr, refl, sym, ap, ◌∙◌, subst, Contains}
use Rattle.std.specs.Prelude.{slice_index_or}
use Rattle.std.specs.List.{list_all, list_any}
use Rattle.std.proofs.lemmas.Bool.{and_parts}
use Rattle.std.proofs.lemmas.List.{map-append}
use Rattle.digraph.specs.Cycles.{Acyclic, Edge, Leads, Walk}
use Rattle.smv_tree.specs.declared.place.Place.{Place}
use Rattle.smv_value.specs.declared.operator.Operator.{Operator}
use Rattle.smv_resolve.specs.declared.node.ExprNode.{ExprNode}
use Rattle.smv_resolve.specs.Resolved.{Operands, Resolved, last_of, operands_of, part_at, part_of, parts_of, resolved_by}
use Rattle.smv_resolve.proofs.Parts.{last_of-map, parts_of-next}
use Rattle.smv_flat.specs.declared.assigned.Assigned.{Assigned}
use Rattle.smv_flat.specs.declared.reads.Reads.{Reads}
use Rattle.smv_flat.specs.declared.time.Time.{Time}
use Rattle.smv_flat.specs.Assignments.{gives, looks_ahead, occurs, occurs_in_some, speaks_of}
use Rattle.smv_flat.specs.Graph.{assigned_by}
use Rattle.smv_flat.specs.Reads.{any_of, is_quiet, is_reading, is_some_reading, no_reads, reads_by, reads_of}
use Rattle.smv_flat.proofs.Depending.{dependency, edge_depends, tied}
use Rattle.smv_flat.proofs.Listed.{first_or_later, none_in}

-- the table of what nodes read

pub at_mapped : (parts : List Resolved) (k : ℕ) → slice_index_or (map reads_of parts) k no_reads ≡ reads_of (part_at parts k)
at_mapped [] k = refl
at_mapped (r ∷ rs) zero = refl
at_mapped (r ∷ rs) (suc k) = at_mapped rs k

pub found_at : (parts : List Resolved) (table : List Reads) (k : ℕ) → table ≡ map reads_of parts → slice_index_or table k no_reads ≡ reads_of (part_at parts k)
found_at parts table k is = ap (λ (xs : List Reads). slice_index_or xs k no_reads) is ∙ at_mapped parts k

some_present : (rs : List Resolved) → list_any (λ (x : Reads). x.present) (map reads_of rs) ≡ is_some_reading false (operands_of rs)
some_present [] = refl
some_present (r ∷ rs) = ap (λ b. is_reading false r || b) (some_present rs)

some_ahead : (rs : List Resolved) → list_any (λ (x : Reads). x.ahead) (map reads_of rs) ≡ is_some_reading true (operands_of rs)
some_ahead [] = refl
some_ahead (r ∷ rs) = ap (λ b. is_reading true r || b) (some_ahead rs)

-- an operator reads what its operands read
pub any_same : (place : Place) (o : Operator) (rs : List Resolved) → any_of (map reads_of rs) ≡ reads_of (Resolved.Apply place o (operands_of rs))
any_same place o rs = rw (some_present rs, some_ahead rs) refl

pub any_last : (place : Place) (o : Operator) (count : ℕ) (parts : List Resolved) (table : List Reads) → table ≡ map reads_of parts →
    any_of (last_of count table) ≡ reads_of (Resolved.Apply place o (operands_of (last_of count parts)))
any_last place o count parts table is =
    ap any_of (ap (λ (xs : List Reads). last_of count xs) is ∙ last_of-map reads_of count parts) ∙ any_same place o (last_of count parts)

pub any_two : (place : Place) (o : Operator) (a b : Resolved) (x y : Reads) → x ≡ reads_of a → y ≡ reads_of b → any_of (x ∷ y ∷ []) ≡ reads_of (Resolved.Apply place o (operands_of (a ∷ b ∷ [])))
any_two place o a b x y e f = ap (λ z. any_of (z ∷ y ∷ [])) e ∙ ap (λ z. any_of (reads_of a ∷ z ∷ [])) f ∙ any_same place o (a ∷ b ∷ [])

-- what the nodes so far read, and one more
pub one_more : (nodes : List ExprNode) (i : ℕ) (d : ExprNode) (table new : List Reads) (x : Reads) → i < length nodes → table ≡ map reads_of (parts_of (take i nodes)) →
    ((parts : List Resolved) → table ≡ map reads_of parts → x ≡ reads_of (resolved_by parts (slice_index_or nodes i d))) → new ≡ table ++ x ∷ [] →
    new ≡ map reads_of (parts_of (take (i + 1) nodes))
one_more nodes i d table new x within told more is =
    let parts = parts_of (take i nodes) in
    let last = reads_of (resolved_by parts (slice_index_or nodes i d)) in
    is ∙ ap (λ y. table ++ y ∷ []) (more parts told) ∙ ap (λ (xs : List Reads). xs ++ last ∷ []) told
    ∙ sym (ap (map reads_of) (parts_of-next nodes i d within) ∙ map-append reads_of parts (resolved_by parts (slice_index_or nodes i d) ∷ []))

-- what reads no slot reads not this one

none_first : (a b : Bool) → (a || b) ≡ false → a ≡ false
none_first true b e = absurd cc
none_first false b e = refl

none_later : (a b : Bool) → (a || b) ≡ false → b ≡ false
none_later true b e = absurd cc
none_later false b e = e

mutual
  quiet : (ahead : Bool) (y : ℕ) (r : Resolved) → is_reading ahead r ≡ false → occurs ahead y r ≡ false
  quiet ahead y (Resolved.Constant place b) e = refl
  quiet ahead y (Resolved.Slot place n) e = ap (λ b. b && n == y) e
  quiet ahead y (Resolved.Whole place i) e = refl
  quiet ahead y (Resolved.Named place naming r) e = quiet ahead y r e
  quiet true y (Resolved.Next place r) e = quiet false y r e
  quiet false y (Resolved.Next place r) e = refl
  quiet ahead y (Resolved.Apply place o rs) e = some_quiet ahead y rs e
  quiet ahead y Resolved.Stuck e = refl

  some_quiet : (ahead : Bool) (y : ℕ) (rs : Operands) → is_some_reading ahead rs ≡ false → occurs_in_some ahead y rs ≡ false
  some_quiet ahead y Operands.End e = refl
  some_quiet ahead y (Operands.With r rs) e =
      ap (λ b. b || occurs_in_some ahead y rs) (quiet ahead y r (none_first (is_reading ahead r) (is_some_reading ahead rs) e))
      ∙ some_quiet ahead y rs (none_later (is_reading ahead r) (is_some_reading ahead rs) e)

-- what holds of each holds of this one
all_at : {A : Type 0} (p : A → Bool) (xs : List A) (a : A) → list_all p xs ≡ true → Contains xs a → p a ≡ true
all_at p [] a h c = absurd (none_in a c)
all_at {A} p (x ∷ xs) a h c =
    let parts = and_parts (p x) (list_all p xs) h in
    let P : A → Type 0 = λ z. p z ≡ true in
    elim (first_or_later x xs a c) [ inl e ↦ subst P e parts.0 | inr later ↦ all_at p xs a parts.1 later ]

denied : (a b : Bool) → not (a && b) ≡ true → a ≡ true → b ≡ false
denied true true e f = absurd cc
denied true false e f = refl
denied false b e f = absurd cc

by_same : (ahead : Bool) (r : Resolved) → reads_by ahead (reads_of r) ≡ is_reading ahead r
by_same true r = refl
by_same false r = refl

-- where no value of this time reads a slot of this time, no slot depends on one
pub none_depends : (slots : ℕ) (nodes : List ExprNode) (time : Time) (all : List Assigned) (table : List Reads) → table ≡ map reads_of (parts_of nodes) → list_all (is_quiet time table) all ≡ true →
    (x y : ℕ) → Edge (dependency slots nodes time all) x y → ⊥
none_depends slots nodes time all table is still x y edge =
    let says = edge_depends slots time (map (assigned_by nodes) all) x y edge in
    let tie = tied slots nodes time all x y says.2 in
    let a = tie.0 in
    let here = all_at (is_quiet time table) all a still tie.1 in
    let speaks = (and_parts (speaks_of time a.kind) (a.slot == x) tie.2).0 in
    let unread = denied (speaks_of time a.kind) (reads_by (looks_ahead a.kind) (slice_index_or table a.value no_reads)) here speaks in
    let none : is_reading (looks_ahead a.kind) (part_of nodes a.value) ≡ false =
    sym (by_same (looks_ahead a.kind) (part_of nodes a.value)) ∙ sym (ap (reads_by (looks_ahead a.kind)) (found_at (parts_of nodes) table a.value is)) ∙ unread in
    let no : true ≡ false = sym tie.3 ∙ quiet (looks_ahead a.kind) y (part_of nodes a.value) none in
    absurd cc

pub all_apart : (slots : ℕ) (nodes : List ExprNode) (time : Time) (all : List Assigned) (table : List Reads) → table ≡ map reads_of (parts_of nodes) → list_all (is_quiet time table) all ≡ true →
    Acyclic (dependency slots nodes time all)
all_apart slots nodes time all table is still a leads = go leads.0 a leads.1
  where
    go : (between : List ℕ) (b : ℕ) → Walk (dependency slots nodes time all) a between b → ⊥
    go [] b w = none_depends slots nodes time all table is still a b w
    go (x ∷ xs) b w = none_depends slots nodes time all table is still a x w.0
