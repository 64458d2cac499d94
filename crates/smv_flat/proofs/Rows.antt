-- The lists of what slots lead to after one more assignment.
use Rattle.std.proofs.Common.{◌≡◌, inl, inr, ℕ, ◌<◌, ◌≤◌, ◌+◌, ◌-◌, Bool, map, append_assoc, true, false, ◌==◌, ◌&&◌, List, [], ◌∷◌, ◌++◌, length, get_or, set, take, sym, ap, ◌∙◌, arith, eq-eqb, get_or-set_other, if◌then◌else◌}
use Rattle.std.specs.List.{flat_map, range_with_len}
use Rattle.std.proofs.lemmas.Bool.{cases_eq, ne_eqb}
use Rattle.std.proofs.lemmas.List.{flat_map_more, get_or-set_same, take_more, append-nil, same_lists, get_or_default}
use Rattle.std.proofs.lemmas.List.Concat.{flat_map-append}
use Rattle.std.proofs.lemmas.List.FromFn.{map-range_with_len_more, get_or-map-range_with_len, length-map-range_with_len}
use Rattle.smv_flat.specs.declared.assigned.Assigned.{Assigned}
use Rattle.smv_flat.specs.declared.time.Time.{Time}
use Rattle.smv_flat.specs.Assignments.{looks_ahead, speaks_of}
use Rattle.smv_flat.specs.Graph.{part_below, root_of, roots, slot_rows}

-- the lists hold where the values stand that these assignments give to the slots
abbrev pub Lists : ℕ → ℕ → Time → List (List ℕ) → List Assigned → Type 0
Lists slots nodes time lists before = (x : ℕ) → x < slots → get_or lists x [] ≡ roots slots nodes time before x

more : (slots nodes : ℕ) (time : Time) (as' : List Assigned) (k x : ℕ) (a : Assigned) → k < length as' → a ≡ get_or as' k a
    → roots slots nodes time (take (k + 1) as') x ≡ roots slots nodes time (take k as') x ++ root_of slots nodes time x a
more slots nodes time as' k x a lt is =
    let f = root_of slots nodes time x in
    ap (flat_map f) (take_more as' k a lt ∙ ap (λ y. take k as' ++ y ∷ []) (sym is))
    ∙ flat_map-append f (take k as') (a ∷ []) ∙ ap (λ ys. flat_map f (take k as') ++ ys) (append-nil (f a))

-- an assignment that speaks of this time adds to the list of its slot
pub lists_more : (slots nodes : ℕ) (time : Time) (ls : List (List ℕ)) (as' : List Assigned) (k : ℕ) (a : Assigned) (new : List ℕ) → k < length as' → a ≡ get_or as' k a
    → speaks_of time a.kind ≡ true → a.slot < length ls → new ≡ get_or ls a.slot [] ++ part_below slots nodes nodes (looks_ahead a.kind, a.value)
    → Lists slots nodes time ls (take k as') → Lists slots nodes time (set ls a.slot new) (take (k + 1) as')
lists_more slots nodes time ls as' k a new lt is speaks within made lists m below =
    let n = a.slot in
    let part = part_below slots nodes nodes (looks_ahead a.kind, a.value) in
    let step = more slots nodes time as' k m a lt is in
    let says : (speaks_of time a.kind && n == m) ≡ (n == m) = ap (λ b. b && n == m) speaks in
    elim (cases_eq m n) [
      | inl e ↦
          ap (λ i. get_or (set ls n new) i []) e ∙ get_or-set_same ls n new [] within ∙ made
          ∙ ap (λ i. get_or ls i [] ++ part) (sym e) ∙ ap (λ l. l ++ part) (lists m below)
          ∙ ap (λ b. roots slots nodes time (take k as') m ++ (if b then part else [])) (sym (says ∙ eq-eqb n m (sym e)))
          ∙ sym step
      | inr ne ↦
          get_or-set_other ls n m new [] ne ∙ lists m below
          ∙ sym (append-nil (roots slots nodes time (take k as') m))
          ∙ ap (λ b. roots slots nodes time (take k as') m ++ (if b then part else [])) (sym (says ∙ ne_eqb n m (λ e. ne (sym e))))
          ∙ sym step
    ]

-- an assignment that does not speak of this time, or not of these slots, adds nothing
pub lists_same : (slots nodes : ℕ) (time : Time) (ls : List (List ℕ)) (as' : List Assigned) (k : ℕ) (a : Assigned) → k < length as' → a ≡ get_or as' k a
    → ((m : ℕ) → m < slots → (speaks_of time a.kind && a.slot == m) ≡ false)
    → Lists slots nodes time ls (take k as') → Lists slots nodes time ls (take (k + 1) as')
lists_same slots nodes time ls as' k a lt is silent lists m below =
    lists m below ∙ sym (append-nil (roots slots nodes time (take k as') m))
    ∙ ap (λ b. roots slots nodes time (take k as') m ++ (if b then part_below slots nodes nodes (looks_ahead a.kind, a.value) else [])) (sym (silent m below))
    ∙ sym (more slots nodes time as' k m a lt is)

-- after all assignments they are the rows
pub lists_all : (slots nodes : ℕ) (time : Time) (ls : List (List ℕ)) (all : List Assigned) → length ls ≡ slots → Lists slots nodes time ls all → ls ≡ slot_rows slots nodes time all
lists_all slots nodes time ls all long lists =
    same_lists ls (slot_rows slots nodes time all) (long ∙ sym (length-map-range_with_len (roots slots nodes time all) 0 slots)) (λ k d lt.
    let below : k < slots = omega (arith, long, lt) in
    get_or_default ls k d [] lt ∙ lists k below ∙ sym (get_or-map-range_with_len (roots slots nodes time all) 0 slots k k d below (let zero-plus : 0 + k ≡ k = omega arith in zero-plus)))

-- one part more of those that stand one after another
pub last_more : (old mid new : List ℕ) (f : Bool × ℕ → List ℕ) (ahead : Bool) (first j : ℕ) → first ≤ j →
    mid ≡ old ++ flat_map f (map (λ i. (ahead, i)) (range_with_len first (j - first))) → new ≡ mid ++ f (ahead, j) →
    new ≡ old ++ flat_map f (map (λ i. (ahead, i)) (range_with_len first (j + 1 - first)))
last_more old mid new f ahead first j le so_far more =
    let n = j - first in
    let g : ℕ → Bool × ℕ = λ i. (ahead, i) in
    let here = map g (range_with_len first n) in
    let long : j + 1 - first ≡ n + 1 = omega (arith, le) in
    let at : first + n ≡ j = omega (arith, le) in
    more ∙ ap (λ l. l ++ f (ahead, j)) so_far ∙ append_assoc old (flat_map f here) (f (ahead, j))
    ∙ ap (λ l. old ++ l) (flat_map_more f [] here (ahead, j)
    ∙ ap (flat_map f) (sym (map-range_with_len_more g first n j at) ∙ ap (λ m. map g (range_with_len first m)) (sym long)))
