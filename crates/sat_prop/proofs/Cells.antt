use Rattle.std.proofs.Common.{◌≡◌, ℕ, ◌<◌, Bool, List, [], length, get_or, set, map, sym, ap, ◌∙◌, inl, inr, arith, Vec, Global}
use Rattle.std.specs.List.{All}
use Rattle.std.proofs.lemmas.Bool.{cases_lt}
use Rattle.std.proofs.lemmas.List.{get_or-map, get_or_past, map-set}
use Rattle.std.proofs.lemmas.List.Elements.{All-get_or}
use Rattle.sat_prop.specs.declared.lists.Watcher.{Watcher}
use Rattle.sat_prop.specs.declared.lists.PackedWatcher.{PackedWatcher}
use Rattle.sat_prop.specs.Entries.{AllEntries}
use Rattle.sat_prop.specs.Slots.{entries_of}

abbrev pub items_of : Vec PackedWatcher Global → List Watcher
items_of v = entries_of v.items

pub cell_read : (cells : List (Vec PackedWatcher Global)) (c : ℕ) (x : Vec PackedWatcher Global) → c < length cells → x ≡ get_or cells c x →
    entries_of x.items ≡ get_or (map items_of cells) c []
cell_read cells c x lt e = ap items_of e ∙ sym (get_or-map items_of cells c x [] lt)

pub cell_set : (cells : List (Vec PackedWatcher Global)) (c : ℕ) (y : Vec PackedWatcher Global) (ys : List Watcher) → entries_of y.items ≡ ys →
    map items_of (set cells c y) ≡ set (map items_of cells) c ys
cell_set cells c y ys e = map-set items_of cells c y ∙ ap (set (map items_of cells) c) e

-- empty lists have no entry that could fail a test
pub empties_pass : (p : Watcher → Bool) (lists : List (List Watcher)) → All (λ xs. xs ≡ []) lists → AllEntries p lists
empties_pass p lists none n k d lt =
    let here : get_or lists n [] ≡ [] = elim (cases_lt n (length lists)) [
      | inl l ↦ All-get_or (λ xs. xs ≡ []) lists n [] l none
      | inr ge ↦ get_or_past lists n [] ge
    ] in
    absurd (omega (arith, lt, ap length here))
