-- Lists of the clauses that watch a literal, each with another literal of the clause.
use Rattle.std.specs.Prelude.{◌≡◌, ℕ, Bool, true, List, [], ◌∷◌, ◌++◌, map, slice_set, slice_index_or, All}
use Rattle.clause_core.specs.declared.literal.Lit.{Lit}
use Rattle.clause_core.specs.Literals.{none_lit}
use Rattle.sat_prop.specs.declared.lists.Watcher.{Watcher}
use Rattle.sat_prop.specs.declared.watch.Watches.{Watches}
use Rattle.sat_prop.specs.Trails.{among}
use Rattle.sat_prop.specs.Watches.{cell}

-- an entry for places past the end of a list
abbrev pub none_entry : Watcher
none_entry = record { clause = 0; blocker = none_lit }

-- the numbers of the clauses
abbrev pub numbers : List Watcher → List ℕ
numbers entries = map (λ e. e.clause) entries

-- the numbers of the clauses, list by list
abbrev pub numbers_of : List (List Watcher) → List (List ℕ)
numbers_of lists = map numbers lists

-- each entry passes the test
abbrev pub AllEntries : (Watcher → Bool) → List (List Watcher) → Type 0
AllEntries p lists = (n : ℕ) → All (λ e. p e ≡ true) (slice_index_or lists n [])

-- whether the entry's other literal is one of its clause's
abbrev pub fits : List (List Lit) → Watcher → Bool
fits cs e = among (slice_index_or cs e.clause []) e.blocker

-- the lists with clause number k at the end of those of its two watches, each time with the other watch
abbrev pub listed_with : List (List Watcher) → Watches → ℕ → List (List Watcher)
listed_with lists h k =
    let first = slice_set lists (cell h.a) (slice_index_or lists (cell h.a) [] ++ record { clause = k; blocker = h.b } ∷ []) in
    slice_set first (cell h.b) (slice_index_or first (cell h.b) [] ++ record { clause = k; blocker = h.a } ∷ [])
