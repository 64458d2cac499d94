-- What a propagator that watches literals keeps from call to call, by parts.
use Rattle.std.specs.Prelude.{◌≡◌, ℕ, ◌*◌, ◌^◌, ◌<◌, ◌≤◌, true, List, length, take, All}
use Rattle.clause_core.specs.declared.literal.Lit.{Lit}
use Rattle.clause_core.specs.Literals.{Within, negate}
use Rattle.sat_prop.specs.declared.lists.Watcher.{Watcher}
use Rattle.sat_prop.specs.declared.trail.Trail.{Trail}
use Rattle.sat_prop.specs.declared.watch.Watches.{Watches}
use Rattle.sat_prop.specs.Entries.{AllEntries, fits, numbers_of}
use Rattle.sat_prop.specs.Packing.{RowsMatch, pairs}
use Rattle.sat_prop.specs.Roots.{ShortSwept, root}
use Rattle.sat_prop.specs.Trails.{Based, among, is_literal}
use Rattle.sat_prop.specs.Watches.{AllWatchesIn, AllListed, AllGuarded, Kept, KeepsTwo, LevelsGuarded, ShortListed, HasTwo, HasOneLiteral, WatchesIn, cell}

-- each literal that is no decision was forced by one of the clauses, which have no variables but those of the trail
pub record IsBased (cs : List (List Lit)) (t : Trail) : Type 0 where
  pub reasons : Based t.literals.items t.reasons.items cs
  pub within : All (Within (length t.values.items)) cs

-- each clause has its row, and is in the lists of both its watches, if it has two
pub record IsListed (cs rows : List (List Lit)) (lists : List (List Watcher)) : Type 0 where
  pub rows_len : length rows ≡ length cs
  pub watches_in : AllWatchesIn cs (pairs rows)
  pub rows_match : RowsMatch cs rows
  pub all_listed : AllListed (pairs rows) (numbers_of lists)
  pub fit : AllEntries (fits cs) lists

-- the trail, the rows and the lists fit the clauses, and there are two lists for each variable
pub record IsWatched (cs : List (List Lit)) (t : Trail) (rows : List (List Lit)) (lists : List (List Watcher)) : Type 0 where
  pub based : IsBased cs t
  pub room : 2 * length t.values.items < 2 ^ 32
  pub cells : length lists ≡ 2 * length t.values.items
  pub listed : IsListed cs rows lists

-- the literals of the trail before the head of the queue have been propagated
pub record IsPropagated (cs : List (List Lit)) (t : Trail) (rows : List (List Lit)) (head : ℕ) : Type 0 where
  pub low : head ≤ length t.literals.items
  pub queue : AllGuarded cs (pairs rows) (take head t.literals.items) t.literals.items

-- what each step of the trail keeps: the reasons, what was propagated, and what holds before each decision. So many
-- short clauses as `swept` says, from the first on, are true before all decisions.
pub record IsGuarded (cs : List (List Lit)) (t : Trail) (rows : List (List Lit)) (short : List ℕ) (swept head : ℕ) : Type 0 where
  pub based : IsBased cs t
  pub propagated : IsPropagated cs t rows head
  pub levels : LevelsGuarded cs (pairs rows) t.literals.items t.level_starts.items
  pub swept_in : ShortSwept cs short swept (root t.literals.items t.level_starts.items)

-- all that the propagator keeps
pub record IsWatching (cs : List (List Lit)) (t : Trail) (rows : List (List Lit)) (lists : List (List Watcher)) (short : List ℕ) (swept head : ℕ) : Type 0 where
  pub watched : IsWatched cs t rows lists
  pub short_listed : ShortListed cs (pairs rows) short
  pub guarded : IsGuarded cs t rows short swept head

-- the literal is false on the trail
pub record IsFallen (t : Trail) (f : Lit) : Type 0 where
  pub in_range : f.var < length t.values.items
  pub off : among t.literals.items (negate f) ≡ true

-- what was guarded at a part of the trail still is, and clauses of two watches have two
pub record KeepsWatches (cs old new : List (List Lit)) (t : Trail) : Type 0 where
  pub kept : Kept cs (pairs old) (pairs new) t.literals.items
  pub two_kept : KeepsTwo (pairs old) (pairs new)

-- if the two watches differ, each has one of so many lists; and the numbers of both are words
pub record HasCells (lists : ℕ) (h : Watches) : Type 0 where
  pub a_cell : HasTwo h → cell h.a < lists
  pub b_cell : HasTwo h → cell h.b < lists
  pub a_word : cell h.a < 2 ^ 32
  pub b_word : cell h.b < 2 ^ 32

-- the clause can get these watches, with so many lists
pub record IsAttachable (lists : ℕ) (c : List Lit) (h : Watches) : Type 0 where
  pub cells : HasCells lists h
  pub words : All (λ l. cell l < 2 ^ 32) c
  pub two : HasTwo h → WatchesIn h c
  pub one : is_literal h.a h.b ≡ true → HasOneLiteral c
