-- What a seat of a shared purse knows, and the rule of the table that all seats share.
use Rattle.std.specs.Prelude.{◌≡◌, ℕ, ◌+◌, ◌-◌, ◌^◌, ◌<◌, ◌≤◌, min, Bool, true, false, ◌||◌, ◌==◌, nat_lt, if◌then◌else◌, MatchBool, List, [], ◌∷◌, ◌++◌, map, length}
use Rattle.std.specs.List.Sorted.{IsPermutation}
use mathlib.Core.Option.{some}
use lib.ListN.{get_elem?}
use Rattle.atomic_table.specs.Table.{State}
use Rattle.effort_purse.specs.declared.view.Lane.{Lane}
use Rattle.effort_purse.specs.declared.view.View.{View}
use Rattle.effort_purse.specs.declared.view.Limits.{Limits}
use Rattle.effort_purse.specs.Drawing.{past, numbers_below}

-- f of each element, added up
abbrev pub total : {A : Type 0} → (A → ℕ) → List A → ℕ
total f [] = 0
total f (x ∷ xs) = f x + total f xs

-- how often x stands in the list
abbrev pub times : ℕ → List ℕ → ℕ
times x [] = 0
times x (y ∷ ys) = (if y == x then 1 else 0) + times x ys

-- 1 where x is below n, and else 0
abbrev pub once_below : ℕ → ℕ → ℕ
once_below x n = if nat_lt x n then 1 else 0

-- the numbers that a view drew from the word of tickets
abbrev pub ticket_lane : View → Lane
ticket_lane v = v.tickets

-- the numbers that a view drew from the word of bounds
abbrev pub bound_lane : View → Lane
bound_lane v = v.bounds

-- the view with another lane of tickets
abbrev pub with_tickets : View → Lane → View
with_tickets v l = record v { tickets = l }

-- the view with another lane of bounds
abbrev pub with_bounds : View → Lane → View
with_bounds v l = record v { bounds = l }

-- these numbers, and whether there are no more
abbrev pub lane : List ℕ → Bool → Lane
lane xs b = record { drawn = xs; done = b }

-- shares, tickets, bounds, whether it raised the stop, and whether it saw it
abbrev pub view : ℕ → Lane → Lane → Bool → Bool → View
view n t b r s = record { shares = n; tickets = t; bounds = b; raised = r; saw = s }

-- the first seat has all shares
abbrev pub all_shares : Limits → View
all_shares limits = view limits.seats (lane [] false) (lane [] false) false false

-- what is left of a seat that was joined into another
abbrev pub empty : View
empty = view 0 (lane [] false) (lane [] false) false false

-- the view after raising the stop
abbrev pub raised : View → View
raised v = record v { raised = true }

-- a split leaves all but n shares
abbrev pub stays : ℕ → View → View
stays n v = record v { shares = v.shares - n }

-- a split gives n shares, with no numbers; what had come to its end has come to its end here too
abbrev pub goes : ℕ → View → View
goes n v = view n (lane [] v.tickets.done) (lane [] v.bounds.done) false false

-- the numbers of both, at an end where one of them was
abbrev pub joined_lane : Lane → Lane → Lane
joined_lane l m = lane (l.drawn ++ m.drawn) (l.done || m.done)

-- a seat that took another back
abbrev pub joined : View → View → View
joined v w = view (v.shares + w.shares) (joined_lane v.tickets w.tickets) (joined_lane v.bounds w.bounds) (v.raised || w.raised) (v.saw || w.saw)

-- the shares of a view that has come to the end of a lane
abbrev pub done_shares : (View → Lane) → View → ℕ
done_shares pick v = if (pick v).done then v.shares else 0

-- 1 for a view that raised the stop
abbrev pub raises : View → ℕ
raises v = if v.raised then 1 else 0

-- a word and the lanes that drew from it: each number below the word and below the limit is held once,
-- and the word is past the limit by at most the shares of the views that came to the end
pub record LaneKept (limit word : ℕ) (pick : View → Lane) (views : List View) : Type 0 where
  pub each : (x : ℕ) → total (λ v. times x (pick v).drawn) views ≡ once_below x (min word limit)
  pub count : total (λ v. length (pick v).drawn) views ≡ min word limit
  pub over : word ≤ limit + total (done_shares pick) views

-- one view under the words a, b and c: without shares it has nothing, and what it says of an end or of the stop is so
pub record Fits (limits : Limits) (a b c : ℕ) (v : View) : Type 0 where
  pub idle : v.shares ≡ 0 → (v.tickets.drawn ≡ []) × (v.bounds.drawn ≡ []) × (v.raised ≡ false)
  pub spent : v.tickets.done ≡ true → limits.budget ≤ a
  pub no_more : v.bounds.done ≡ true → limits.bounds ≤ b
  pub saw : v.saw ≡ true → c ≡ 1

-- the words a, b and c under all views: the shares add up, each number is held once, and the stop is set exactly where
-- some view raised it
pub record Kept (limits : Limits) (a b c : ℕ) (views : List View) : Type 0 where
  pub room : (limits.budget + limits.seats < 2 ^ 64) × (limits.bounds + limits.seats < 2 ^ 64)
  pub shares : total (λ (v : View). v.shares) views ≡ limits.seats
  pub tickets : LaneKept limits.budget a ticket_lane views
  pub bounds : LaneKept limits.bounds b bound_lane views
  pub stop : c ≡ min 1 (total raises views)
  pub each : (id : ℕ) (v : View) → get_elem? views id ≡ some v → Fits limits a b c v

-- the rule of the table: word 0 counts tickets, word 1 bounds, and word 2 is the stop
abbrev pub Holds : Limits → State ℕ View → Type 0
Holds limits s = (a : ℕ) × (b : ℕ) × (c : ℕ) × (s.words ≡ a ∷ b ∷ c ∷ []) × Kept limits a b c s.views

-- one step on a lane: the number n, above each one that the view drew, or none from now on where n is not below the
-- limit
abbrev pub Takes : (View → Lane) → (View → Lane → View) → ℕ → View → ℕ → View → Type 0
Takes pick put limit v n w =
    MatchBool (nat_lt n limit)
    ((past (pick v).drawn ≤ n) × (w ≡ put v (lane ((pick v).drawn ++ n ∷ []) (pick v).done)))
    (w ≡ put v (lane (pick v).drawn true))

-- a look at the stop: it is seen where it is set, and set where the view raised or saw it
abbrev pub SeesStop : View → ℕ → View → Type 0
SeesStop v n w = (w ≡ record v { saw = v.saw || (n == 1) }) × (n ≤ 1) × ((v.raised || v.saw) ≡ true → n ≡ 1)

-- the numbers 1, 2, .. up to n
abbrev pub numbers_to : ℕ → List ℕ
numbers_to n = map (λ k. k + 1) (numbers_below n)

-- the lengths that a view was given: one more than each number that it drew
abbrev pub lengths_in : View → List ℕ
lengths_in v = map (λ k. k + 1) v.bounds.drawn

-- what a view with every share knows: its tickets are the numbers below their count, in some order, and all of the
-- budget where it is spent; its lengths are the numbers up to their count, and all bounds where it has no more; a stop
-- that it saw it raised
pub record KnowsAll (limits : Limits) (v : View) : Type 0 where
  pub tickets : IsPermutation v.tickets.drawn (numbers_below (length v.tickets.drawn))
  pub tickets_within : length v.tickets.drawn ≤ limits.budget
  pub spent : v.tickets.done ≡ true → length v.tickets.drawn ≡ limits.budget
  pub lengths : IsPermutation (lengths_in v) (numbers_to (length (lengths_in v)))
  pub lengths_within : length (lengths_in v) ≤ limits.bounds
  pub no_more : v.bounds.done ≡ true → length (lengths_in v) ≡ limits.bounds
  pub stop : v.saw ≡ true → v.raised ≡ true

-- with every share a view knows all
abbrev pub KnowsWhole : Limits → View → Type 0
KnowsWhole limits v = v.shares ≡ limits.seats → KnowsAll limits v
