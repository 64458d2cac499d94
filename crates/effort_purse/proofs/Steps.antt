-- Each step keeps the rule.
use Rattle.std.proofs.Common.{◌≡◌, ◌≢◌, ℕ, zero, suc, ◌+◌, ◌%◌, ◌^◌, ◌<◌, ◌≤◌, min, Bool, true, false, List, [], ◌∷◌, ◌++◌, length, set, refl, sym, ap, ◌∙◌, subst, arith, ⊎_elim, true≢false, ◌||◌}
use Rattle.std.specs.Prelude.{if◌then◌else◌, nat_lt, MatchBool, slice_index, ◌==◌, bit_or}
use Rattle.std.specs.List.Sorted.{IsPermutation}
use Rattle.std.proofs.lemmas.List.{length-map}
use Rattle.std.proofs.lemmas.List.Sorted.{IsPermutation-map}
use Rattle.std.proofs.lemmas.Bool.Decides.{nat_tests}
use mathlib.Core.Option.{some}
use lib.ListN.{get_elem?}
use Rattle.atomic_table.specs.Table.{State, Me, Allows, Splits, Joins, Act, keeps, Valid, stepped, carried_after}
use Rattle.atomic_table.proofs.Lists.{at_set, at_snoc, set_again, set_here, set_else}
use Rattle.effort_purse.specs.declared.view.View.{View}
use Rattle.effort_purse.specs.declared.view.Lane.{Lane}
use Rattle.effort_purse.specs.declared.view.Limits.{Limits}
use Rattle.effort_purse.specs.Rule.{total, lane, done_shares, raises, LaneKept, Holds, Kept, Fits, Takes, ticket_lane, bound_lane, with_tickets, with_bounds, raised, empty, stays, goes, joined, SeesStop, KnowsWhole, lengths_in, numbers_to}
use Rattle.effort_purse.specs.Drawing.{past, numbers_below}
use Rattle.effort_purse.proofs.Totals.{total_set, total_at, total_gap, total_split, total_join, alone, in_list, total_pair}
use Rattle.effort_purse.proofs.Lanes.{lane_takes, lane_ends, lane_stays, lane_splits, lane_joins, below_word, all_counted, all_held}

pub fits_up : (limits : Limits) (a b c a' b' c' : ℕ) (v : View) → a ≤ a' → b ≤ b' → (c ≡ 1 → c' ≡ 1) → Fits limits a b c v → Fits limits a' b' c' v
fits_up limits a b c a' b' c' v p q r f =
    record {
      idle = f.idle;
      spent = λ e. let s = f.spent e in omega arith;
      no_more = λ e. let s = f.no_more e in omega arith;
      saw = λ e. r (f.saw e);
    }

-- one view changes, and the words go up
pub fits_set : (limits : Limits) (a b c a' b' c' : ℕ) (views : List View) (id : ℕ) (w : View) → a ≤ a' → b ≤ b' → (c ≡ 1 → c' ≡ 1)
    → ((i : ℕ) (v : View) → get_elem? views i ≡ some v → Fits limits a b c v) → Fits limits a' b' c' w
    → (i : ℕ) (v : View) → get_elem? (set views id w) i ≡ some v → Fits limits a' b' c' v
fits_set limits a b c a' b' c' views id w p q r h mine i v e =
    ⊎_elim
    (λ (x : (i ≡ id) × (w ≡ v)). subst (Fits limits a' b' c') x.1 mine)
    (λ (x : (i ≢ id) × (get_elem? views i ≡ some v)). fits_up limits a b c a' b' c' v p q r (h i v x.1))
    (at_set views id i w v e)

-- a view with every share has all that was drawn
pub knows_whole : (limits : Limits) (a b c : ℕ) (views : List View) (id : ℕ) (v : View) → Kept limits a b c views → get_elem? views id ≡ some v → KnowsWhole limits v
knows_whole limits a b c views id v k at every =
    let all : total (λ (u : View). u.shares) views ≡ v.shares = k.shares ∙ sym every in
    let f = k.each id v at in
    let no_tickets : (i : ℕ) (u : View) → get_elem? views i ≡ some u → u.shares ≡ 0 → u.tickets.drawn ≡ [] = λ i u there z. ((k.each i u there).idle z).0 in
    let no_bounds : (i : ℕ) (u : View) → get_elem? views i ≡ some u → u.shares ≡ 0 → u.bounds.drawn ≡ [] = λ i u there z. ((k.each i u there).idle z).1 in
    let tickets : length v.tickets.drawn ≡ min a limits.budget = all_counted limits.budget a ticket_lane views id v k.tickets at all no_tickets in
    let bounds : length v.bounds.drawn ≡ min b limits.bounds = all_counted limits.bounds b bound_lane views id v k.bounds at all no_bounds in
    let given : length (lengths_in v) ≡ length v.bounds.drawn = length-map v.bounds.drawn (λ (n : ℕ). n + 1) in
    let held : IsPermutation v.bounds.drawn (numbers_below (length v.bounds.drawn)) = all_held limits.bounds b bound_lane views id v k.bounds at all no_bounds in
    record {
      tickets = all_held limits.budget a ticket_lane views id v k.tickets at all no_tickets;
      tickets_within = omega arith;
      spent = λ e. let d = f.spent e in omega arith;
      lengths = subst (λ (n : ℕ). IsPermutation (lengths_in v) (numbers_to n)) (sym given) (IsPermutation-map (λ (n : ℕ). n + 1) v.bounds.drawn (numbers_below (length v.bounds.drawn)) held);
      lengths_within = omega arith;
      no_more = λ e. let d = f.no_more e in omega arith;
      stop = λ e.
          let alone_raised = alone raises (λ (u : View). u.shares) views id v at all (λ i u there z. ap (λ (x : Bool). if x then 1 else 0) ((k.each i u there).idle z).2) in
          raised_of v.raised (omega (arith, k.stop, f.saw e, alone_raised));
    }
  where
    raised_of : (r : Bool) → 0 < (if r then 1 else 0) → r ≡ true
    raised_of true h = refl
    raised_of false h = absurd (omega arith)

-- the same of a view that one step changed
pub knows_after : (limits : Limits) (a b c : ℕ) (views : List View) (id : ℕ) (v w : View) → get_elem? views id ≡ some v → Kept limits a b c (set views id w) → KnowsWhole limits w
knows_after limits a b c views id v w at k = knows_whole limits a b c (set views id w) id w k (set_here views id w (in_list views id v at))

-- what a view takes, and the rule after
ticket_kept : (limits : Limits) (a b c id : ℕ) (views : List View) (v : View) → 0 < v.shares → v.tickets.done ≡ false → Kept limits a b c views → get_elem? views id ≡ some v
    → (t : Bool) → nat_lt a limits.budget ≡ t
    → (w : View) × Kept limits (a + 1) b c (set views id w) × MatchBool t ((past v.tickets.drawn ≤ a) × (w ≡ with_tickets v (lane (v.tickets.drawn ++ a ∷ []) v.tickets.done))) (w ≡ with_tickets v (lane v.tickets.drawn true))
ticket_kept limits a b c id views v some_share fresh k at true is =
    let w : View = with_tickets v (lane (v.tickets.drawn ++ a ∷ []) v.tickets.done) in
    let below : a < limits.budget = grind (arith, nat_tests) in
    let f = k.each id v at in (
      w,
      record {
        room = k.room;
        shares = let s = total_set (λ (u : View). u.shares) views id v w at in let e = k.shares in omega arith;
        tickets = lane_takes limits.budget a ticket_lane views id v w k.tickets at below refl refl;
        bounds = lane_stays limits.bounds b bound_lane views id v w k.bounds at refl refl;
        stop = let s = total_set raises views id v w at in let e = k.stop in omega arith;
        each = fits_set limits a b c (a + 1) b c views id w (omega arith) (omega arith) (λ e. e) k.each
            record { idle = λ e. absurd (omega arith); spent = λ e. absurd (true≢false (sym e ∙ fresh)); no_more = f.no_more; saw = f.saw };
      },
      (below_word limits.budget a ticket_lane views id v k.tickets at, refl),
    )
ticket_kept limits a b c id views v some_share fresh k at false is =
    let w : View = with_tickets v (lane v.tickets.drawn true) in
    let above : limits.budget ≤ a = grind (arith, nat_tests) in
    let f = k.each id v at in (
      w,
      record {
        room = k.room;
        shares = let s = total_set (λ (u : View). u.shares) views id v w at in let e = k.shares in omega arith;
        tickets = lane_ends limits.budget a ticket_lane views id v w k.tickets at above some_share refl fresh refl;
        bounds = lane_stays limits.bounds b bound_lane views id v w k.bounds at refl refl;
        stop = let s = total_set raises views id v w at in let e = k.stop in omega arith;
        each = fits_set limits a b c (a + 1) b c views id w (omega arith) (omega arith) (λ e. e) k.each
            record { idle = f.idle; spent = λ e. omega arith; no_more = f.no_more; saw = f.saw };
      },
      refl,
    )

done_le : (pick : View → Lane) (u : View) → done_shares pick u ≤ u.shares
done_le pick u = cases (pick u).done u.shares
  where
    cases : (b : Bool) (n : ℕ) → (if b then n else 0) ≤ n
    cases true n = omega arith
    cases false n = omega arith

-- the word of a lane does not wrap, where a view that is not done has a share
no_wrap : (limit word : ℕ) (pick : View → Lane) (views : List View) (id seats : ℕ) (v : View) → LaneKept limit word pick views → get_elem? views id ≡ some v
    → 0 < v.shares → (pick v).done ≡ false → total (λ (u : View). u.shares) views ≡ seats → word < limit + seats
no_wrap limit word pick views id seats v k at some_share fresh shares =
    let g = total_gap (done_shares pick) (λ (u : View). u.shares) views id v (done_le pick) at in
    let a : done_shares pick v ≡ 0 = ap (λ (b : Bool). if b then v.shares else 0) fresh in
    let o = k.over in
    omega arith

-- what `Allows` asks of a seat that acts on no slot, at one state
abbrev pub Goes : Limits → ℕ → Me ℕ View → ℕ → (ℕ → ℕ) → (ℕ → Me ℕ View → Type 0) → State ℕ View → Type 0
Goes limits id me i f told s =
    (w : View) × (x : Act ℕ) × Valid s.homes me.1 x × Holds limits (stepped s i (f (slice_index s.words i)) id me.1 w x) × told (slice_index s.words i) (w, carried_after me.1 x)

-- a ticket is drawn from word 0
pub draws : (limits told : Limits) (slots id : ℕ) (me : Me ℕ View) → told ≡ limits → 0 < me.0.shares → me.0.tickets.done ≡ false
    → Allows (Holds limits) slots id me 0 (λ n. (n + 1) % 2 ^ 64) (λ n w. Takes ticket_lane with_tickets told.budget me.0 n w.0 × (w.1 ≡ me.1) × KnowsWhole told w.0)
draws limits told slots id me same some_share fresh s (a, b, c, is, k) homes at small =
    let v : View = me.0 in
    let t = ticket_kept limits a b c id s.views v some_share fresh k at (nat_lt a limits.budget) refl in
    let over = no_wrap limits.budget a ticket_lane s.views id limits.seats v k.tickets at some_share fresh k.shares in
    let room = k.room in
    let now : (a + 1) % 2 ^ 64 ≡ a + 1 = omega arith in
    let whole : KnowsWhole limits t.0 = knows_after limits (a + 1) b c s.views id v t.0 at t.1 in
    let P : List ℕ → Limits → Type 0 = λ ws l. Goes limits id me 0 (λ n. (n + 1) % 2 ^ 64) (λ n w. Takes ticket_lane with_tickets l.budget me.0 n w.0 × (w.1 ≡ me.1) × KnowsWhole l w.0) record { words = ws; homes = s.homes; views = s.views } in
    let here : P (a ∷ b ∷ c ∷ []) limits = (t.0, keeps, tt, (a + 1, b, c, ap (λ (n : ℕ). n ∷ b ∷ c ∷ []) now, t.1), (t.2, refl, whole)) in
    subst (λ (ws : List ℕ). P ws told) (sym is) (subst (P (a ∷ b ∷ c ∷ [])) (sym same) here)

bound_kept : (limits : Limits) (a b c id : ℕ) (views : List View) (v : View) → 0 < v.shares → v.bounds.done ≡ false → Kept limits a b c views → get_elem? views id ≡ some v
    → (t : Bool) → nat_lt b limits.bounds ≡ t
    → (w : View) × Kept limits a (b + 1) c (set views id w) × MatchBool t ((past v.bounds.drawn ≤ b) × (w ≡ with_bounds v (lane (v.bounds.drawn ++ b ∷ []) v.bounds.done))) (w ≡ with_bounds v (lane v.bounds.drawn true))
bound_kept limits a b c id views v some_share fresh k at true is =
    let w : View = with_bounds v (lane (v.bounds.drawn ++ b ∷ []) v.bounds.done) in
    let below : b < limits.bounds = grind (arith, nat_tests) in
    let f = k.each id v at in (
      w,
      record {
        room = k.room;
        shares = let s = total_set (λ (u : View). u.shares) views id v w at in let e = k.shares in omega arith;
        tickets = lane_stays limits.budget a ticket_lane views id v w k.tickets at refl refl;
        bounds = lane_takes limits.bounds b bound_lane views id v w k.bounds at below refl refl;
        stop = let s = total_set raises views id v w at in let e = k.stop in omega arith;
        each = fits_set limits a b c a (b + 1) c views id w (omega arith) (omega arith) (λ e. e) k.each
            record { idle = λ e. absurd (omega arith); spent = f.spent; no_more = λ e. absurd (true≢false (sym e ∙ fresh)); saw = f.saw };
      },
      (below_word limits.bounds b bound_lane views id v k.bounds at, refl),
    )
bound_kept limits a b c id views v some_share fresh k at false is =
    let w : View = with_bounds v (lane v.bounds.drawn true) in
    let above : limits.bounds ≤ b = grind (arith, nat_tests) in
    let f = k.each id v at in (
      w,
      record {
        room = k.room;
        shares = let s = total_set (λ (u : View). u.shares) views id v w at in let e = k.shares in omega arith;
        tickets = lane_stays limits.budget a ticket_lane views id v w k.tickets at refl refl;
        bounds = lane_ends limits.bounds b bound_lane views id v w k.bounds at above some_share refl fresh refl;
        stop = let s = total_set raises views id v w at in let e = k.stop in omega arith;
        each = fits_set limits a b c a (b + 1) c views id w (omega arith) (omega arith) (λ e. e) k.each
            record { idle = f.idle; spent = f.spent; no_more = λ e. omega arith; saw = f.saw };
      },
      refl,
    )

-- a bound is drawn from word 1
pub draws_bound : (limits told : Limits) (slots id : ℕ) (me : Me ℕ View) → told ≡ limits → 0 < me.0.shares → me.0.bounds.done ≡ false
    → Allows (Holds limits) slots id me 1 (λ n. (n + 1) % 2 ^ 64) (λ n w. Takes bound_lane with_bounds told.bounds me.0 n w.0 × (w.1 ≡ me.1) × KnowsWhole told w.0)
draws_bound limits told slots id me same some_share fresh s (a, b, c, is, k) homes at small =
    let v : View = me.0 in
    let t = bound_kept limits a b c id s.views v some_share fresh k at (nat_lt b limits.bounds) refl in
    let over = no_wrap limits.bounds b bound_lane s.views id limits.seats v k.bounds at some_share fresh k.shares in
    let room = k.room in
    let now : (b + 1) % 2 ^ 64 ≡ b + 1 = omega arith in
    let whole : KnowsWhole limits t.0 = knows_after limits a (b + 1) c s.views id v t.0 at t.1 in
    let P : List ℕ → Limits → Type 0 = λ ws l. Goes limits id me 1 (λ n. (n + 1) % 2 ^ 64) (λ n w. Takes bound_lane with_bounds l.bounds me.0 n w.0 × (w.1 ≡ me.1) × KnowsWhole l w.0) record { words = ws; homes = s.homes; views = s.views } in
    let here : P (a ∷ b ∷ c ∷ []) limits = (t.0, keeps, tt, (a, b + 1, c, ap (λ (n : ℕ). a ∷ n ∷ c ∷ []) now, t.1), (t.2, refl, whole)) in
    subst (λ (ws : List ℕ). P ws told) (sym is) (subst (P (a ∷ b ∷ c ∷ [])) (sym same) here)

-- a view changes in what it raised or saw alone
flag_kept : (limits : Limits) (a b c c' id : ℕ) (views : List View) (v w : View) → 0 < v.shares → Kept limits a b c views → get_elem? views id ≡ some v
    → w.shares ≡ v.shares → w.tickets ≡ v.tickets → w.bounds ≡ v.bounds → c' ≡ min 1 (total raises (set views id w)) → (c ≡ 1 → c' ≡ 1) → (w.saw ≡ true → c' ≡ 1) → Kept limits a b c' (set views id w)
flag_kept limits a b c c' id views v w some_share k at shares tickets bounds stop up saw =
    let f = k.each id v at in
    record {
      room = k.room;
      shares = let s = total_set (λ (u : View). u.shares) views id v w at in let e = k.shares in omega arith;
      tickets = lane_stays limits.budget a ticket_lane views id v w k.tickets at shares tickets;
      bounds = lane_stays limits.bounds b bound_lane views id v w k.bounds at shares bounds;
      stop = stop;
      each = fits_set limits a b c a b c' views id w (omega arith) (omega arith) up k.each
          record { idle = λ e. absurd (omega arith); spent = λ e. f.spent (sym (ap (λ l. l.done) tickets) ∙ e); no_more = λ e. f.no_more (sym (ap (λ l. l.done) bounds) ∙ e); saw = saw };
    }

or_one : (c : ℕ) → c ≤ 1 → bit_or c 1 ≡ 1
or_one zero h = refl
or_one (suc zero) h = refl
or_one (suc (suc n)) h = absurd (omega arith)

pub raises_stop : (limits : Limits) (slots id : ℕ) (me : Me ℕ View) → 0 < me.0.shares
    → Allows (Holds limits) slots id me 2 (λ n. bit_or n 1) (λ n w. (w.0 ≡ raised me.0) × (w.1 ≡ me.1))
raises_stop limits slots id me some_share s (a, b, c, is, k) homes at small =
    let v : View = me.0 in
    let stop = k.stop in
    let t = total_at raises (set s.views id (raised v)) id (raised v) (set_here s.views id (raised v) (in_list s.views id v at)) in
    let k' = flag_kept limits a b c 1 id s.views v (raised v) some_share k at refl refl refl (omega arith) (λ _. refl) (λ _. refl) in
    let P : List ℕ → Type 0 = λ ws. Goes limits id me 2 (λ n. bit_or n 1) (λ n w. (w.0 ≡ raised me.0) × (w.1 ≡ me.1)) record { words = ws; homes = s.homes; views = s.views } in
    subst P (sym is) (raised v, keeps, tt, (a, b, 1, ap (λ (n : ℕ). a ∷ b ∷ n ∷ []) (or_one c (omega arith)), k'), (refl, refl))

known : (r s : Bool) (c n : ℕ) → (r || s) ≡ true → c ≡ min 1 n → (if r then 1 else 0) ≤ n → (s ≡ true → c ≡ 1) → c ≡ 1
known true s c n e h le f = omega arith
known false true c n e h le f = f refl
known false false c n e h le f = absurd (cc)

-- a seat looks whether the stop is raised
pub sees_stop : (limits told : Limits) (slots id : ℕ) (me : Me ℕ View) → told ≡ limits → 0 < me.0.shares
    → Allows (Holds limits) slots id me 2 (λ n. n) (λ n w. SeesStop me.0 n w.0 × (w.1 ≡ me.1) × KnowsWhole told w.0)
sees_stop limits told slots id me same some_share s (a, b, c, is, k) homes at small =
    let v : View = me.0 in
    let w : View = record v { saw = v.saw || (c == 1) } in
    let stop = k.stop in
    let sum = total_set raises s.views id v w at in
    let f = k.each id v at in
    let k' = flag_kept limits a b c c id s.views v w some_share k at refl refl refl (omega arith) (λ e. e) (λ e. saw_now v.saw c e f.saw) in
    let sees : SeesStop v c w = (refl, omega arith, λ e. known v.raised v.saw c (total raises s.views) e stop (total_at raises s.views id v at) f.saw) in
    let whole : KnowsWhole limits w = knows_after limits a b c s.views id v w at k' in
    let P : List ℕ → Limits → Type 0 = λ ws l. Goes limits id me 2 (λ n. n) (λ n w. SeesStop me.0 n w.0 × (w.1 ≡ me.1) × KnowsWhole l w.0) record { words = ws; homes = s.homes; views = s.views } in
    let here : P (a ∷ b ∷ c ∷ []) limits = (w, keeps, tt, (a, b, c, refl, k'), (sees, refl, whole)) in
    subst (λ (ws : List ℕ). P ws told) (sym is) (subst (P (a ∷ b ∷ c ∷ [])) (sym same) here)
  where
    saw_now : (s : Bool) (c : ℕ) → (s || (c == 1)) ≡ true → (s ≡ true → c ≡ 1) → c ≡ 1
    saw_now true n e h = h refl
    saw_now false n e h = grind (arith, nat_tests)

-- a seat looks at the table, and learns how its shares stand to all
pub counts : (limits told : Limits) (slots id : ℕ) (me : Me ℕ View) → told ≡ limits
    → Allows (Holds limits) slots id me 0 (λ n. n) (λ n w. (w ≡ me) × (me.0.shares ≤ told.seats) × KnowsWhole told me.0)
counts limits told slots id me same s (a, b, c, is, k) homes at small =
    let v : View = me.0 in
    let within : v.shares ≤ limits.seats = omega (arith, total_at (λ (u : View). u.shares) s.views id v at, k.shares) in
    let whole : KnowsWhole limits v = knows_whole limits a b c s.views id v k at in
    let P : List ℕ → Limits → Type 0 = λ ws l. Goes limits id me 0 (λ n. n) (λ n w. (w ≡ me) × (me.0.shares ≤ l.seats) × KnowsWhole l me.0) record { words = ws; homes = s.homes; views = s.views } in
    let here : P (a ∷ b ∷ c ∷ []) limits = (v, keeps, tt, (a, b, c, refl, subst (Kept limits a b c) (sym (set_again s.views id v at)) k), (refl, within, whole)) in
    subst (λ (ws : List ℕ). P ws told) (sym is) (subst (P (a ∷ b ∷ c ∷ [])) (sym same) here)

-- a seat's shares are divided
pub cuts : (limits : Limits) (id n : ℕ) (v : View) → 0 < n → n < v.shares → Splits {S = ℕ} (Holds limits) id v (stays n v) (goes n v)
cuts limits id n v some_go some_stay s (a, b, c, is, k) at =
    let l : View = stays n v in
    let r : View = goes n v in
    let f = k.each id v at in (
      a,
      b,
      c,
      is,
      record {
        room = k.room;
        shares = total_split (λ (u : View). u.shares) s.views id v l r at (omega arith) ∙ k.shares;
        tickets = lane_splits limits.budget a ticket_lane s.views id v l r k.tickets at (omega arith) refl refl;
        bounds = lane_splits limits.bounds b bound_lane s.views id v l r k.bounds at (omega arith) refl refl;
        stop = k.stop ∙ ap (λ (m : ℕ). min 1 m) (sym (total_split raises s.views id v l r at (omega arith)));
        each = λ i u e. ⊎_elim
            (λ was. fits_set limits a b c a b c s.views id l (omega arith) (omega arith) (λ x. x) k.each
            record { idle = λ z. absurd (omega arith); spent = f.spent; no_more = f.no_more; saw = f.saw } i u was)
            (λ (x : r ≡ u). subst (Fits limits a b c) x record { idle = λ z. (refl, refl, refl); spent = f.spent; no_more = f.no_more; saw = λ e. absurd (true≢false (sym e)) })
            (at_snoc (set s.views id l) r u i e);
      },
    )

or_cases : (x y : Bool) → (P : Type 0) → (x ≡ true → P) → (y ≡ true → P) → (x || y) ≡ true → P
or_cases true y P p q e = p refl
or_cases false y P p q e = q e

or_raises : (x y : Bool) → ((if x || y then 1 else 0) ≤ (if x then 1 else 0) + (if y then 1 else 0)) × (min 1 (if x || y then 1 else 0) ≡ min 1 ((if x then 1 else 0) + (if y then 1 else 0)))
or_raises true true = (omega arith, omega arith)
or_raises true false = (omega arith, omega arith)
or_raises false true = (omega arith, omega arith)
or_raises false false = (omega arith, omega arith)

pub glues : (limits : Limits) (id other : ℕ) (v w : View) → Joins {S = ℕ} (Holds limits) id v other w (joined v w) empty
glues limits id other v w s (a, b, c, is, k) at apart there =
    let both : View = joined v w in
    let f = k.each id v at in
    let there' : get_elem? s.views other ≡ some w = sym (set_else s.views id other both apart) ∙ there in
    let h = k.each other w there' in
    let o = or_raises v.raised w.raised in
    let r = total_join raises s.views id other v w both empty at there in
    let q = total_pair raises s.views id other v w apart at there' in (
      a,
      b,
      c,
      is,
      record {
        room = k.room;
        shares = let t = total_join (λ (u : View). u.shares) s.views id other v w both empty at there in let e = k.shares in omega arith;
        tickets = lane_joins limits.budget a ticket_lane s.views id other v w both empty k.tickets at there refl refl refl;
        bounds = lane_joins limits.bounds b bound_lane s.views id other v w both empty k.bounds at there refl refl refl;
        stop = omega (arith, k.stop);
        each = fits_set limits a b c a b c (set s.views id both) other empty (omega arith) (omega arith) (λ x. x)
            (fits_set limits a b c a b c s.views id both (omega arith) (omega arith) (λ x. x) k.each
            record {
              idle = λ z. let i = f.idle (omega arith) in let j = h.idle (omega arith) in (
                (λ n. i.0 n ++ j.0 n),
                (λ n. i.1 n ++ j.1 n),
                (λ n. i.2 n || j.2 n),
              );
              spent = or_cases v.tickets.done w.tickets.done (limits.budget ≤ a) f.spent h.spent;
              no_more = or_cases v.bounds.done w.bounds.done (limits.bounds ≤ b) f.no_more h.no_more;
              saw = or_cases v.saw w.saw (c ≡ 1) f.saw h.saw;
            })
            record { idle = λ z. (refl, refl, refl); spent = λ e. absurd (true≢false (sym e)); no_more = λ e. absurd (true≢false (sym e)); saw = λ e. absurd (true≢false (sym e)) };
      },
    )
