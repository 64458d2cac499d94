-- One word, and the lanes of all views.
use Rattle.std.proofs.Common.{◌≡◌, ℕ, ◌+◌, ◌<◌, ◌≤◌, min, Bool, true, false, ◌||◌, List, [], ◌∷◌, ◌++◌, length, set, sym, ap, ◌∙◌, arith, length-append}
use Rattle.std.specs.Prelude.{if◌then◌else◌}
use mathlib.Core.Option.{some}
use lib.ListN.{get_elem?}
use Rattle.effort_purse.specs.declared.view.Lane.{Lane}
use Rattle.effort_purse.specs.declared.view.View.{View}
use Rattle.effort_purse.specs.Rule.{total, times, once_below, lane, done_shares, LaneKept, joined_lane}
use Rattle.effort_purse.specs.Drawing.{past, numbers_below}
use Rattle.effort_purse.proofs.Counting.{permutation_of_times, times-numbers_below, past_below, times_snoc, times_append, once_more}
use Rattle.std.specs.List.Sorted.{IsPermutation}
use Rattle.effort_purse.proofs.Totals.{total_set, total_split, total_join, alone, total_at}

min_below : (a b : ℕ) → a < b → min a b ≡ a
min_below a b h = omega arith

min_above : (a b : ℕ) → b ≤ a → min a b ≡ b
min_above a b h = omega arith

-- the next number is taken
pub lane_takes : (limit word : ℕ) (pick : View → Lane) (views : List View) (id : ℕ) (v w : View) → LaneKept limit word pick views → get_elem? views id ≡ some v → word < limit
    → w.shares ≡ v.shares → pick w ≡ lane ((pick v).drawn ++ word ∷ []) (pick v).done → LaneKept limit (word + 1) pick (set views id w)
lane_takes limit word pick views id v w k at below shares is =
    let now : min word limit ≡ word = omega arith in
    let after : min (word + 1) limit ≡ word + 1 = omega arith in
    let drawn : (pick w).drawn ≡ (pick v).drawn ++ word ∷ [] = ap (λ (l : Lane). l.drawn) is in
    let done : (pick w).done ≡ (pick v).done = ap (λ (l : Lane). l.done) is in
    record {
      each = λ x.
          let s = total_set (λ u. times x (pick u).drawn) views id v w at in
          let e : total (λ u. times x (pick u).drawn) views ≡ once_below x word = k.each x ∙ ap (once_below x) now in
          let t : times x (pick w).drawn ≡ times x (pick v).drawn + times x (word ∷ []) = ap (times x) drawn ∙ times_snoc x word (pick v).drawn in
          let o = once_more x word in
          let g : total (λ u. times x (pick u).drawn) (set views id w) ≡ once_below x (word + 1) = omega arith in
          g ∙ ap (once_below x) (sym after);
      count =
          let s = total_set (λ u. length (pick u).drawn) views id v w at in
          let t : length (pick w).drawn ≡ length (pick v).drawn + 1 = ap length drawn ∙ length-append (pick v).drawn (word ∷ []) in
          let c = k.count in
          omega arith;
      over =
          omega arith;
    }

-- there are no more
pub lane_ends : (limit word : ℕ) (pick : View → Lane) (views : List View) (id : ℕ) (v w : View) → LaneKept limit word pick views → get_elem? views id ≡ some v → limit ≤ word
    → 0 < v.shares → w.shares ≡ v.shares → (pick v).done ≡ false → pick w ≡ lane (pick v).drawn true → LaneKept limit (word + 1) pick (set views id w)
lane_ends limit word pick views id v w k at above some_share shares fresh is =
    let now : min word limit ≡ limit = omega arith in
    let after : min (word + 1) limit ≡ limit = omega arith in
    let drawn : (pick w).drawn ≡ (pick v).drawn = ap (λ (l : Lane). l.drawn) is in
    record {
      each = λ x.
          let s = total_set (λ u. times x (pick u).drawn) views id v w at in
          let e : total (λ u. times x (pick u).drawn) views ≡ once_below x limit = k.each x ∙ ap (once_below x) now in
          let t : times x (pick w).drawn ≡ times x (pick v).drawn = ap (times x) drawn in
          let g : total (λ u. times x (pick u).drawn) (set views id w) ≡ once_below x limit = omega arith in
          g ∙ ap (once_below x) (sym after);
      count =
          let s = total_set (λ u. length (pick u).drawn) views id v w at in
          let t : length (pick w).drawn ≡ length (pick v).drawn = ap length drawn in
          let c = k.count in
          omega arith;
      over =
          let s = total_set (done_shares pick) views id v w at in
          let a : done_shares pick v ≡ 0 = ap (λ (b : Bool). if b then v.shares else 0) fresh in
          let b : done_shares pick w ≡ w.shares = ap (λ (l : Lane). if l.done then w.shares else 0) is in
          let o = k.over in
          omega arith;
    }

-- the lane and the shares stay
pub lane_stays : (limit word : ℕ) (pick : View → Lane) (views : List View) (id : ℕ) (v w : View) → LaneKept limit word pick views → get_elem? views id ≡ some v
    → w.shares ≡ v.shares → pick w ≡ pick v → LaneKept limit word pick (set views id w)
lane_stays limit word pick views id v w k at shares is =
    record {
      each = λ x.
          let s = total_set (λ u. times x (pick u).drawn) views id v w at in
          let t : times x (pick w).drawn ≡ times x (pick v).drawn = ap (λ (l : Lane). times x l.drawn) is in
          let e = k.each x in
          omega arith;
      count =
          let s = total_set (λ u. length (pick u).drawn) views id v w at in
          let t : length (pick w).drawn ≡ length (pick v).drawn = ap (λ (l : Lane). length l.drawn) is in
          let c = k.count in
          omega arith;
      over =
          let s = total_set (done_shares pick) views id v w at in
          let t : done_shares pick w ≡ done_shares pick v = λ i. if (is i).done then shares i else 0 in
          let o = k.over in
          omega arith;
    }

-- a view is cut in two, of which the right has drawn nothing
pub lane_splits : (limit word : ℕ) (pick : View → Lane) (views : List View) (id : ℕ) (v l r : View) → LaneKept limit word pick views → get_elem? views id ≡ some v
    → l.shares + r.shares ≡ v.shares → pick l ≡ pick v → pick r ≡ lane [] (pick v).done → LaneKept limit word pick (set views id l ++ r ∷ [])
lane_splits limit word pick views id v l r k at shares left right =
    record {
      each = λ x.
          let a : times x (pick l).drawn ≡ times x (pick v).drawn = ap (λ (m : Lane). times x m.drawn) left in
          let b : times x (pick r).drawn ≡ 0 = ap (λ (m : Lane). times x m.drawn) right in
          total_split (λ u. times x (pick u).drawn) views id v l r at (omega arith) ∙ k.each x;
      count =
          let a : length (pick l).drawn ≡ length (pick v).drawn = ap (λ (m : Lane). length m.drawn) left in
          let b : length (pick r).drawn ≡ 0 = ap (λ (m : Lane). length m.drawn) right in
          total_split (λ u. length (pick u).drawn) views id v l r at (omega arith) ∙ k.count;
      over =
          let a : (pick l).done ≡ (pick v).done = ap (λ (m : Lane). m.done) left in
          let b : (pick r).done ≡ (pick v).done = ap (λ (m : Lane). m.done) right in
          let t = total_split (done_shares pick) views id v l r at (done_splits (pick l).done (pick r).done (pick v).done l.shares r.shares v.shares a b shares) in
          let o = k.over in
          omega arith;
    }
  where
    done_splits : (a b c : Bool) (m n k : ℕ) → a ≡ c → b ≡ c → m + n ≡ k → (if a then m else 0) + (if b then n else 0) ≡ (if c then k else 0)
    done_splits true true true m n k p q e = e
    done_splits false false false m n k p q e = omega arith
    done_splits true b false m n k p q e = absurd (cc)
    done_splits false b true m n k p q e = absurd (cc)
    done_splits a true false m n k p q e = absurd (cc)
    done_splits a false true m n k p q e = absurd (cc)

-- two views are put together, and the other is left with nothing
pub lane_joins : (limit word : ℕ) (pick : View → Lane) (views : List View) (id other : ℕ) (v w both none : View) → LaneKept limit word pick views
    → get_elem? views id ≡ some v → get_elem? (set views id both) other ≡ some w
    → both.shares ≡ v.shares + w.shares → pick both ≡ joined_lane (pick v) (pick w) → pick none ≡ lane [] false → LaneKept limit word pick (set (set views id both) other none)
lane_joins limit word pick views id other v w both none k at there shares is gone =
    record {
      each = λ x.
          let a : times x (pick both).drawn ≡ times x (pick v).drawn + times x (pick w).drawn = ap (λ (m : Lane). times x m.drawn) is ∙ times_append x (pick v).drawn (pick w).drawn in
          let b : times x (pick none).drawn ≡ 0 = ap (λ (m : Lane). times x m.drawn) gone in
          let t = total_join (λ u. times x (pick u).drawn) views id other v w both none at there in
          let e = k.each x in
          omega arith;
      count =
          let a : length (pick both).drawn ≡ length (pick v).drawn + length (pick w).drawn = ap (λ (m : Lane). length m.drawn) is ∙ length-append (pick v).drawn (pick w).drawn in
          let b : length (pick none).drawn ≡ 0 = ap (λ (m : Lane). length m.drawn) gone in
          let t = total_join (λ u. length (pick u).drawn) views id other v w both none at there in
          let e = k.count in
          omega arith;
      over =
          let a : (pick both).done ≡ ((pick v).done || (pick w).done) = ap (λ (m : Lane). m.done) is in
          let t = total_join (done_shares pick) views id other v w both none at there in
          let d = done_joins (pick v).done (pick w).done (pick both).done v.shares w.shares both.shares a shares in
          let o = k.over in
          omega arith;
    }
  where
    done_joins : (a b c : Bool) (m n k : ℕ) → c ≡ (a || b) → k ≡ m + n → (if a then m else 0) + (if b then n else 0) ≤ (if c then k else 0)
    done_joins true true true m n k p e = omega arith
    done_joins true false true m n k p e = omega arith
    done_joins false true true m n k p e = omega arith
    done_joins false false c m n k p e = omega arith
    done_joins true b false m n k p e = absurd (cc)
    done_joins false true false m n k p e = absurd (cc)

-- the numbers held in a lane are below the word
pub below_word : (limit word : ℕ) (pick : View → Lane) (views : List View) (id : ℕ) (v : View) → LaneKept limit word pick views → get_elem? views id ≡ some v → past (pick v).drawn ≤ word
below_word limit word pick views id v k at =
    let within : past (pick v).drawn ≤ min word limit =
    past_below (pick v).drawn (min word limit) (λ x. omega (arith, total_at (λ u. times x (pick u).drawn) views id v at, k.each x)) in
    omega arith

-- who has all shares has each number that was drawn, and the count of them
pub all_counted : (limit word : ℕ) (pick : View → Lane) (views : List View) (id : ℕ) (v : View) → LaneKept limit word pick views → get_elem? views id ≡ some v
    → total (λ (u : View). u.shares) views ≡ v.shares → ((i : ℕ) (u : View) → get_elem? views i ≡ some u → u.shares ≡ 0 → (pick u).drawn ≡ []) → length (pick v).drawn ≡ min word limit
all_counted limit word pick views id v k at all idle =
    sym (alone (λ u. length (pick u).drawn) (λ (u : View). u.shares) views id v at all (λ i u there z. ap length (idle i u there z))) ∙ k.count

pub all_held : (limit word : ℕ) (pick : View → Lane) (views : List View) (id : ℕ) (v : View) → LaneKept limit word pick views → get_elem? views id ≡ some v
    → total (λ (u : View). u.shares) views ≡ v.shares → ((i : ℕ) (u : View) → get_elem? views i ≡ some u → u.shares ≡ 0 → (pick u).drawn ≡ [])
    → IsPermutation (pick v).drawn (numbers_below (length (pick v).drawn))
all_held limit word pick views id v k at all idle =
    let n : length (pick v).drawn ≡ min word limit = all_counted limit word pick views id v k at all idle in
    permutation_of_times (pick v).drawn (numbers_below (length (pick v).drawn)) (λ x.
    sym (alone (λ u. times x (pick u).drawn) (λ (u : View). u.shares) views id v at all (λ i u there z. ap (times x) (idle i u there z)))
    ∙ k.each x ∙ ap (once_below x) (sym n) ∙ sym (times-numbers_below x (length (pick v).drawn)))
