use Rattle.std.proofs.Common.{◌≡◌, ◌<◌, length, List, ◌+◌, true, false, take, get_or, arith, subst, sym, refl, inl, inr, ap, ◌≤◌, ℕ, set}
use Rattle.std.proofs.lemmas.List.{take_all}
use Rattle.clause_core.specs.declared.literal.Lit.{Lit}
use Rattle.sat_core.specs.Positions.{MarksAdded, level_marks, one}
use Rattle.clause_core.specs.Literals.{none_lit}
use Rattle.sat_core.proofs.Marked.{mark_new, mark_kept}
use Rattle.sat_core.proofs.Counts.{level_set, level_set_low}
use Rattle.sat_core.specs.Searching.{LowListed, OnlyNew}
use Rattle.sat_core.proofs.Marking.{low_mark_low, low_mark_high, only_mark_new, only_mark_kept}
use Rattle.sat_core.proofs.marks.mark.Goals as goal
use Rattle.sat_core.proofs.marks.mark.Goals.{then-q-skip+then-not-marks-q+then-q-floor, then-q-skip+then-not-marks-q+else-q-floor+in_ok-push, else-q-skip, else-q-skip-via-then-q-skip+else-not-marks-q, else-q-skip-via-else-q-skip}

pub loop-x-preserved : goal.loop-x-preserved
loop-x-preserved c =
    let positions = c.args.positions.now in
    let v = c.loop-x.marks in
    let low = c.loop-x.low.items in
    let xs = c.args.c.now in
    let i = c.loop-x.x-index in
    let d : Lit = none_lit in
    let lt : i < length xs = omega arith in
    let inv : MarksAdded positions (take i xs) c.args.skip c.args.marks.now v = c.loop-x.invariant.added in
    let q = get_or positions (get_or xs i d).var 0 in
    let in_v : (q ≡ c.args.skip → ⊥) → q < length v =
    λ ne. elim (c.requires.placed i d lt).1 [ inl h ↦ omega arith | inr e ↦ absurd (ne e) ] in
    let counted : level_marks v c.args.floor ≡ level_marks c.args.marks.now c.args.floor + c.loop-x.more = c.loop-x.invariant.counted in
    let small : c.loop-x.more ≤ i = c.loop-x.invariant.small in
    let only : OnlyNew positions xs i c.args.skip c.args.marks.now v = c.loop-x.invariant.only in
    let lows : LowListed v c.args.floor low = c.loop-x.invariant.low in
    elim c.if-q-skip.branch [
      | then-q-skip+then-not-marks-q+then-q-floor w ↦
          let lq = in_v w.if-q-skip.true in
          let e = level_set v c.args.floor q true w.if-q-floor.true lq in
          let f : one (get_or v q false) ≡ 0 = ap one w.if-not-marks-q.true in
          rw (w.marks-is, w.low-is, w.more-is) (record {
            added = mark_new positions xs c.args.skip i d c.args.marks.now v lt lq inv;
            counted = omega (arith, e, f);
            small = omega arith;
            only = only_mark_new positions xs i c.args.skip q c.args.marks.now v refl w.if-q-skip.true only;
            low = low_mark_high v c.args.floor q low w.if-q-floor.true lq lows;
          })
      | then-q-skip+then-not-marks-q+else-q-floor+in_ok-push w ↦
          let lq = in_v w.if-q-skip.true in
          let e = level_set_low v c.args.floor q true w.if-q-floor.false in
          let P : List ℕ → Type 0 = LowListed (set v q true) c.args.floor in
          let lows' : P w.push.new.self.items = subst P (sym w.in_ok-push.ensures.items) (low_mark_low v c.args.floor q low w.if-q-floor.false lq lows) in
          rw (w.marks-is, w.low-is, w.more-is) (record {
            added = mark_new positions xs c.args.skip i d c.args.marks.now v lt lq inv;
            counted = omega (arith, e);
            small = omega arith;
            only = only_mark_new positions xs i c.args.skip q c.args.marks.now v refl w.if-q-skip.true only;
            low = lows';
          })
      | else-q-skip w ↦
          elim w.else-q-skip.branch [
            | else-q-skip-via-then-q-skip+else-not-marks-q u ↦
                rw (w.marks-is, w.low-is, w.more-is) (record {
                  added = mark_kept positions xs c.args.skip i d c.args.marks.now v lt (λ ne. u.if-not-marks-q.false) inv;
                  counted = counted;
                  small = omega arith;
                  only = only_mark_kept positions xs i c.args.skip c.args.marks.now v only;
                  low = lows;
                })
            | else-q-skip-via-else-q-skip u ↦
                rw (w.marks-is, w.low-is, w.more-is) (record {
                  added = mark_kept positions xs c.args.skip i d c.args.marks.now v lt (λ ne. absurd (ne u.if-q-skip.false)) inv;
                  counted = counted;
                  small = omega arith;
                  only = only_mark_kept positions xs i c.args.skip c.args.marks.now v only;
                  low = lows;
                })
          ]
    ]

pub returns-clause-added : goal.returns-clause-added
returns-clause-added c =
    let e : take c.loop-x.x-index c.args.c.now ≡ c.args.c.now = take_all _ _ (omega arith) in
    let P : List Lit → Type 0 = λ w. MarksAdded c.args.positions.now w c.args.skip c.args.marks.now c.loop-x.marks in
    subst P e c.loop-x.invariant.added
