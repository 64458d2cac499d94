use Rattle.std.proofs.Common.{◌≡◌, ◌<◌, length, List, ◌-◌, ◌⊎◌, get_or, arith, subst, sym, ap, ℕ, ◌∙◌}
use Rattle.std.specs.List.{All}
use Rattle.sat_core.specs.Positions.{level_marks, MarksAdded}
use Rattle.sat_core.proofs.Counts.{level_le, level_one, level_none}
use Rattle.sat_prop.specs.declared.trail.Trail.{Trail}
use Rattle.sat_core.specs.Searching.{OnlyNew, NoneFrom}
use Rattle.sat_core.proofs.Marking.{start_false, high_start, level_zero, open_start, placed_start}
use Rattle.sat_core.proofs.marks.resolve.Goals as goal

pub mark-requires-clause-placed : goal.mark-requires-clause-placed
mark-requires-clause-placed g c =
    let t = g.P.Propagator.trail c.args.inner.now in
    let pl : c.deref.result.now ≡ t.positions.items = c.deref.ensures.value ∙ ap (λ (x : Trail). x.positions.items) c.assignment-trail.ensures in
    let n : c.len-n.result ≡ length t.literals.items = omega (arith, c.len-n.ensures, c.assignment-trail.result.now.literals.ok.0, ap (λ (x : Trail). length x.literals.items) c.assignment-trail.ensures) in
    let P : List ℕ → Type 0 = λ positions. All (λ m. (m.var < length positions) × ((get_or positions m.var 0 < length c.args.marks.now) ⊎ (get_or positions m.var 0 ≡ c.len-n.result))) c.args.start.now in
    let Q : ℕ → Type 0 = λ k. All (λ m. (m.var < length t.positions.items) × ((get_or t.positions.items m.var 0 < length c.args.marks.now) ⊎ (get_or t.positions.items m.var 0 ≡ k))) c.args.start.now in
    subst P (sym pl) (subst Q (sym n) (placed_start t.literals.items t.positions.items c.args.start.now (length c.args.marks.now) (length t.values.items) t.placed t.within c.requires.false_on c.requires.marks_len t.places_len))

pub loop-p-init : goal.loop-p-init
loop-p-init g c =
    let t = g.P.Propagator.trail c.args.inner.now in
    let cs = g.P.Propagator.clauses c.args.inner.now in
    let pl : c.deref.result.now ≡ t.positions.items = c.deref.ensures.value ∙ ap (λ (x : Trail). x.positions.items) c.assignment-trail.ensures in
    let n : c.len-n.result ≡ length t.literals.items = omega (arith, c.len-n.ensures, c.assignment-trail.result.now.literals.ok.0, ap (λ (x : Trail). length x.literals.items) c.assignment-trail.ensures) in
    let new = c.mark.new.marks in
    let start = c.args.start.now in
    let P : List ℕ → Type 0 = λ positions. MarksAdded positions start c.len-n.result c.args.marks.now new in
    let Q : ℕ → Type 0 = λ k. MarksAdded t.positions.items start k c.args.marks.now new in
    let added : Q (length t.literals.items) = subst Q n (subst P pl c.in_ok-open.ensures.added) in
    let R : List ℕ → Type 0 = λ positions. OnlyNew positions start (length start) c.len-n.result c.args.marks.now new in
    let S : ℕ → Type 0 = λ k. OnlyNew t.positions.items start (length start) k c.args.marks.now new in
    let only : S (length t.literals.items) = subst S n (subst R pl c.in_ok-open.ensures.only) in
    let none : level_marks c.args.marks.now c.args.floor ≡ 0 = level_none c.args.marks.now c.args.floor c.requires.marks_none in
    let len : length new ≡ length t.literals.items = c.mark.auto.marks ∙ c.requires.marks_len in
    let i = length t.level_starts.items - 1 in
    let li : i < length t.level_starts.items = omega (arith, c.requires.level) in
    let lf : c.args.floor < length t.literals.items = omega (arith, c.requires.floor, t.in_trail i li) in
    let pos : 0 < level_marks new c.args.floor =
    open_start t.literals.items t.positions.items start c.args.floor c.args.marks.now new t.placed c.requires.false_on (omega arith) len added c.requires.open in
    let H : ℕ → Type 0 = NoneFrom new in
    record {
      marks = start_false t.literals.items t.positions.items cs start c.args.marks.now new t.placed c.requires.false_on added;
      counted = omega (arith, c.in_ok-open.ensures.counted, none);
      pos = omega (arith, c.in_ok-open.ensures.counted, none, pos);
      high = subst H (sym n) (high_start t.literals.items t.positions.items start c.args.marks.now new t.placed c.requires.false_on c.requires.marks_none only);
      low_ok = c.in_ok-open.ensures.low;
      floor_le = omega (arith, n, lf);
      upper = omega (arith, n, len);
    }

pub returns-then-open-eq1-clause-only : goal.returns-then-open-eq1-clause-only
returns-then-open-eq1-clause-only g c =
    let p = c.loop-p.p - 1 in
    let v = c.loop-p.marks in
    level_one v c.args.floor p (omega (arith, c.loop-p.invariant.counted, c.if-open-eq1.true)) (omega arith) (omega (arith, c.loop-p.invariant.upper)) c.if-marks-p.true

pub resolve_at-requires-clause-more : goal.resolve_at-requires-clause-more
resolve_at-requires-clause-more g c two = omega (arith, two, c.loop-p.invariant.counted, c.if-open-eq1.false)

pub overflow_add-open : goal.overflow_add-open
overflow_add-open g c =
    let new = c.resolve_at.new.marks in
    let kept : length new ≡ length c.loop-p.marks = c.resolve_at.auto.marks in
    omega (arith, level_le new c.args.floor, kept, c.in_ok-more.ensures.counted, c.loop-p.invariant.counted)

pub loop-p-preserved-then-marks-p : goal.loop-p-preserved-then-marks-p
loop-p-preserved-then-marks-p g c =
    let said = c.in_ok-more.ensures in
    record {
      marks = said.marks c.args.start.now c.loop-p.invariant.marks;
      counted = omega (arith, said.counted, c.loop-p.invariant.counted);
      pos = omega (arith, c.loop-p.invariant.pos, c.if-open-eq1.false);
      high = said.last;
      low_ok = said.low;
      floor_le = omega arith;
      upper = omega (arith, c.resolve_at.auto.marks, c.loop-p.invariant.upper);
    }

pub unreachable-requires : goal.unreachable-requires
unreachable-requires g c =
    let e : c.loop-p.p ≡ c.args.floor = omega (arith, c.loop-p.invariant.floor_le, c.loop-p-test.false) in
    let H : ℕ → Type 0 = NoneFrom c.loop-p.marks in
    omega (arith, c.loop-p.invariant.pos, c.loop-p.invariant.counted, level_zero c.loop-p.marks c.args.floor (subst H e c.loop-p.invariant.high))
