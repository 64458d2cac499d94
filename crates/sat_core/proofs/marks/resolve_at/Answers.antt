use Rattle.std.proofs.Common.{◌≡◌, ◌<◌, length, List, [], ◌-◌, ◌⊎◌, false, get_or, arith, subst, sym, ap, ℕ, set, length-set, ◌∙◌}
use Rattle.std.specs.List.{All}
use Rattle.clause_core.specs.declared.literal.Lit.{Lit}
use Rattle.sat_core.specs.Positions.{one, MarksAdded}
use Rattle.sat_core.proofs.Counts.{level_set}
use Rattle.sat_prop.specs.declared.trail.Trail.{Trail}
use Rattle.sat_prop.specs.Trails.{reason_at}
use Rattle.sat_core.specs.Searching.{OnlyNew}
use Rattle.sat_core.proofs.Marking.{resolve_false, high_step, placed_reason}
use Rattle.sat_core.proofs.Reasons.{why_read, reason_of}
use Rattle.sat_core.proofs.marks.resolve_at.Goals as goal

pub overflow_sub-reason : goal.overflow_sub-reason
overflow_sub-reason g c =
    let t = g.P.Propagator.trail c.args.inner.now in
    let cs = g.P.Propagator.clauses c.args.inner.now in
    let p = c.args.p in
    let v = c.args.marks.now in
    let w = c.index-reason.result.now in
    let read : w ≡ reason_at t.literals.items t.reasons.items p = why_read c.assignment-trail.result.now t c.index.result.now w p c.assignment-trail.ensures c.index.ensures c.index-reason.ensures c.requires.in_trail in
    let r = reason_of t cs w p (length t.level_starts.items - 1) c.args.floor v (g.met.P.Propagator.based c.args.inner.now) read (omega (arith, c.requires.level)) c.requires.floor c.requires.after
    c.requires.in_trail c.requires.marks_len c.requires.marked c.requires.last c.requires.more in
    omega (arith, r.0)

pub clause-c-requires : goal.clause-c-requires
clause-c-requires g c =
    let t = g.P.Propagator.trail c.args.inner.now in
    let cs = g.P.Propagator.clauses c.args.inner.now in
    let p = c.args.p in
    let v = c.args.marks.now in
    let w = c.index-reason.result.now in
    let read : w ≡ reason_at t.literals.items t.reasons.items p = why_read c.assignment-trail.result.now t c.index.result.now w p c.assignment-trail.ensures c.index.ensures c.index-reason.ensures c.requires.in_trail in
    let r = reason_of t cs w p (length t.level_starts.items - 1) c.args.floor v (g.met.P.Propagator.based c.args.inner.now) read (omega (arith, c.requires.level)) c.requires.floor c.requires.after
    c.requires.in_trail c.requires.marks_len c.requires.marked c.requires.last c.requires.more in
    r.1

pub mark-requires-clause-placed : goal.mark-requires-clause-placed
mark-requires-clause-placed g c =
    let t = g.P.Propagator.trail c.args.inner.now in
    let cs = g.P.Propagator.clauses c.args.inner.now in
    let p = c.args.p in
    let v = c.args.marks.now in
    let w = c.index-reason.result.now in
    let read : w ≡ reason_at t.literals.items t.reasons.items p = why_read c.assignment-trail.result.now t c.index.result.now w p c.assignment-trail.ensures c.index.ensures c.index-reason.ensures c.requires.in_trail in
    let r = reason_of t cs w p (length t.level_starts.items - 1) c.args.floor v (g.met.P.Propagator.based c.args.inner.now) read (omega (arith, c.requires.level)) c.requires.floor c.requires.after
    c.requires.in_trail c.requires.marks_len c.requires.marked c.requires.last c.requires.more in
    let pl : c.deref-2.result.now ≡ t.positions.items = c.deref-2.ensures.value ∙ ap (λ (x : Trail). x.positions.items) c.assignment-trail.ensures in
    let N = length (set v p false) in
    let ln : N ≡ length t.literals.items = length-set v p false ∙ c.requires.marks_len in
    let P : List ℕ → Type 0 = λ positions. All (λ m. (m.var < length positions) × ((get_or positions m.var 0 < N) ⊎ (get_or positions m.var 0 ≡ p))) c.clause-c.result.now in
    let Q : List Lit → Type 0 = λ xs. All (λ m. (m.var < length t.positions.items) × ((get_or t.positions.items m.var 0 < N) ⊎ (get_or t.positions.items m.var 0 ≡ p))) xs in
    subst P (sym pl) (subst Q (sym c.clause-c.ensures) (placed_reason t.literals.items t.positions.items (get_or cs (w - 1) []) p N (length t.values.items) t.placed t.within c.requires.in_trail r.2 ln t.places_len))

pub returns-clause-counted : goal.returns-clause-counted
returns-clause-counted g c =
    let v = c.args.marks.now in
    let p = c.args.p in
    let in_marks : p < length v = omega (arith, c.requires.in_trail, c.requires.marks_len) in
    let on : one (get_or v p false) ≡ 1 = ap one c.requires.marked in
    omega (arith, c.in_ok-more.ensures.counted, level_set v c.args.floor p false c.requires.after in_marks, on)

pub returns-clause-last : goal.returns-clause-last
returns-clause-last g c =
    let t = g.P.Propagator.trail c.args.inner.now in
    let cs = g.P.Propagator.clauses c.args.inner.now in
    let p = c.args.p in
    let v = c.args.marks.now in
    let w = c.index-reason.result.now in
    let read : w ≡ reason_at t.literals.items t.reasons.items p = why_read c.assignment-trail.result.now t c.index.result.now w p c.assignment-trail.ensures c.index.ensures c.index-reason.ensures c.requires.in_trail in
    let r = reason_of t cs w p (length t.level_starts.items - 1) c.args.floor v (g.met.P.Propagator.based c.args.inner.now) read (omega (arith, c.requires.level)) c.requires.floor c.requires.after
    c.requires.in_trail c.requires.marks_len c.requires.marked c.requires.last c.requires.more in
    let pl : c.deref-2.result.now ≡ t.positions.items = c.deref-2.ensures.value ∙ ap (λ (x : Trail). x.positions.items) c.assignment-trail.ensures in
    let new = c.mark.new.marks in
    let old = set v p false in
    let R : List ℕ → Type 0 = λ positions. OnlyNew positions c.clause-c.result.now (length c.clause-c.result.now) p old new in
    let S : List Lit → Type 0 = λ xs. OnlyNew t.positions.items xs (length xs) p old new in
    let only : S (get_or cs (w - 1) []) = subst S c.clause-c.ensures (subst R pl c.in_ok-more.ensures.only) in
    let in_marks : p < length v = omega (arith, c.requires.in_trail, c.requires.marks_len) in
    high_step t.literals.items t.positions.items (get_or cs (w - 1) []) p v new c.requires.in_trail in_marks t.placed r.2 c.requires.last only

pub returns-clause-marks : goal.returns-clause-marks
returns-clause-marks g c start before =
    let t = g.P.Propagator.trail c.args.inner.now in
    let cs = g.P.Propagator.clauses c.args.inner.now in
    let p = c.args.p in
    let v = c.args.marks.now in
    let w = c.index-reason.result.now in
    let read : w ≡ reason_at t.literals.items t.reasons.items p = why_read c.assignment-trail.result.now t c.index.result.now w p c.assignment-trail.ensures c.index.ensures c.index-reason.ensures c.requires.in_trail in
    let r = reason_of t cs w p (length t.level_starts.items - 1) c.args.floor v (g.met.P.Propagator.based c.args.inner.now) read (omega (arith, c.requires.level)) c.requires.floor c.requires.after
    c.requires.in_trail c.requires.marks_len c.requires.marked c.requires.last c.requires.more in
    let pl : c.deref-2.result.now ≡ t.positions.items = c.deref-2.ensures.value ∙ ap (λ (x : Trail). x.positions.items) c.assignment-trail.ensures in
    let new = c.mark.new.marks in
    let old = set v p false in
    let P : List ℕ → Type 0 = λ positions. MarksAdded positions c.clause-c.result.now p old new in
    let Q : List Lit → Type 0 = λ xs. MarksAdded t.positions.items xs p old new in
    let added : Q (get_or cs (w - 1) []) = subst Q c.clause-c.ensures (subst P pl c.in_ok-more.ensures.added) in
    resolve_false t.literals.items t.positions.items cs start p (w - 1) v new c.requires.in_trail r.1 t.placed r.2 before added
