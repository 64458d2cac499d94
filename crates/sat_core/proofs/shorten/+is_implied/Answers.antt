use Rattle.std.proofs.Common.{rules, ◌≡◌, ◌<◌, length, List, [], ℕ, ◌-◌, true, false, take, get_or, Bool, get_or-set_same, set, arith, sym, subst, ◌∙◌, inr}
use Rattle.std.specs.List.{All}
use Rattle.std.proofs.lemmas.List.{take_all}
use Rattle.std.proofs.lemmas.List.Elements.{All-more, All-weaker}
use Rattle.clause_core.specs.declared.literal.Lit.{Lit}
use Rattle.clause_core.specs.Literals.{none_lit}
use Rattle.sat_prop.specs.declared.trail.Trail.{Trail}
use Rattle.sat_prop.specs.Trails.{reason_at}
use Rattle.sat_core.specs.Positions.{Marked}
use Rattle.sat_core.specs.Searching.{Implied, MarksImplied}
use Rattle.sat_core.proofs.Reasons.{why_read}
use Rattle.sat_core.proofs.Shortening.{reason_step, marks_on, marks_set}
use Rattle.sat_core.proofs.shorten.+is_implied.Goals as goal
use Rattle.sat_core.proofs.shorten.+is_implied.Goals.{then-r-q+then-not-marks-r+else-not-is_implied, else-r-q, else-r-q-via-then-r-q+else-not-marks-r, else-r-q-via-else-r-q}

pub bounds-marks-r : goal.bounds-marks-r
bounds-marks-r g t c =
    let u = g.P.Propagator.trail c.args.inner.now in
    let cs = g.P.Propagator.clauses c.args.inner.now in
    let x = c.assignment-trail.result.now in
    let q = c.args.q in
    let w = c.index-reason.result.now in
    let ew : w ≡ reason_at u.literals.items u.reasons.items q = why_read x u c.index.result.now w q c.assignment-trail.ensures c.index.ensures c.index-reason.ensures c.requires.q_in in
    let xs = c.clause-x-items.result.now in
    let i = c.loop-x.x-index in
    let r = c.index-r.result.now in
    let st = reason_step x u cs w q i r none_lit xs c.assignment-trail.ensures (g.met.P.Propagator.based c.args.inner.now) (g.met.P.Propagator.within c.args.inner.now) ew c.if-reason-eq0.false c.requires.q_in c.clause-x-items.ensures (omega arith) c.index-r.ensures in
    let lr : r < q = st.1 c.if-r-q.true in
    omega (arith, c.requires.q_in, c.requires.marks_len, c.loop-x.auto.marks)

pub is_implied-requires : goal.is_implied-requires
is_implied-requires g t c κs within =
    let u = g.P.Propagator.trail c.args.inner.now in
    let cs = g.P.Propagator.clauses c.args.inner.now in
    let x = c.assignment-trail.result.now in
    let q = c.args.q in
    let w = c.index-reason.result.now in
    let ew : w ≡ reason_at u.literals.items u.reasons.items q = why_read x u c.index.result.now w q c.assignment-trail.ensures c.index.ensures c.index-reason.ensures c.requires.q_in in
    let xs = c.clause-x-items.result.now in
    let i = c.loop-x.x-index in
    let r = c.index-r.result.now in
    let st = reason_step x u cs w q i r none_lit xs c.assignment-trail.ensures (g.met.P.Propagator.based c.args.inner.now) (g.met.P.Propagator.within c.args.inner.now) ew c.if-reason-eq0.false c.requires.q_in c.clause-x-items.ensures (omega arith) c.index-r.ensures in
    let lr : r < q = st.1 c.if-r-q.true in
    (omega (arith, c.decreases), (search rules, (omega (arith, c.requires.q_in), c.loop-x.auto.marks ∙ c.requires.marks_len)))

pub bounds-marks-r-then-not-marks-r : goal.bounds-marks-r-then-not-marks-r
bounds-marks-r-then-not-marks-r g t c =
    let u = g.P.Propagator.trail c.args.inner.now in
    let cs = g.P.Propagator.clauses c.args.inner.now in
    let x = c.assignment-trail.result.now in
    let q = c.args.q in
    let w = c.index-reason.result.now in
    let ew : w ≡ reason_at u.literals.items u.reasons.items q = why_read x u c.index.result.now w q c.assignment-trail.ensures c.index.ensures c.index-reason.ensures c.requires.q_in in
    let xs = c.clause-x-items.result.now in
    let i = c.loop-x.x-index in
    let r = c.index-r.result.now in
    let st = reason_step x u cs w q i r none_lit xs c.assignment-trail.ensures (g.met.P.Propagator.based c.args.inner.now) (g.met.P.Propagator.within c.args.inner.now) ew c.if-reason-eq0.false c.requires.q_in c.clause-x-items.ensures (omega arith) c.index-r.ensures in
    let lr : r < q = st.1 c.if-r-q.true in
    omega (arith, c.requires.q_in, c.requires.marks_len, c.loop-x.auto.marks, c.is_implied.auto.marks)

pub loop-x-preserved : goal.loop-x-preserved
loop-x-preserved g t c =
    let u = g.P.Propagator.trail c.args.inner.now in
    let cs = g.P.Propagator.clauses c.args.inner.now in
    let x = c.assignment-trail.result.now in
    let q = c.args.q in
    let w = c.index-reason.result.now in
    let ew : w ≡ reason_at u.literals.items u.reasons.items q = why_read x u c.index.result.now w q c.assignment-trail.ensures c.index.ensures c.index-reason.ensures c.requires.q_in in
    let xs = c.clause-x-items.result.now in
    let i = c.loop-x.x-index in
    let r = c.index-r.result.now in
    let st = reason_step x u cs w q i r none_lit xs c.assignment-trail.ensures (g.met.P.Propagator.based c.args.inner.now) (g.met.P.Propagator.within c.args.inner.now) ew c.if-reason-eq0.false c.requires.q_in c.clause-x-items.ensures (omega arith) c.index-r.ensures in
    let first = c.args.first in
    let v = c.loop-x.marks in
    let inv = c.loop-x.invariant in
    let li : i < length xs = omega arith in
    let place : Lit → ℕ = λ m. get_or x.positions.items m.var 0 in
    let D : List Bool → Lit → Type 0 = λ ms m. (place m ≡ q → ⊥) → Marked ms (place m) in
    elim c.if-r-q.branch [
      | then-r-q+then-not-marks-r+else-not-is_implied b ↦
          let new = b.is_implied.new.marks in
          let lr : r < q = st.1 b.if-r-q.true in
          let lv : r < length new = omega (arith, c.requires.q_in, c.requires.marks_len, c.loop-x.auto.marks, b.is_implied.auto.marks) in
          let says : Implied u cs new first r = b.is_implied.ensures.says (search (rules, b.if-not-is_implied.false)) in
          let grown : MarksImplied u cs first v (set new r true) =
          marks_on u cs first v new (set new r true) b.is_implied.ensures.marks (marks_set u cs first r new lv says) in
          let M : ℕ → Type 0 = Marked (set new r true) in
          let here : D (set new r true) (get_or xs i none_lit) = λ ne. subst M st.0 (get_or-set_same new r true false lv) in
          rw b.marks-is (record {
            marks = marks_on u cs first c.args.marks.now v (set new r true) inv.marks grown;
            done = All-more (D (set new r true)) xs i none_lit li
                (All-weaker (D v) (D (set new r true)) (λ m h ne. grown.0 (place m) (h ne)) (take i xs) inv.done) here;
          })
      | else-r-q b ↦
          let here : D v (get_or xs i none_lit) = λ ne.
          elim b.else-r-q.branch [
            | else-r-q-via-then-r-q+else-not-marks-r y ↦ let M : ℕ → Type 0 = Marked v in subst M st.0 y.if-not-marks-r.false
            | else-r-q-via-else-r-q y ↦ absurd (ne (sym st.0 ∙ y.if-r-q.false))
          ] in
          rw b.marks-is (record {
            marks = inv.marks;
            done = All-more (D v) xs i none_lit li inv.done here;
          })
    ]

pub returns-clause-says : goal.returns-clause-says
returns-clause-says g t c holds =
    let u = g.P.Propagator.trail c.args.inner.now in
    let cs = g.P.Propagator.clauses c.args.inner.now in
    let x = c.assignment-trail.result.now in
    let q = c.args.q in
    let w = c.index-reason.result.now in
    let ew : w ≡ reason_at u.literals.items u.reasons.items q = why_read x u c.index.result.now w q c.assignment-trail.ensures c.index.ensures c.index-reason.ensures c.requires.q_in in
    let xs = c.clause-x-items.result.now in
    let v = c.loop-x.marks in
    let place : Lit → ℕ = λ m. get_or u.positions.items m.var 0 in
    let D : List Lit → Type 0 = All (λ m. (get_or x.positions.items m.var 0 ≡ q → ⊥) → Marked v (get_or x.positions.items m.var 0)) in
    let E : Trail → Type 0 = λ y. All (λ m. (get_or y.positions.items m.var 0 ≡ q → ⊥) → Marked v (get_or y.positions.items m.var 0)) xs in
    let F : List Lit → Type 0 = All (λ m. (place m ≡ q → ⊥) → Marked v (place m)) in
    let K : ℕ → Type 0 = λ n. F (get_or cs (n - 1) []) in
    let whole : D xs = subst D (take_all c.loop-x.x-index xs (omega arith)) c.loop-x.invariant.done in
    let there : F xs = subst E c.assignment-trail.ensures whole in
    let there' : K w = subst F c.clause-x-items.ensures there in
    inr (omega (arith, c.if-reason-eq0.false, ew), subst K ew there')
