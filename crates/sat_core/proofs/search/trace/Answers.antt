use Rattle.std.proofs.Common.{◌≡◌, ◌<◌, length, List, [], ◌∷◌, ◌++◌, ◌-◌, ◌⊎◌, false, get_or, arith, subst, sym, ap, inl, inr, ◌≤◌, ℕ, set, length-set, ◌∙◌}
use Rattle.std.specs.List.{All, Contains}
use Rattle.std.proofs.lemmas.Bool.{cases_eq}
use Rattle.std.proofs.lemmas.List.Elements.{All-push, All-weaker, All-contains_itself, Contains-push, Contains-append_left}
use Rattle.clause_core.specs.declared.literal.Lit.{Lit}
use Rattle.sat_core.specs.Positions.{MarksAdded, Marked}
use Rattle.clause_core.specs.Literals.{at}
use Rattle.sat_prop.specs.declared.trail.Trail.{Trail}
use Rattle.sat_prop.specs.Trails.{reason_at}
use Rattle.sat_core.specs.Searching.{OnlyNew, decided}
use Rattle.sat_core.proofs.Marking.{start_false, resolve_false, high_start, high_same, placed_start, placed_reason}
use Rattle.sat_core.proofs.Reasons.{why_read}
use Rattle.sat_core.proofs.Finals.{reason_plain, lit_read, decision_decided}
use Rattle.sat_core.proofs.search.trace.Goals as goal

pub mark-requires-clause-placed : goal.mark-requires-clause-placed
mark-requires-clause-placed g c =
    let t = g.P.Propagator.trail c.args.inner.now in
    let pl : c.deref.result.now ≡ t.positions.items = c.deref.ensures.value ∙ ap (λ (x : Trail). x.positions.items) c.assignment-trail.ensures in
    let n : c.len-n.result ≡ length t.literals.items = omega (arith, c.len-n.ensures, c.assignment-trail.result.now.literals.ok.0, ap (λ (x : Trail). length x.literals.items) c.assignment-trail.ensures) in
    let P : List ℕ → Type 0 = λ positions. All (λ m. (m.var < length positions) × ((get_or positions m.var 0 < length c.args.marks.now) ⊎ (get_or positions m.var 0 ≡ c.len-n.result))) c.args.start.now in
    let Q : ℕ → Type 0 = λ k. All (λ m. (m.var < length t.positions.items) × ((get_or t.positions.items m.var 0 < length c.args.marks.now) ⊎ (get_or t.positions.items m.var 0 ≡ k))) c.args.start.now in
    subst P (sym pl) (subst Q (sym n) (placed_start t.literals.items t.positions.items c.args.start.now (length c.args.marks.now) (length t.values.items) t.placed t.within c.requires.false_on c.requires.marks_len t.places_len))

pub loop-p-init : goal.loop-p-init
loop-p-init g c =
    let t = g.P.Propagator.trail c.args.inner.now in
    let cs = g.P.Propagator.clauses c.args.inner.now in
    let pl : c.deref.result.now ≡ t.positions.items = c.deref.ensures.value ∙ ap (λ (x : Trail). x.positions.items) c.assignment-trail.ensures in
    let n : c.len-n.result ≡ length t.literals.items = omega (arith, c.len-n.ensures, c.assignment-trail.result.now.literals.ok.0, ap (λ (x : Trail). length x.literals.items) c.assignment-trail.ensures) in
    let new = c.mark.new.marks in
    let start = c.args.start.now in
    let P : List ℕ → Type 0 = λ positions. MarksAdded positions start c.len-n.result c.args.marks.now new in
    let Q : ℕ → Type 0 = λ k. MarksAdded t.positions.items start k c.args.marks.now new in
    let added : Q (length t.literals.items) = subst Q n (subst P pl c.in_ok-mark.ensures.added) in
    let R : List ℕ → Type 0 = λ positions. OnlyNew positions start (length start) c.len-n.result c.args.marks.now new in
    let S : ℕ → Type 0 = λ k. OnlyNew t.positions.items start (length start) k c.args.marks.now new in
    let only : S (length t.literals.items) = subst S n (subst R pl c.in_ok-mark.ensures.only) in
    let none = high_start t.literals.items t.positions.items start c.args.marks.now new t.placed c.requires.false_on c.requires.marks_none only in
    record {
      marks = start_false t.literals.items t.positions.items cs start c.args.marks.now new t.placed c.requires.false_on added;
      done = λ q le m. absurd (none q (omega (arith, le, n)) m);
      kept = λ x h. h;
      parts = All-weaker (Contains c.args.core.now.items) (λ x. Contains c.args.core.now.items x ⊎ Contains (decided t.literals.items t.level_starts.items) x) (λ x h. inl h) c.args.core.now.items (All-contains_itself c.args.core.now.items);
      low_ok = c.in_ok-mark.ensures.low;
      upper = omega (arith, n, c.mark.auto.marks, c.requires.marks_len);
    }

pub loop-p-preserved-in-Continue-branch-2 : goal.loop-p-preserved-in-Continue-branch-2
loop-p-preserved-in-Continue-branch-2 g c =
    let t = g.P.Propagator.trail c.args.inner.now in
    let p = c.loop-p.p - 1 in
    let v = c.loop-p.marks in
    let w = c.index-reasons.result.now in
    let lv : length v ≡ length t.literals.items = c.loop-p.auto.marks ∙ c.mark.auto.marks ∙ c.requires.marks_len in
    let lp : p < length t.literals.items = omega (arith, lv, c.loop-p.invariant.upper) in
    let e : w ≡ reason_at t.literals.items t.reasons.items p = why_read c.assignment-trail.result.now t c.index.result.now w p c.assignment-trail.ensures c.index.ensures c.index-reasons.ensures lp in
    let none : reason_at t.literals.items t.reasons.items p ≡ 0 = sym e ∙ c.if-reasons-eq0.true in
    let l = c.index-then-reasons-eq0.result.now in
    let same : l ≡ at t.literals.items p = lit_read c.assignment-trail.result.now t l p c.assignment-trail.ensures c.index-then-reasons-eq0.ensures lp in
    let core = c.loop-p.core.items in
    let items : c.push.new.self.items ≡ core ++ l ∷ [] = c.in_ok-push.ensures.items in
    let C : List Lit → Type 0 = λ xs. (q : ℕ) → p ≤ q → Marked v q → Contains xs (at t.literals.items q) in
    let done : C (core ++ l ∷ []) = λ q le m.
    elim (cases_eq q p) [
      | inl here ↦
          let D : Lit → Type 0 = Contains (core ++ l ∷ []) in
          let E : ℕ → Type 0 = λ n. Contains (core ++ l ∷ []) (at t.literals.items n) in
          subst E (sym here) (subst D same (Contains-push core l))
      | inr ne ↦ Contains-append_left core (l ∷ []) (at t.literals.items q) (c.loop-p.invariant.done q (omega arith) m)
    ] in
    let K : List Lit → Type 0 = λ xs. (x : Lit) → Contains c.args.core.now.items x → Contains xs x in
    let kept : K (core ++ l ∷ []) = λ x h. Contains-append_left core (l ∷ []) x (c.loop-p.invariant.kept x h) in
    let Part : Lit → Type 0 = λ x. Contains c.args.core.now.items x ⊎ Contains (decided t.literals.items t.level_starts.items) x in
    let mine : Part l = subst Part (sym same) (inr (decision_decided t.literals.items t.reasons.items t.level_starts.items p t.roots lp none)) in
    let A : List Lit → Type 0 = All Part in
    let parts : A (core ++ l ∷ []) = All-push Part core l c.loop-p.invariant.parts mine in
    record {
      marks = c.loop-p.invariant.marks;
      done = subst C (sym items) done;
      kept = subst K (sym items) kept;
      parts = subst A (sym items) parts;
      low_ok = c.loop-p.invariant.low_ok;
      upper = omega (arith, c.loop-p.invariant.upper);
    }

pub mark-requires-else-reasons-eq0-clause-placed : goal.mark-requires-else-reasons-eq0-clause-placed
mark-requires-else-reasons-eq0-clause-placed g c =
    let t = g.P.Propagator.trail c.args.inner.now in
    let cs = g.P.Propagator.clauses c.args.inner.now in
    let p = c.loop-p.p - 1 in
    let v = c.loop-p.marks in
    let w = c.index-reasons.result.now in
    let lv : length v ≡ length t.literals.items = c.loop-p.auto.marks ∙ c.mark.auto.marks ∙ c.requires.marks_len in
    let lp : p < length t.literals.items = omega (arith, lv, c.loop-p.invariant.upper) in
    let e : w ≡ reason_at t.literals.items t.reasons.items p = why_read c.assignment-trail.result.now t c.index.result.now w p c.assignment-trail.ensures c.index.ensures c.index-reasons.ensures lp in
    let r = reason_plain t cs w p (g.met.P.Propagator.based c.args.inner.now) e lp c.if-reasons-eq0.false in
    let pl : c.deref-else-reasons-eq0.result.now ≡ t.positions.items = c.deref-else-reasons-eq0.ensures.value ∙ ap (λ (x : Trail). x.positions.items) c.assignment-trail.ensures in
    let N = length (set v p false) in
    let ln : N ≡ length t.literals.items = length-set v p false ∙ lv in
    let P : List ℕ → Type 0 = λ positions. All (λ m. (m.var < length positions) × ((get_or positions m.var 0 < N) ⊎ (get_or positions m.var 0 ≡ p))) c.clause-c.result.now in
    let Q : List Lit → Type 0 = λ xs. All (λ m. (m.var < length t.positions.items) × ((get_or t.positions.items m.var 0 < N) ⊎ (get_or t.positions.items m.var 0 ≡ p))) xs in
    subst P (sym pl) (subst Q (sym c.clause-c.ensures) (placed_reason t.literals.items t.positions.items (get_or cs (w - 1) []) p N (length t.values.items) t.placed t.within lp r.1 ln t.places_len))

pub loop-p-preserved-else-reasons-eq0 : goal.loop-p-preserved-else-reasons-eq0
loop-p-preserved-else-reasons-eq0 g c =
    let t = g.P.Propagator.trail c.args.inner.now in
    let cs = g.P.Propagator.clauses c.args.inner.now in
    let p = c.loop-p.p - 1 in
    let v = c.loop-p.marks in
    let w = c.index-reasons.result.now in
    let lv : length v ≡ length t.literals.items = c.loop-p.auto.marks ∙ c.mark.auto.marks ∙ c.requires.marks_len in
    let lp : p < length t.literals.items = omega (arith, lv, c.loop-p.invariant.upper) in
    let lm : p < length v = omega arith in
    let e : w ≡ reason_at t.literals.items t.reasons.items p = why_read c.assignment-trail.result.now t c.index.result.now w p c.assignment-trail.ensures c.index.ensures c.index-reasons.ensures lp in
    let r = reason_plain t cs w p (g.met.P.Propagator.based c.args.inner.now) e lp c.if-reasons-eq0.false in
    let pl : c.deref-else-reasons-eq0.result.now ≡ t.positions.items = c.deref-else-reasons-eq0.ensures.value ∙ ap (λ (x : Trail). x.positions.items) c.assignment-trail.ensures in
    let new = c.mark-else-reasons-eq0.new.marks in
    let old = set v p false in
    let k = w - 1 in
    let P : List ℕ → Type 0 = λ positions. MarksAdded positions c.clause-c.result.now p old new in
    let Q : List Lit → Type 0 = λ xs. MarksAdded t.positions.items xs p old new in
    let added : Q (get_or cs k []) = subst Q c.clause-c.ensures (subst P pl c.in_ok-mark-2.ensures.added) in
    let R : List ℕ → Type 0 = λ positions. OnlyNew positions c.clause-c.result.now (length c.clause-c.result.now) p old new in
    let S : List Lit → Type 0 = λ xs. OnlyNew t.positions.items xs (length xs) p old new in
    let only : S (get_or cs k []) = subst S c.clause-c.ensures (subst R pl c.in_ok-mark-2.ensures.only) in
    let same = high_same t.literals.items t.positions.items (get_or cs k []) p v new lp lm t.placed r.1 only in
    let kept : length new ≡ length v = c.mark-else-reasons-eq0.auto.marks ∙ length-set _ _ _ in
    record {
      marks = resolve_false t.literals.items t.positions.items cs c.args.start.now p k v new lp r.0 t.placed r.1 c.loop-p.invariant.marks added;
      done = λ q le m. let u = same q le m in let ne : q ≡ p → ⊥ = u.0 in c.loop-p.invariant.done q (omega arith) u.1;
      kept = c.loop-p.invariant.kept;
      parts = c.loop-p.invariant.parts;
      low_ok = c.in_ok-mark-2.ensures.low;
      upper = omega (arith, kept, lm);
    }
