use Rattle.std.proofs.Common.{◌≡◌, ◌≤◌, ◌+◌, ◌-◌, length, List, get_or, arith, refl, subst, sym, ap, ℕ, ◌∙◌}
use Rattle.std.specs.List.{All, Contains}
use Rattle.std.proofs.lemmas.List.Elements.{All-nil}
use Rattle.std.proofs.lemmas.Result.{err_from_is_err_and}
use Rattle.clause_core.specs.declared.literal.Lit.{Lit}
use Rattle.clause_core.specs.Values.{unset}
use Rattle.sat_prop.specs.declared.trail.Trail.{Trail}
use Rattle.sat_prop.specs.Moves.{FalseClause}
use Rattle.clause_core.specs.Literals.{Within}
use Rattle.sat_core.specs.Queries.{IsLearned, IsRefutedAtOnce}
use Rattle.sat_core.specs.Searching.{GrowsByLearning, LearnSays, PaidFor, decided}
use Rattle.sat_core.specs.Ends.{IsSeen}
use Rattle.effort_purse.specs.Drawing.{past}
use Rattle.effort_purse.proofs.Past.{past-snoc}
use Rattle.sat_core.proofs.Finals.{refuted_root, levels_went, level_after, learnt_more, paid_more, is_learned, assumptions_first, unset_le, measure_less}
use Rattle.sat_core.proofs.Deciding.{known_same}
use Rattle.sat_core.proofs.Payments.{turn_none, turn_paid, turn_lost}
use Rattle.sat_core.proofs.Seeing.{seen_went}
use Rattle.sat_core.proofs.search.search.Goals as goal

pub returns-then-len-eq0-clause-says : goal.returns-then-len-eq0-clause-says
returns-then-len-eq0-clause-says g c =
    let new = c.propagate.new.self in
    let t = g.P.Propagator.trail new in
    let cs = g.P.Propagator.clauses new in
    let k = c.in-Some.k in
    let h : FalseClause cs t k = rw c.in-Some.is at c.in_ok-k.ensures.says in
    let none : length t.level_starts.items ≡ 0 = omega (arith, c.if-len-eq0.true, c.len.ensures, c.assignment.result.now.level_starts.ok.0, ap (λ (x : Trail). length x.level_starts.items) c.assignment.ensures) in
    let P : List Lit → Type 0 = All (Contains c.args.assumptions.now) in
    (subst P (sym c.new.ensures.items) (All-nil (Contains c.args.assumptions.now)), refuted_root t cs k (g.met.P.Propagator.based new) h.0 h.1 none c.new.result.items)

pub analyze-requires-clause-rest : goal.analyze-requires-clause-rest
analyze-requires-clause-rest g c i li =
    let old = c.search.inner in
    let new = c.propagate.new.self in
    (levels_went (g.P.Propagator.trail old) (g.P.Propagator.trail new) (g.P.Propagator.clauses old) (g.P.Propagator.clauses new) c.args.assumptions.now
    c.search.invariant.levels c.in_ok-k.ensures.extends c.in_ok-k.ensures.clauses_kept i li).0

pub search-smaller-in-Some : goal.search-smaller-in-Some
search-smaller-in-Some g c =
    let v = length (g.P.Propagator.trail c.args.inner.now).values.items in
    let w = (g.P.Propagator.trail c.follow.new.inner).values.items in
    let le : unset w ≤ v = omega (arith, unset_le w, c.in_ok-follow-in-Some.ensures.vars, c.in_ok-k.ensures.extends.vars, c.search.invariant.vars) in
    let old = g.Q.Purse.tickets c.search.purse in
    let new = g.Q.Purse.tickets c.draw.new.self in
    let said = c.in_default.ensures.drawn in
    let up : past new ≡ c.in_default.field-0 + 1 = ap past said.2 ∙ past-snoc old c.in_default.field-0 said.1 in
    measure_less (g.Q.Purse.budget c.draw.new.self - past new) (g.Q.Purse.budget c.search.purse - past old) v (unset w)
    (unset (g.P.Propagator.trail c.search.inner).values.items) (omega (arith, said.0, said.1, up, c.in_default.ensures.budget)) le

pub search-preserved-in-Some : goal.search-preserved-in-Some
search-preserved-in-Some g c =
    let first = c.args.inner.now in
    let old = c.search.inner in
    let mid = c.propagate.new.self in
    let new = c.follow.new.inner in
    let assumptions = c.args.assumptions.now in
    let vars = length (g.P.Propagator.trail first).values.items in
    let t = g.P.Propagator.trail mid in
    let cs = g.P.Propagator.clauses mid in
    let cs' = g.P.Propagator.clauses new in
    let u = g.P.Propagator.trail new in
    let same : length t.values.items ≡ vars = c.in_ok-k.ensures.extends.vars ∙ c.search.invariant.vars in
    let levels = levels_went (g.P.Propagator.trail old) t (g.P.Propagator.clauses old) cs assumptions c.search.invariant.levels c.in_ok-k.ensures.extends c.in_ok-k.ensures.clauses_kept in
    let L : List (List Lit) → Type 0 = GrowsByLearning vars assumptions (g.P.Propagator.clauses first) in
    let learned : L cs = subst L (sym c.in_ok-k.ensures.clauses_kept) c.search.invariant.learned in
    let S : ℕ → Type 0 = λ n. LearnSays n cs t.literals.items t.level_starts.items cs' u.literals.items u.level_starts.items in
    let said : S vars = subst S same c.in_ok-follow-in-Some.ensures.done in
    let more = said.4 in
    let K : List (List Lit) → Type 0 = PaidFor (g.Q.Purse.tickets c.args.purse.now) (g.Q.Purse.tickets c.search.purse) (g.P.Propagator.clauses first) in
    let I : Trail → Type 0 = λ x. IsSeen x.literals.items assumptions c.still_seen-seen.result in
    record {
      known = c.in_ok-follow-in-Some.ensures.positives;
      learned = learnt_more vars assumptions t.literals.items t.level_starts.items (g.P.Propagator.clauses first) cs cs' u.literals.items u.level_starts.items learned
          (assumptions_first t cs assumptions (g.met.P.Propagator.based mid) levels) said;
      vars = c.in_ok-follow-in-Some.ensures.vars ∙ same;
      levels = level_after t cs cs' assumptions u.literals.items u.level_starts.items more.0 more.1 more.2 more.3 more.4 levels;
      seen = subst I c.assignment-in-Some.ensures (c.still_seen-seen.ensures t.literals.items assumptions (get_or t.level_starts.items more.0 0)
          (ap (λ (x : Trail). x.literals.items) c.assignment-in-Some.ensures ∙ more.2)
          (seen_went (g.P.Propagator.trail old).literals.items t.literals.items assumptions c.search.seen c.in_ok-k.ensures.extends.prefix c.search.invariant.seen));
      kept = g.met.Q.Purse.kept_trans c.args.purse.now c.search.purse c.draw.new.self c.search.invariant.kept c.in_default.ensures.kept;
      ready = c.in_default.ensures.ready;
      budget = c.in_default.ensures.budget ∙ c.search.invariant.budget;
      once = λ p.
          let zero : length t.level_starts.items ≡ 0 = ap length c.in_ok-k.ensures.extends.level_starts ∙ (c.search.invariant.once p).2 in
          absurd (omega (arith, c.if-len-eq0.false, c.len.ensures, c.assignment.result.now.level_starts.ok.0, ap (λ (x : Trail). length x.level_starts.items) c.assignment.ensures, zero));
      paid = paid_more (g.Q.Purse.tickets c.args.purse.now) (g.Q.Purse.tickets c.search.purse) (g.Q.Purse.tickets c.draw.new.self) c.in_default.field-0
          (g.P.Propagator.clauses first) cs cs' said.0 (subst K (sym c.in_ok-k.ensures.clauses_kept) c.search.invariant.paid) c.in_default.ensures.drawn.2 said.1;
    }

pub refute_or_choose-requires-clause-levels : goal.refute_or_choose-requires-clause-levels
refute_or_choose-requires-clause-levels g c =
    let old = c.search.inner in
    let new = c.propagate.new.self in
    levels_went (g.P.Propagator.trail old) (g.P.Propagator.trail new) (g.P.Propagator.clauses old) (g.P.Propagator.clauses new) c.args.assumptions.now
    c.search.invariant.levels c.in_ok-k.ensures.extends c.in_ok-k.ensures.clauses_kept

pub returns-in-Some-2-clause-says : goal.returns-in-Some-2-clause-says
returns-in-Some-2-clause-says g c =
    let h = rw c.in-Some-2.is at c.in_ok-e-in-None.ensures.says in
    h (g.Q.Purse.budget c.args.purse.now) (g.Q.Purse.spent c.search.purse)

pub returns-in_err-restart-clause-log : goal.returns-in_err-restart-clause-log
returns-in_err-restart-clause-log g c =
    turn_none (length (g.P.Propagator.trail c.args.inner.now).values.items) c.args.assumptions.now (g.P.Propagator.clauses c.args.inner.now) (g.P.Propagator.clauses c.restart.new.inner)
    (g.Q.Purse.tickets c.args.purse.now) (g.Q.Purse.tickets c.args.purse.now) c.restart.ensures.clauses refl

pub returns-in_err-k-clause-log : goal.returns-in_err-k-clause-log
returns-in_err-k-clause-log g c =
    let first = c.args.inner.now in
    let inv = c.search.invariant in
    turn_paid (length (g.P.Propagator.trail first).values.items) c.args.assumptions.now (g.P.Propagator.clauses first) (g.P.Propagator.clauses c.search.inner) (g.P.Propagator.clauses c.propagate.new.self)
    (g.Q.Purse.tickets c.args.purse.now) (g.Q.Purse.tickets c.search.purse) (g.Q.Purse.tickets c.search.purse) inv.learned inv.paid (c.in_err-k.ensures.clauses_kept) refl

pub returns-then-len-eq0-clause-log : goal.returns-then-len-eq0-clause-log
returns-then-len-eq0-clause-log g c =
    let first = c.args.inner.now in
    let inv = c.search.invariant in
    turn_paid (length (g.P.Propagator.trail first).values.items) c.args.assumptions.now (g.P.Propagator.clauses first) (g.P.Propagator.clauses c.search.inner) (g.P.Propagator.clauses c.propagate.new.self)
    (g.Q.Purse.tickets c.args.purse.now) (g.Q.Purse.tickets c.search.purse) (g.Q.Purse.tickets c.search.purse) inv.learned inv.paid (c.in_ok-k.ensures.clauses_kept) refl

pub returns-in_err-learned-in-Some-clause-log : goal.returns-in_err-learned-in-Some-clause-log
returns-in_err-learned-in-Some-clause-log g c =
    let first = c.args.inner.now in
    let inv = c.search.invariant in
    turn_paid (length (g.P.Propagator.trail first).values.items) c.args.assumptions.now (g.P.Propagator.clauses first) (g.P.Propagator.clauses c.search.inner) (g.P.Propagator.clauses c.propagate.new.self)
    (g.Q.Purse.tickets c.args.purse.now) (g.Q.Purse.tickets c.search.purse) (g.Q.Purse.tickets c.search.purse) inv.learned inv.paid (c.in_ok-k.ensures.clauses_kept) refl

pub returns-in-Spent-clause-log : goal.returns-in-Spent-clause-log
returns-in-Spent-clause-log g c =
    let first = c.args.inner.now in
    let inv = c.search.invariant in
    turn_paid (length (g.P.Propagator.trail first).values.items) c.args.assumptions.now (g.P.Propagator.clauses first) (g.P.Propagator.clauses c.search.inner) (g.P.Propagator.clauses c.propagate.new.self)
    (g.Q.Purse.tickets c.args.purse.now) (g.Q.Purse.tickets c.search.purse) (g.Q.Purse.tickets c.draw.new.self) inv.learned inv.paid (c.in_ok-k.ensures.clauses_kept) c.in-Spent.ensures.drawn.2

pub returns-in_err-e-in-None-clause-log : goal.returns-in_err-e-in-None-clause-log
returns-in_err-e-in-None-clause-log g c =
    let first = c.args.inner.now in
    let inv = c.search.invariant in
    turn_paid (length (g.P.Propagator.trail first).values.items) c.args.assumptions.now (g.P.Propagator.clauses first) (g.P.Propagator.clauses c.search.inner) (g.P.Propagator.clauses c.refute_or_choose.new.inner)
    (g.Q.Purse.tickets c.args.purse.now) (g.Q.Purse.tickets c.search.purse) (g.Q.Purse.tickets c.search.purse) inv.learned inv.paid (c.refute_or_choose.ensures.clauses ∙ c.in_ok-k.ensures.clauses_kept) refl

pub returns-in-Some-2-clause-log : goal.returns-in-Some-2-clause-log
returns-in-Some-2-clause-log g c =
    let first = c.args.inner.now in
    let inv = c.search.invariant in
    turn_paid (length (g.P.Propagator.trail first).values.items) c.args.assumptions.now (g.P.Propagator.clauses first) (g.P.Propagator.clauses c.search.inner) (g.P.Propagator.clauses c.refute_or_choose.new.inner)
    (g.Q.Purse.tickets c.args.purse.now) (g.Q.Purse.tickets c.search.purse) (g.Q.Purse.tickets c.search.purse) inv.learned inv.paid (c.refute_or_choose.ensures.clauses ∙ c.in_ok-k.ensures.clauses_kept) refl

pub returns-in_err-follow-in-Some-clause-log : goal.returns-in_err-follow-in-Some-clause-log
returns-in_err-follow-in-Some-clause-log g c =
    let first = c.args.inner.now in
    let old = c.search.inner in
    let mid = c.propagate.new.self in
    let inv = c.search.invariant in
    let assumptions = c.args.assumptions.now in
    let t = g.P.Propagator.trail mid in
    let cs = g.P.Propagator.clauses mid in
    let vars = length (g.P.Propagator.trail first).values.items in
    let same : length t.values.items ≡ vars = c.in_ok-k.ensures.extends.vars ∙ inv.vars in
    let levels = levels_went (g.P.Propagator.trail old) t (g.P.Propagator.clauses old) cs assumptions inv.levels c.in_ok-k.ensures.extends c.in_ok-k.ensures.clauses_kept in
    let x = c.in_ok-learned-in-Some.learned.clause.items in
    let W : ℕ → Type 0 = λ n. Within n x in
    let step : IsLearned vars assumptions cs x =
    is_learned vars assumptions cs (decided t.literals.items t.level_starts.items) x (subst W same c.in_ok-learned-in-Some.ensures.within)
    (assumptions_first t cs assumptions (g.met.P.Propagator.based mid) levels) c.in_ok-learned-in-Some.ensures.learned in
    let L : List (List Lit) → Type 0 = λ ys. IsLearned vars assumptions ys x in
    turn_lost vars assumptions (g.P.Propagator.clauses first) (g.P.Propagator.clauses old) (g.P.Propagator.clauses c.follow.new.inner)
    (g.Q.Purse.tickets c.args.purse.now) (g.Q.Purse.tickets c.search.purse) (g.Q.Purse.tickets c.draw.new.self) c.in_default.field-0 x inv.learned inv.paid
    (subst L c.in_ok-k.ensures.clauses_kept step) (c.in_err-follow-in-Some.ensures.failed ∙ c.in_ok-k.ensures.clauses_kept) c.in_default.ensures.drawn.2

pub refute_or_choose-requires-clause-seen : goal.refute_or_choose-requires-clause-seen
refute_or_choose-requires-clause-seen g c =
    seen_went (g.P.Propagator.trail c.search.inner).literals.items (g.P.Propagator.trail c.propagate.new.self).literals.items c.args.assumptions.now c.search.seen
    c.in_ok-k.ensures.extends.prefix c.search.invariant.seen

pub follow-requires-clause-rest : goal.follow-requires-clause-rest
follow-requires-clause-rest g c i li =
    let old = c.search.inner in
    let new = c.propagate.new.self in
    (levels_went (g.P.Propagator.trail old) (g.P.Propagator.trail new) (g.P.Propagator.clauses old) (g.P.Propagator.clauses new) c.args.assumptions.now
    c.search.invariant.levels c.in_ok-k.ensures.extends c.in_ok-k.ensures.clauses_kept i li).0

pub returns-in_err-k-clause-learned : goal.returns-in_err-k-clause-learned
returns-in_err-k-clause-learned g c =
    let first = c.args.inner.now in
    let P : List (List Lit) → Type 0 = GrowsByLearning (length (g.P.Propagator.trail first).values.items) c.args.assumptions.now (g.P.Propagator.clauses first) in
    subst P (sym (c.in_err-k.ensures.clauses_kept)) c.search.invariant.learned

pub returns-in_err-k-clause-vars : goal.returns-in_err-k-clause-vars
returns-in_err-k-clause-vars g c = c.in_err-k.ensures.extends.vars ∙ c.search.invariant.vars

pub returns-then-len-eq0-clause-learned : goal.returns-then-len-eq0-clause-learned
returns-then-len-eq0-clause-learned g c =
    let first = c.args.inner.now in
    let P : List (List Lit) → Type 0 = GrowsByLearning (length (g.P.Propagator.trail first).values.items) c.args.assumptions.now (g.P.Propagator.clauses first) in
    subst P (sym (c.in_ok-k.ensures.clauses_kept)) c.search.invariant.learned

pub returns-then-len-eq0-clause-vars : goal.returns-then-len-eq0-clause-vars
returns-then-len-eq0-clause-vars g c = c.in_ok-k.ensures.extends.vars ∙ c.search.invariant.vars

pub returns-in_err-learned-in-Some-clause-learned : goal.returns-in_err-learned-in-Some-clause-learned
returns-in_err-learned-in-Some-clause-learned g c =
    let first = c.args.inner.now in
    let P : List (List Lit) → Type 0 = GrowsByLearning (length (g.P.Propagator.trail first).values.items) c.args.assumptions.now (g.P.Propagator.clauses first) in
    subst P (sym (c.in_ok-k.ensures.clauses_kept)) c.search.invariant.learned

pub returns-in_err-learned-in-Some-clause-vars : goal.returns-in_err-learned-in-Some-clause-vars
returns-in_err-learned-in-Some-clause-vars g c = c.in_ok-k.ensures.extends.vars ∙ c.search.invariant.vars

pub returns-in-Spent-clause-learned : goal.returns-in-Spent-clause-learned
returns-in-Spent-clause-learned g c =
    let first = c.args.inner.now in
    let P : List (List Lit) → Type 0 = GrowsByLearning (length (g.P.Propagator.trail first).values.items) c.args.assumptions.now (g.P.Propagator.clauses first) in
    subst P (sym (c.in_ok-k.ensures.clauses_kept)) c.search.invariant.learned

pub returns-in-Spent-clause-vars : goal.returns-in-Spent-clause-vars
returns-in-Spent-clause-vars g c = c.in_ok-k.ensures.extends.vars ∙ c.search.invariant.vars

pub returns-then-len-eq0-clause-paid : goal.returns-then-len-eq0-clause-paid
returns-then-len-eq0-clause-paid g c =
    let P : List (List Lit) → Type 0 = PaidFor (g.Q.Purse.tickets c.args.purse.now) (g.Q.Purse.tickets c.search.purse) (g.P.Propagator.clauses c.args.inner.now) in
    subst P (sym (c.in_ok-k.ensures.clauses_kept)) c.search.invariant.paid

pub returns-in_err-follow-in-Some-clause-learned : goal.returns-in_err-follow-in-Some-clause-learned
returns-in_err-follow-in-Some-clause-learned g c =
    let first = c.args.inner.now in
    let P : List (List Lit) → Type 0 = GrowsByLearning (length (g.P.Propagator.trail first).values.items) c.args.assumptions.now (g.P.Propagator.clauses first) in
    subst P (sym (c.in_err-follow-in-Some.ensures.failed ∙ c.in_ok-k.ensures.clauses_kept)) c.search.invariant.learned

pub returns-in_err-follow-in-Some-clause-vars : goal.returns-in_err-follow-in-Some-clause-vars
returns-in_err-follow-in-Some-clause-vars g c = c.in_err-follow-in-Some.ensures.vars ∙ c.in_ok-k.ensures.extends.vars ∙ c.search.invariant.vars

pub returns-in_err-e-in-None-clause-learned : goal.returns-in_err-e-in-None-clause-learned
returns-in_err-e-in-None-clause-learned g c =
    let first = c.args.inner.now in
    let P : List (List Lit) → Type 0 = GrowsByLearning (length (g.P.Propagator.trail first).values.items) c.args.assumptions.now (g.P.Propagator.clauses first) in
    subst P (sym (c.refute_or_choose.ensures.clauses ∙ c.in_ok-k.ensures.clauses_kept)) c.search.invariant.learned

pub returns-in_err-e-in-None-clause-vars : goal.returns-in_err-e-in-None-clause-vars
returns-in_err-e-in-None-clause-vars g c = c.refute_or_choose.ensures.vars ∙ c.in_ok-k.ensures.extends.vars ∙ c.search.invariant.vars

pub returns-in-Some-2-clause-learned : goal.returns-in-Some-2-clause-learned
returns-in-Some-2-clause-learned g c =
    let first = c.args.inner.now in
    let P : List (List Lit) → Type 0 = GrowsByLearning (length (g.P.Propagator.trail first).values.items) c.args.assumptions.now (g.P.Propagator.clauses first) in
    subst P (sym (c.refute_or_choose.ensures.clauses ∙ c.in_ok-k.ensures.clauses_kept)) c.search.invariant.learned

pub returns-in-Some-2-clause-vars : goal.returns-in-Some-2-clause-vars
returns-in-Some-2-clause-vars g c = c.refute_or_choose.ensures.vars ∙ c.in_ok-k.ensures.extends.vars ∙ c.search.invariant.vars

pub returns-in-Some-2-clause-paid : goal.returns-in-Some-2-clause-paid
returns-in-Some-2-clause-paid g c =
    let P : List (List Lit) → Type 0 = PaidFor (g.Q.Purse.tickets c.args.purse.now) (g.Q.Purse.tickets c.search.purse) (g.P.Propagator.clauses c.args.inner.now) in
    subst P (sym (c.refute_or_choose.ensures.clauses ∙ c.in_ok-k.ensures.clauses_kept)) c.search.invariant.paid

pub search-preserved : goal.search-preserved
search-preserved g c =
    let first = c.args.inner.now in
    let inv = c.search.invariant in
    let said = c.in_ok-e-in-None.ensures in
    let same : g.P.Propagator.clauses c.refute_or_choose.new.inner ≡ g.P.Propagator.clauses c.search.inner = said.clauses ∙ c.in_ok-k.ensures.clauses_kept in
    let L : List (List Lit) → Type 0 = GrowsByLearning (length (g.P.Propagator.trail first).values.items) c.args.assumptions.now (g.P.Propagator.clauses first) in
    let K : List (List Lit) → Type 0 = PaidFor (g.Q.Purse.tickets c.args.purse.now) (g.Q.Purse.tickets c.search.purse) (g.P.Propagator.clauses first) in
    record {
      known = known_same (length (g.P.Propagator.trail c.search.inner).values.items) (length (g.P.Propagator.trail c.refute_or_choose.new.inner).values.items)
          c.search.positives (g.P.Propagator.clauses c.search.inner) (g.P.Propagator.clauses c.refute_or_choose.new.inner) inv.known (said.vars ∙ c.in_ok-k.ensures.extends.vars) same;
      learned = subst L (sym same) inv.learned;
      vars = said.vars ∙ c.in_ok-k.ensures.extends.vars ∙ inv.vars;
      levels = said.levels;
      seen = said.seen;
      kept = inv.kept;
      ready = inv.ready;
      budget = inv.budget;
      paid = subst K (sym same) inv.paid;
      once = λ p.
          let h = inv.once p in
          let zero : length (g.P.Propagator.trail c.propagate.new.self).level_starts.items ≡ 0 = ap length c.in_ok-k.ensures.extends.level_starts ∙ h.2 in
          let R : List (List Lit) → Type 0 = λ cs. IsRefutedAtOnce cs c.args.assumptions.now in
          let ends = rw c.in_default-2.is at said.at_once in
          absurd (ends zero (subst R (sym (c.in_ok-k.ensures.clauses_kept ∙ h.0)) p));
    }

pub returns-in_err-k-clause-at_once : goal.returns-in_err-k-clause-at_once
returns-in_err-k-clause-at_once g c p = let h = c.search.invariant.once p in (c.in_err-k.ensures.clauses_kept ∙ h.0, h.1, (let e = err_from_is_err_and c.from_residual-in_err-k.result c.from_residual-in_err-k.ensures.1 in rw e.1 tt))

pub returns-then-len-eq0-clause-at_once : goal.returns-then-len-eq0-clause-at_once
returns-then-len-eq0-clause-at_once g c p = let h = c.search.invariant.once p in (c.in_ok-k.ensures.clauses_kept ∙ h.0, h.1, tt)

pub returns-in_err-learned-in-Some-clause-at_once : goal.returns-in_err-learned-in-Some-clause-at_once
returns-in_err-learned-in-Some-clause-at_once g c p = let h = c.search.invariant.once p in (c.in_ok-k.ensures.clauses_kept ∙ h.0, h.1, (let e = err_from_is_err_and c.from_residual-in_err-learned-in-Some.result c.from_residual-in_err-learned-in-Some.ensures.1 in rw e.1 tt))

pub returns-in-Spent-clause-at_once : goal.returns-in-Spent-clause-at_once
returns-in-Spent-clause-at_once g c p =
    let zero : length (g.P.Propagator.trail c.propagate.new.self).level_starts.items ≡ 0 = ap length c.in_ok-k.ensures.extends.level_starts ∙ (c.search.invariant.once p).2 in
    absurd (omega (arith, c.if-len-eq0.false, c.len.ensures, c.assignment.result.now.level_starts.ok.0, ap (λ (x : Trail). length x.level_starts.items) c.assignment.ensures, zero))

pub returns-in_err-follow-in-Some-clause-at_once : goal.returns-in_err-follow-in-Some-clause-at_once
returns-in_err-follow-in-Some-clause-at_once g c p =
    let zero : length (g.P.Propagator.trail c.propagate.new.self).level_starts.items ≡ 0 = ap length c.in_ok-k.ensures.extends.level_starts ∙ (c.search.invariant.once p).2 in
    absurd (omega (arith, c.if-len-eq0.false, c.len.ensures, c.assignment.result.now.level_starts.ok.0, ap (λ (x : Trail). length x.level_starts.items) c.assignment.ensures, zero))

pub returns-in_err-e-in-None-clause-at_once : goal.returns-in_err-e-in-None-clause-at_once
returns-in_err-e-in-None-clause-at_once g c p =
    let h = c.search.invariant.once p in (c.refute_or_choose.ensures.clauses ∙ c.in_ok-k.ensures.clauses_kept ∙ h.0, h.1, (let e = err_from_is_err_and c.from_residual-in_err-e-in-None.result c.from_residual-in_err-e-in-None.ensures.1 in rw e.1 tt))

pub returns-in-Some-2-clause-at_once : goal.returns-in-Some-2-clause-at_once
returns-in-Some-2-clause-at_once g c p =
    let h = c.search.invariant.once p in
    let zero : length (g.P.Propagator.trail c.propagate.new.self).level_starts.items ≡ 0 = ap length c.in_ok-k.ensures.extends.level_starts ∙ h.2 in
    let same = c.in_ok-k.ensures.clauses_kept ∙ h.0 in
    let R : List (List Lit) → Type 0 = λ cs. IsRefutedAtOnce cs c.args.assumptions.now in
    let ends = rw c.in-Some-2.is at c.in_ok-e-in-None.ensures.at_once in
    (c.refute_or_choose.ensures.clauses ∙ same, h.1, ends zero (subst R (sym same) p))

pub returns-in_err-restart-clause-positives : goal.returns-in_err-restart-clause-positives
returns-in_err-restart-clause-positives g c =
    known_same (length (g.P.Propagator.trail c.args.inner.now).values.items) (length (g.P.Propagator.trail c.restart.new.inner).values.items) c.args.positives.now
    (g.P.Propagator.clauses c.args.inner.now) (g.P.Propagator.clauses c.restart.new.inner) c.requires.positives c.restart.ensures.vars c.restart.ensures.clauses

pub returns-in_err-k-clause-positives : goal.returns-in_err-k-clause-positives
returns-in_err-k-clause-positives g c =
    known_same (length (g.P.Propagator.trail c.search.inner).values.items) (length (g.P.Propagator.trail c.propagate.new.self).values.items) c.search.positives
    (g.P.Propagator.clauses c.search.inner) (g.P.Propagator.clauses c.propagate.new.self) c.search.invariant.known c.in_err-k.ensures.extends.vars c.in_err-k.ensures.clauses_kept

pub returns-then-len-eq0-clause-positives : goal.returns-then-len-eq0-clause-positives
returns-then-len-eq0-clause-positives g c =
    known_same (length (g.P.Propagator.trail c.search.inner).values.items) (length (g.P.Propagator.trail c.propagate.new.self).values.items) c.search.positives
    (g.P.Propagator.clauses c.search.inner) (g.P.Propagator.clauses c.propagate.new.self) c.search.invariant.known c.in_ok-k.ensures.extends.vars c.in_ok-k.ensures.clauses_kept

pub returns-in_err-learned-in-Some-clause-positives : goal.returns-in_err-learned-in-Some-clause-positives
returns-in_err-learned-in-Some-clause-positives g c =
    known_same (length (g.P.Propagator.trail c.search.inner).values.items) (length (g.P.Propagator.trail c.propagate.new.self).values.items) c.search.positives
    (g.P.Propagator.clauses c.search.inner) (g.P.Propagator.clauses c.propagate.new.self) c.search.invariant.known c.in_ok-k.ensures.extends.vars c.in_ok-k.ensures.clauses_kept

pub returns-in-Spent-clause-positives : goal.returns-in-Spent-clause-positives
returns-in-Spent-clause-positives g c =
    known_same (length (g.P.Propagator.trail c.search.inner).values.items) (length (g.P.Propagator.trail c.propagate.new.self).values.items) c.search.positives
    (g.P.Propagator.clauses c.search.inner) (g.P.Propagator.clauses c.propagate.new.self) c.search.invariant.known c.in_ok-k.ensures.extends.vars c.in_ok-k.ensures.clauses_kept

pub follow-requires-clause-positives : goal.follow-requires-clause-positives
follow-requires-clause-positives g c =
    known_same (length (g.P.Propagator.trail c.search.inner).values.items) (length (g.P.Propagator.trail c.propagate.new.self).values.items) c.search.positives
    (g.P.Propagator.clauses c.search.inner) (g.P.Propagator.clauses c.propagate.new.self) c.search.invariant.known c.in_ok-k.ensures.extends.vars c.in_ok-k.ensures.clauses_kept

pub refute_or_choose-requires-clause-positives : goal.refute_or_choose-requires-clause-positives
refute_or_choose-requires-clause-positives g c =
    known_same (length (g.P.Propagator.trail c.search.inner).values.items) (length (g.P.Propagator.trail c.propagate.new.self).values.items) c.search.positives
    (g.P.Propagator.clauses c.search.inner) (g.P.Propagator.clauses c.propagate.new.self) c.search.invariant.known c.in_ok-k.ensures.extends.vars c.in_ok-k.ensures.clauses_kept

pub returns-in_err-e-in-None-clause-positives : goal.returns-in_err-e-in-None-clause-positives
returns-in_err-e-in-None-clause-positives g c =
    known_same (length (g.P.Propagator.trail c.search.inner).values.items) (length (g.P.Propagator.trail c.refute_or_choose.new.inner).values.items) c.search.positives
    (g.P.Propagator.clauses c.search.inner) (g.P.Propagator.clauses c.refute_or_choose.new.inner) c.search.invariant.known (c.refute_or_choose.ensures.vars ∙ c.in_ok-k.ensures.extends.vars) (c.refute_or_choose.ensures.clauses ∙ c.in_ok-k.ensures.clauses_kept)

pub returns-in-Some-2-clause-positives : goal.returns-in-Some-2-clause-positives
returns-in-Some-2-clause-positives g c =
    known_same (length (g.P.Propagator.trail c.search.inner).values.items) (length (g.P.Propagator.trail c.refute_or_choose.new.inner).values.items) c.search.positives
    (g.P.Propagator.clauses c.search.inner) (g.P.Propagator.clauses c.refute_or_choose.new.inner) c.search.invariant.known (c.refute_or_choose.ensures.vars ∙ c.in_ok-k.ensures.extends.vars) (c.refute_or_choose.ensures.clauses ∙ c.in_ok-k.ensures.clauses_kept)
