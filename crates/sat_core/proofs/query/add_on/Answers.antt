use Rattle.std.proofs.Common.{◌≡◌, ◌++◌, ◌∷◌, [], Bool, true, List, ℕ, length, take, subst, sym, refl, ap, ◌∙◌, arith}
use Rattle.std.proofs.Math.Seq.{take-append_seam}
use Rattle.clause_core.specs.declared.literal.Lit.{Lit}
use Rattle.sat_core.specs.Queries.{given_of, learned_of}
use Rattle.sat_core.specs.Searching.{Keeps}
use Rattle.sat_core.proofs.Deciding.{within_marks, known_more, known_push}
use Rattle.sat_core.proofs.Origins.{given_push, learned_push, count_same, count_add}
use Rattle.sat_core.proofs.Results.{keeps_same, keeps_add, state_same}
use Rattle.sat_core.proofs.query.add_on.Goals as goal

pub returns-in_err-mark_learned-clause-keeps : goal.returns-in_err-mark_learned-clause-keeps
returns-in_err-mark_learned-clause-keeps g c =
    let old = c.args.inner.now in
    let new = c.restart.new.inner in
    let cs = g.P.Propagator.clauses old in
    let n : c.clause_count-n.result ≡ length cs = c.clause_count-n.ensures ∙ ap length c.restart.ensures.clauses in
    keeps_same (length (g.P.Propagator.trail old).values.items) (length (g.P.Propagator.trail new).values.items) c.args.marks.now.items
    c.mark_learned.new.marks.items cs (g.P.Propagator.clauses new) c.requires.keeps (omega (arith, n, c.mark_learned.ensures.len))
    (c.mark_learned.ensures.same cs (sym n)) c.restart.ensures.vars c.restart.ensures.clauses

pub returns-in_err-push-clause-keeps : goal.returns-in_err-push-clause-keeps
returns-in_err-push-clause-keeps g c =
    let old = c.args.inner.now in
    let new = c.restart.new.inner in
    let cs = g.P.Propagator.clauses old in
    let n : c.clause_count-n.result ≡ length cs = c.clause_count-n.ensures ∙ ap length c.restart.ensures.clauses in
    let v = length (g.P.Propagator.trail new).values.items in
    let K : List Bool → Type 0 = λ ms. Keeps v ms (g.P.Propagator.clauses new) in
    subst K (sym c.in_err-push.ensures.items)
    (keeps_same (length (g.P.Propagator.trail old).values.items) v c.args.marks.now.items
    c.mark_learned.new.marks.items cs (g.P.Propagator.clauses new) c.requires.keeps (omega (arith, n, c.mark_learned.ensures.len))
    (c.mark_learned.ensures.same cs (sym n)) c.restart.ensures.vars c.restart.ensures.clauses)

pub returns-in-Err-clause-keeps : goal.returns-in-Err-clause-keeps
returns-in-Err-clause-keeps g c =
    let old = c.args.inner.now in
    let new = c.add.new.self in
    let cs = g.P.Propagator.clauses old in
    let ms = c.mark_learned.new.marks.items in
    let n : c.clause_count-n.result ≡ length cs = c.clause_count-n.ensures ∙ ap length c.restart.ensures.clauses in
    let v = length (g.P.Propagator.trail new).values.items in
    let e : c.truncate.new.self.items ≡ ms =
    c.truncate.ensures.items ∙ ap (λ xs. take c.clause_count-n.result xs) c.in_ok-push.ensures.items
    ∙ ap (λ k. take k (ms ++ true ∷ [])) (sym c.in_ok-mark_learned.ensures.full) ∙ take-append_seam ms (true ∷ []) in
    let K : List Bool → Type 0 = λ xs. Keeps v xs (g.P.Propagator.clauses new) in
    subst K (sym e)
    (keeps_same (length (g.P.Propagator.trail old).values.items) v c.args.marks.now.items ms cs (g.P.Propagator.clauses new) c.requires.keeps
    (omega (arith, n, c.mark_learned.ensures.len)) (c.mark_learned.ensures.same cs (sym n)) (c.in-Err.ensures.vars ∙ c.restart.ensures.vars)
    (c.in-Err.ensures.failed ∙ c.restart.ensures.clauses))

pub returns-clause-keeps : goal.returns-clause-keeps
returns-clause-keeps g c =
    let old = c.args.inner.now in
    let new = c.add.new.self in
    let cs = g.P.Propagator.clauses old in
    let x = c.args.c.now in
    let ms = c.mark_learned.new.marks.items in
    let n : c.clause_count-n.result ≡ length cs = c.clause_count-n.ensures ∙ ap length c.restart.ensures.clauses in
    let v = length (g.P.Propagator.trail old).values.items in
    let full : length ms ≡ length cs = c.in_ok-mark_learned.ensures.full ∙ n in
    let first = keeps_same v v c.args.marks.now.items ms cs cs c.requires.keeps (omega (arith, full)) (c.mark_learned.ensures.same cs (sym n)) refl refl in
    let added = keeps_add v ms cs x first full in
    let grown : g.P.Propagator.clauses new ≡ cs ++ x ∷ [] = c.in_default.ensures.done ∙ ap (λ ys. ys ++ x ∷ []) c.restart.ensures.clauses in
    let C : List (List Lit) → Type 0 = λ ys. Keeps v (ms ++ true ∷ []) ys in
    let M : List Bool → Type 0 = λ xs. Keeps v xs (g.P.Propagator.clauses new) in
    let V : ℕ → Type 0 = λ k. Keeps k c.push.new.self.items (g.P.Propagator.clauses new) in
    subst V (sym (c.in_default.ensures.vars ∙ c.restart.ensures.vars)) (subst M (sym c.in_ok-push.ensures.items) (subst C (sym grown) added))

pub returns-clause-done : goal.returns-clause-done
returns-clause-done g c =
    let old = c.args.inner.now in
    let new = c.add.new.self in
    let cs = g.P.Propagator.clauses old in
    let x = c.args.c.now in
    let ms = c.mark_learned.new.marks.items in
    let all = ms ++ true ∷ [] in
    let cs' = g.P.Propagator.clauses new in
    let n : c.clause_count-n.result ≡ length cs = c.clause_count-n.ensures ∙ ap length c.restart.ensures.clauses in
    let full : length ms ≡ length cs = c.in_ok-mark_learned.ensures.full ∙ n in
    let same = c.mark_learned.ensures.same cs (sym n) in
    let grown : cs' ≡ cs ++ x ∷ [] = c.in_default.ensures.done ∙ ap (λ ys. ys ++ x ∷ []) c.restart.ensures.clauses in
    let marked : c.push.new.self.items ≡ all = c.in_ok-push.ensures.items in
    state_same (length (g.P.Propagator.trail new).values.items) (length (g.P.Propagator.trail old).values.items)
    (given_of c.push.new.self.items cs') (given_of c.args.marks.now.items cs ++ x ∷ [])
    (learned_of c.push.new.self.items cs') (learned_of c.args.marks.now.items cs)
    (c.in_default.ensures.vars ∙ c.restart.ensures.vars)
    (ap (λ m. given_of m cs') marked ∙ ap (given_of all) grown ∙ given_push ms cs x full ∙ ap (λ ys. ys ++ x ∷ []) same.0)
    (ap (λ m. learned_of m cs') marked ∙ ap (learned_of all) grown ∙ learned_push ms cs x full ∙ same.1)

pub returns-in_err-mark_learned-clause-count : goal.returns-in_err-mark_learned-clause-count
returns-in_err-mark_learned-clause-count g c =
    let cs = g.P.Propagator.clauses c.args.inner.now in
    let n : c.clause_count-n.result ≡ length cs = c.clause_count-n.ensures ∙ ap length c.restart.ensures.clauses in
    count_same c.args.given.now c.args.marks.now.items c.mark_learned.new.marks.items cs (g.P.Propagator.clauses c.restart.new.inner) c.requires.count
    (c.mark_learned.ensures.same cs (sym n)) c.restart.ensures.clauses

pub returns-in_err-push-clause-count : goal.returns-in_err-push-clause-count
returns-in_err-push-clause-count g c =
    let cs = g.P.Propagator.clauses c.args.inner.now in
    let new = g.P.Propagator.clauses c.restart.new.inner in
    let n : c.clause_count-n.result ≡ length cs = c.clause_count-n.ensures ∙ ap length c.restart.ensures.clauses in
    let K : List Bool → Type 0 = λ ms. c.args.given.now ≡ length (given_of ms new) in
    subst K (sym c.in_err-push.ensures.items)
    (count_same c.args.given.now c.args.marks.now.items c.mark_learned.new.marks.items cs new c.requires.count (c.mark_learned.ensures.same cs (sym n)) c.restart.ensures.clauses)

pub returns-in-Err-clause-count : goal.returns-in-Err-clause-count
returns-in-Err-clause-count g c =
    let cs = g.P.Propagator.clauses c.args.inner.now in
    let new = g.P.Propagator.clauses c.add.new.self in
    let ms = c.mark_learned.new.marks.items in
    let n : c.clause_count-n.result ≡ length cs = c.clause_count-n.ensures ∙ ap length c.restart.ensures.clauses in
    let e : c.truncate.new.self.items ≡ ms =
    c.truncate.ensures.items ∙ ap (λ xs. take c.clause_count-n.result xs) c.in_ok-push.ensures.items
    ∙ ap (λ k. take k (ms ++ true ∷ [])) (sym c.in_ok-mark_learned.ensures.full) ∙ take-append_seam ms (true ∷ []) in
    let K : List Bool → Type 0 = λ xs. c.args.given.now ≡ length (given_of xs new) in
    subst K (sym e)
    (count_same c.args.given.now c.args.marks.now.items ms cs new c.requires.count (c.mark_learned.ensures.same cs (sym n)) (c.in-Err.ensures.failed ∙ c.restart.ensures.clauses))

pub returns-clause-count : goal.returns-clause-count
returns-clause-count g c =
    let cs = g.P.Propagator.clauses c.args.inner.now in
    let new = g.P.Propagator.clauses c.add.new.self in
    let ms = c.mark_learned.new.marks.items in
    let n : c.clause_count-n.result ≡ length cs = c.clause_count-n.ensures ∙ ap length c.restart.ensures.clauses in
    let full : length ms ≡ length cs = c.in_ok-mark_learned.ensures.full ∙ n in
    let grown : new ≡ cs ++ c.args.c.now ∷ [] = c.in_default.ensures.done ∙ ap (λ ys. ys ++ c.args.c.now ∷ []) c.restart.ensures.clauses in
    count_add c.args.given.now c.args.marks.now.items ms c.push.new.self.items cs new c.args.c.now c.requires.count (c.mark_learned.ensures.same cs (sym n)) full grown c.in_ok-push.ensures.items

pub mark_positives-requires : goal.mark_positives-requires
mark_positives-requires g c =
    within_marks (length (g.P.Propagator.trail c.args.inner.now).values.items) c.args.positives.now (g.P.Propagator.clauses c.args.inner.now) c.args.c.now c.requires.positives c.requires.within

pub returns-in_err-mark_positives-clause-positives : goal.returns-in_err-mark_positives-clause-positives
returns-in_err-mark_positives-clause-positives g c =
    known_more (length (g.P.Propagator.trail c.args.inner.now).values.items) (length (g.P.Propagator.trail c.args.inner.now).values.items) c.args.positives.now c.mark_positives.new.positives
    (g.P.Propagator.clauses c.args.inner.now) (g.P.Propagator.clauses c.args.inner.now) c.requires.positives c.mark_positives.auto.positives c.mark_positives.ensures.kept refl refl

pub returns-in_err-restart-clause-positives : goal.returns-in_err-restart-clause-positives
returns-in_err-restart-clause-positives g c =
    known_more (length (g.P.Propagator.trail c.args.inner.now).values.items) (length (g.P.Propagator.trail c.restart.new.inner).values.items) c.args.positives.now c.mark_positives.new.positives
    (g.P.Propagator.clauses c.args.inner.now) (g.P.Propagator.clauses c.restart.new.inner) c.requires.positives c.mark_positives.auto.positives c.mark_positives.ensures.kept c.restart.ensures.vars c.restart.ensures.clauses

pub returns-in_err-mark_learned-clause-positives : goal.returns-in_err-mark_learned-clause-positives
returns-in_err-mark_learned-clause-positives g c =
    known_more (length (g.P.Propagator.trail c.args.inner.now).values.items) (length (g.P.Propagator.trail c.restart.new.inner).values.items) c.args.positives.now c.mark_positives.new.positives
    (g.P.Propagator.clauses c.args.inner.now) (g.P.Propagator.clauses c.restart.new.inner) c.requires.positives c.mark_positives.auto.positives c.mark_positives.ensures.kept c.restart.ensures.vars c.restart.ensures.clauses

pub returns-in_err-push-clause-positives : goal.returns-in_err-push-clause-positives
returns-in_err-push-clause-positives g c =
    known_more (length (g.P.Propagator.trail c.args.inner.now).values.items) (length (g.P.Propagator.trail c.restart.new.inner).values.items) c.args.positives.now c.mark_positives.new.positives
    (g.P.Propagator.clauses c.args.inner.now) (g.P.Propagator.clauses c.restart.new.inner) c.requires.positives c.mark_positives.auto.positives c.mark_positives.ensures.kept c.restart.ensures.vars c.restart.ensures.clauses

pub returns-in-Err-clause-positives : goal.returns-in-Err-clause-positives
returns-in-Err-clause-positives g c =
    known_more (length (g.P.Propagator.trail c.args.inner.now).values.items) (length (g.P.Propagator.trail c.add.new.self).values.items) c.args.positives.now c.mark_positives.new.positives
    (g.P.Propagator.clauses c.args.inner.now) (g.P.Propagator.clauses c.add.new.self) c.requires.positives c.mark_positives.auto.positives c.mark_positives.ensures.kept (c.in-Err.ensures.vars ∙ c.restart.ensures.vars) (c.in-Err.ensures.failed ∙ c.restart.ensures.clauses)

pub returns-clause-positives : goal.returns-clause-positives
returns-clause-positives g c =
    known_push (length (g.P.Propagator.trail c.args.inner.now).values.items) (length (g.P.Propagator.trail c.add.new.self).values.items) c.args.positives.now c.mark_positives.new.positives
    (g.P.Propagator.clauses c.args.inner.now) (g.P.Propagator.clauses c.add.new.self) c.args.c.now c.requires.positives c.mark_positives.auto.positives c.mark_positives.ensures.kept
    c.in_ok-mark_positives.ensures.done (c.in_default.ensures.vars ∙ c.restart.ensures.vars)
    (c.in_default.ensures.done ∙ ap (λ ys. ys ++ c.args.c.now ∷ []) c.restart.ensures.clauses)
