use Rattle.std.proofs.Common.{◌≡◌, List, [], ◌∷◌, ◌++◌, take, get_or, subst, sym, refl, ap, ℕ, length, ◌∙◌}
use Rattle.clause_core.specs.declared.literal.Lit.{Lit}
use Rattle.clause_core.specs.Literals.{Within}
use Rattle.sat_prop.specs.Trails.{AtRest}
use Rattle.sat_core.specs.Searching.{PerLevel, MarksPositives}
use Rattle.sat_prop.specs.Watches.{Watchable}
use Rattle.sat_core.proofs.Deciding.{within_marks, known_more, known_push}
use Rattle.sat_core.proofs.Learns.{rest_after, watchable_after}
use Rattle.sat_core.proofs.learn.follow.Goals as goal

pub returns-clause-done : goal.returns-clause-done
returns-clause-done g c =
    let t = g.P.Propagator.trail c.args.inner.now in
    let cs = g.P.Propagator.clauses c.args.inner.now in
    let literals = t.literals.items in
    let level_starts = t.level_starts.items in
    let n = c.args.learned.now.backjump_level in
    let x = c.args.learned.now.clause.items in
    let said = c.requires in
    let new = c.learn.new.self in
    let cs' = g.P.Propagator.clauses new in
    let literals' = (g.P.Propagator.trail new).literals.items in
    let level_starts' = (g.P.Propagator.trail new).level_starts.items in
    let grown : cs' ≡ cs ++ x ∷ [] = c.in_ok-learn.ensures.done ∙ ap (λ ys. ys ++ c.deref-2.result.now ∷ []) c.undo.ensures.clauses_kept ∙ ap (λ y. cs ++ y ∷ []) c.deref-2.ensures.value in
    let el : literals' ≡ take (get_or level_starts n 0) literals = c.in_ok-learn.ensures.literals ∙ c.undo.ensures.literals in
    let es : level_starts' ≡ take n level_starts = c.in_ok-learn.ensures.level_starts ∙ c.undo.ensures.level_starts in
    let rest = rest_after cs x literals level_starts n said.level_in t.rising t.in_trail c.requires.rest said.settled in
    let P : List (List Lit) → Type 0 = λ ys. PerLevel (λ low _. AtRest ys low) (take (get_or level_starts n 0) literals) (take n level_starts) in
    let Q : List Lit → Type 0 = λ ys. PerLevel (λ low _. AtRest cs' low) ys (take n level_starts) in
    let R : List ℕ → Type 0 = λ ys. PerLevel (λ low _. AtRest cs' low) literals' ys in
    (x, grown, said.within, said.learned, (n, said.level_in, el, es, subst R (sym es) (subst Q (sym el) (subst P (sym grown) rest))))

pub learn-requires-clause-watch : goal.learn-requires-clause-watch
learn-requires-clause-watch g c =
    let t = g.P.Propagator.trail c.args.inner.now in
    let literals = t.literals.items in
    let level_starts = t.level_starts.items in
    let n = c.args.learned.now.backjump_level in
    let w = c.args.learned.now.second_watch in
    let said = c.requires in
    let can = watchable_after t n c.args.learned.now.clause.items w said.level_in said.watch in
    let P : List Lit → Type 0 = λ x. Watchable x (take n level_starts) c.args.learned.now.clause.items w in
    let Q : List ℕ → Type 0 = λ x. Watchable (g.P.Propagator.trail c.undo.new.self).literals.items x c.args.learned.now.clause.items w in
    let R : List Lit → Type 0 = λ x. Watchable (g.P.Propagator.trail c.undo.new.self).literals.items (g.P.Propagator.trail c.undo.new.self).level_starts.items x w in
    subst R (sym c.deref-2.ensures.value) (subst Q (sym c.undo.ensures.level_starts) (subst P (sym c.undo.ensures.literals) can))

pub mark_positives-requires : goal.mark_positives-requires
mark_positives-requires g c =
    let W : List Lit → Type 0 = Within (length c.args.positives.now) in
    subst W (sym c.deref.ensures.value) (within_marks (length (g.P.Propagator.trail c.args.inner.now).values.items) c.args.positives.now (g.P.Propagator.clauses c.args.inner.now) c.args.learned.now.clause.items c.requires.positives c.requires.within)

pub returns-in_err-mark_positives-clause-positives : goal.returns-in_err-mark_positives-clause-positives
returns-in_err-mark_positives-clause-positives g c =
    known_more (length (g.P.Propagator.trail c.args.inner.now).values.items) (length (g.P.Propagator.trail c.args.inner.now).values.items) c.args.positives.now c.mark_positives.new.positives
    (g.P.Propagator.clauses c.args.inner.now) (g.P.Propagator.clauses c.args.inner.now) c.requires.positives c.mark_positives.auto.positives c.mark_positives.ensures.kept refl refl

pub returns-in_err-keep-clause-positives : goal.returns-in_err-keep-clause-positives
returns-in_err-keep-clause-positives g c =
    known_more (length (g.P.Propagator.trail c.args.inner.now).values.items) (length (g.P.Propagator.trail c.args.inner.now).values.items) c.args.positives.now c.mark_positives.new.positives
    (g.P.Propagator.clauses c.args.inner.now) (g.P.Propagator.clauses c.args.inner.now) c.requires.positives c.mark_positives.auto.positives c.mark_positives.ensures.kept refl refl

pub returns-in_err-learn-clause-positives : goal.returns-in_err-learn-clause-positives
returns-in_err-learn-clause-positives g c =
    known_more (length (g.P.Propagator.trail c.args.inner.now).values.items) (length (g.P.Propagator.trail c.learn.new.self).values.items) c.args.positives.now c.mark_positives.new.positives
    (g.P.Propagator.clauses c.args.inner.now) (g.P.Propagator.clauses c.learn.new.self) c.requires.positives c.mark_positives.auto.positives c.mark_positives.ensures.kept (c.learn.ensures.vars ∙ c.undo.ensures.vars) (c.in_err-learn.ensures.failed ∙ c.undo.ensures.clauses_kept)

pub returns-clause-positives : goal.returns-clause-positives
returns-clause-positives g c =
    let M : List Lit → Type 0 = MarksPositives c.mark_positives.new.positives in
    known_push (length (g.P.Propagator.trail c.args.inner.now).values.items) (length (g.P.Propagator.trail c.learn.new.self).values.items) c.args.positives.now c.mark_positives.new.positives
    (g.P.Propagator.clauses c.args.inner.now) (g.P.Propagator.clauses c.learn.new.self) c.args.learned.now.clause.items c.requires.positives c.mark_positives.auto.positives c.mark_positives.ensures.kept
    (subst M c.deref.ensures.value c.in_ok-mark_positives.ensures.done) (c.learn.ensures.vars ∙ c.undo.ensures.vars)
    (c.in_ok-learn.ensures.done ∙ ap (λ ys. ys ++ c.deref-2.result.now ∷ []) c.undo.ensures.clauses_kept ∙ ap (λ y. (g.P.Propagator.clauses c.args.inner.now) ++ y ∷ []) c.deref-2.ensures.value)
