use Rattle.std.proofs.Common.{◌≡◌, ◌≤◌, ◌+◌, ◌++◌, ◌∙◌, Option, ℕ, List, length, refl, sym, ap, subst}
use Rattle.std.proofs.lemmas.Result.{IfOk-from_err, IfOk-weaker}
use Rattle.clause_core.specs.declared.literal.Lit.{Lit}
use Rattle.clause_core.specs.Literals.{Within}
use Rattle.frame_core.specs.Facts.{IsPart, IsProved}
use Rattle.frame_core.specs.FrameLaw.{system_at}
use Rattle.frame_solver.specs.Engines.{known_of}
use Rattle.frame_query.specs.Trying.{proof_of, IsSame, PaysFor, Tries, HintMovesBy, TurnSays}
use Rattle.frame_query.proofs.Walked.{IsLess, hint_kept, hint_candidate, hint_best, within_part, nothing_new, all_new, hint_less, hint_says}
use Rattle.frame_query.proofs.dropping.hint_turn.Goals as goal

pub returns-in_err-left-clause-pays : goal.returns-in_err-left-clause-pays
returns-in_err-left-clause-pays g c =
    let old = c.args.walk.now in (
      old.kept.items,
      hint_kept (system_at c.args.systems.now 0) c.args.lemmas.now c.args.given.now old c.args.l c.requires.going c.requires.fits,
      nothing_new c.args.systems.now c.args.lemmas.now (known_of c.args.steps.now c.args.states.now) _ c.args.given.now.level old.failed old.kept.items,
      IfOk-from_err c.from_residual.result _ c.from_residual.ensures.0,
    )

pub returns-in_err-candidate-clause-pays : goal.returns-in_err-candidate-clause-pays
returns-in_err-candidate-clause-pays g c =
    let old = c.args.walk.now in (
      old.kept.items,
      hint_kept (system_at c.args.systems.now 0) c.args.lemmas.now c.args.given.now old c.args.l c.requires.going c.requires.fits,
      nothing_new c.args.systems.now c.args.lemmas.now (known_of c.args.steps.now c.args.states.now) _ c.args.given.now.level old.failed old.kept.items,
      IfOk-from_err c.from_residual-in_err-candidate.result _ c.from_residual-in_err-candidate.ensures.0,
    )

pub attempt-requires-clause-draft : goal.attempt-requires-clause-draft
attempt-requires-clause-draft g c =
    let P : ℕ → Type 0 = λ k. IsProved (proof_of (system_at c.args.systems.now 0) k c.args.walk.now.draft) in
    subst P (sym c.level-level.ensures) c.requires.going.way.proved

pub attempt-requires-clause-part : goal.attempt-requires-clause-part
attempt-requires-clause-part g c =
    let sys = system_at c.args.systems.now 0 in
    let lemmas = c.args.lemmas.now in
    let given = c.args.given.now in
    let old = c.args.walk.now in
    let kept = old.kept.items in
    let l = c.args.l in
    let left = c.in_ok-left.left.items in
    let R : List Lit → Type 0 = λ xs. IsPart left xs in
    let N : List Lit → Type 0 = λ xs. length left ≤ length xs in
    let o : IsLess old.rest.items l left = hint_less old l c.requires.fits left (subst R c.deref.ensures.value c.in_ok-left.ensures.only)
    (subst R c.deref-2.ensures.value c.in_ok-left.ensures.inside) (subst N c.deref.ensures.value c.in_ok-left.ensures.fewer) in
    let is : c.deref-5.result.now ≡ kept ++ left =
    c.deref-5.ensures.value ∙ c.in_ok-candidate.ensures ∙ ap (λ xs. xs ++ c.deref-4.result.now) c.deref-3.ensures.value ∙ ap (λ xs. kept ++ xs) c.deref-4.ensures.value in
    let P : List Lit → Type 0 = λ xs. IsPart xs old.draft.clause.items in
    subst P (sym is) (hint_best sys lemmas given old l c.requires.going c.requires.fits left o)

pub attempt-requires-clause-within : goal.attempt-requires-clause-within
attempt-requires-clause-within g c =
    let sys = system_at c.args.systems.now 0 in
    let lemmas = c.args.lemmas.now in
    let given = c.args.given.now in
    let old = c.args.walk.now in
    let kept = old.kept.items in
    let l = c.args.l in
    let left = c.in_ok-left.left.items in
    let R : List Lit → Type 0 = λ xs. IsPart left xs in
    let N : List Lit → Type 0 = λ xs. length left ≤ length xs in
    let o : IsLess old.rest.items l left = hint_less old l c.requires.fits left (subst R c.deref.ensures.value c.in_ok-left.ensures.only)
    (subst R c.deref-2.ensures.value c.in_ok-left.ensures.inside) (subst N c.deref.ensures.value c.in_ok-left.ensures.fewer) in
    let is : c.deref-5.result.now ≡ kept ++ left =
    c.deref-5.ensures.value ∙ c.in_ok-candidate.ensures ∙ ap (λ xs. xs ++ c.deref-4.result.now) c.deref-3.ensures.value ∙ ap (λ xs. kept ++ xs) c.deref-4.ensures.value in
    let P : List Lit → Type 0 = Within sys.state_bits in
    subst P (sym is) (within_part sys.state_bits (kept ++ left) old.draft.clause.items (hint_best sys lemmas given old l c.requires.going c.requires.fits left o)
    c.requires.going.way.proved.within)

pub returns-in_err-trial-clause-pays : goal.returns-in_err-trial-clause-pays
returns-in_err-trial-clause-pays g c =
    let sys = system_at c.args.systems.now 0 in
    let lemmas = c.args.lemmas.now in
    let given = c.args.given.now in
    let old = c.args.walk.now in
    let kept = old.kept.items in
    let l = c.args.l in
    let left = c.in_ok-left.left.items in
    let R : List Lit → Type 0 = λ xs. IsPart left xs in
    let N : List Lit → Type 0 = λ xs. length left ≤ length xs in
    let o : IsLess old.rest.items l left = hint_less old l c.requires.fits left (subst R c.deref.ensures.value c.in_ok-left.ensures.only)
    (subst R c.deref-2.ensures.value c.in_ok-left.ensures.inside) (subst N c.deref.ensures.value c.in_ok-left.ensures.fewer) in
    let is : c.deref-5.result.now ≡ kept ++ left =
    c.deref-5.ensures.value ∙ c.in_ok-candidate.ensures ∙ ap (λ xs. xs ++ c.deref-4.result.now) c.deref-3.ensures.value ∙ ap (λ xs. kept ++ xs) c.deref-4.ensures.value in
    let L : ℕ → Type 0 = λ k. PaysFor c.args.systems.now lemmas (known_of c.args.steps.now c.args.states.now) (known_of c.attempt.new.steps c.attempt.new.states)
    (g.Q.Purse.tickets c.args.purse.now) (g.Q.Purse.tickets c.attempt.new.purse) k (kept ++ left) in
    let D : List Lit → Type 0 = λ xs. PaysFor c.args.systems.now lemmas (known_of c.args.steps.now c.args.states.now) (known_of c.attempt.new.steps c.attempt.new.states)
    (g.Q.Purse.tickets c.args.purse.now) (g.Q.Purse.tickets c.attempt.new.purse) c.level-level.result xs in
    let S : Option (List Lit) → Type 0 = λ f. IsSame f (kept ++ left) in
    let other : IsSame old.failed (kept ++ left) → ⊥ = λ same. subst S (c.requires.going.once c.requires.fits.some) same in
    let pays = all_new c.args.systems.now lemmas (known_of c.args.steps.now c.args.states.now) (known_of c.attempt.new.steps c.attempt.new.states)
    (g.Q.Purse.tickets c.args.purse.now) (g.Q.Purse.tickets c.attempt.new.purse) given.level old.failed (kept ++ left) other
    (subst L c.level-level.ensures (subst D is c.attempt.ensures.pays)) in (
      kept ++ left,
      hint_candidate sys lemmas given old l c.requires.going c.requires.fits left o,
      pays,
      IfOk-from_err c.from_residual-in_err-trial.result _ c.from_residual-in_err-trial.ensures.0,
    )

pub returns-clause-pays : goal.returns-clause-pays
returns-clause-pays g c =
    let sys = system_at c.args.systems.now 0 in
    let lemmas = c.args.lemmas.now in
    let given = c.args.given.now in
    let old = c.args.walk.now in
    let kept = old.kept.items in
    let l = c.args.l in
    let left = c.in_ok-left.left.items in
    let R : List Lit → Type 0 = λ xs. IsPart left xs in
    let N : List Lit → Type 0 = λ xs. length left ≤ length xs in
    let o : IsLess old.rest.items l left = hint_less old l c.requires.fits left (subst R c.deref.ensures.value c.in_ok-left.ensures.only)
    (subst R c.deref-2.ensures.value c.in_ok-left.ensures.inside) (subst N c.deref.ensures.value c.in_ok-left.ensures.fewer) in
    let is : c.deref-5.result.now ≡ kept ++ left =
    c.deref-5.ensures.value ∙ c.in_ok-candidate.ensures ∙ ap (λ xs. xs ++ c.deref-4.result.now) c.deref-3.ensures.value ∙ ap (λ xs. kept ++ xs) c.deref-4.ensures.value in
    let L : ℕ → Type 0 = λ k. PaysFor c.args.systems.now lemmas (known_of c.args.steps.now c.args.states.now) (known_of c.attempt.new.steps c.attempt.new.states)
    (g.Q.Purse.tickets c.args.purse.now) (g.Q.Purse.tickets c.attempt.new.purse) k (kept ++ left) in
    let D : List Lit → Type 0 = λ xs. PaysFor c.args.systems.now lemmas (known_of c.args.steps.now c.args.states.now) (known_of c.attempt.new.steps c.attempt.new.states)
    (g.Q.Purse.tickets c.args.purse.now) (g.Q.Purse.tickets c.attempt.new.purse) c.level-level.result xs in
    let S : Option (List Lit) → Type 0 = λ f. IsSame f (kept ++ left) in
    let other : IsSame old.failed (kept ++ left) → ⊥ = λ same. subst S (c.requires.going.once c.requires.fits.some) same in
    let pays = all_new c.args.systems.now lemmas (known_of c.args.steps.now c.args.states.now) (known_of c.attempt.new.steps c.attempt.new.states)
    (g.Q.Purse.tickets c.args.purse.now) (g.Q.Purse.tickets c.attempt.new.purse) given.level old.failed (kept ++ left) other
    (subst L c.level-level.ensures (subst D is c.attempt.ensures.pays)) in
    let budget = g.Q.Purse.budget c.args.purse.now in
    let over = g.Q.Purse.spent c.attempt.new.purse in
    let N : ℕ → Type 0 = λ k. Tries sys lemmas k old.draft.parents.items (kept ++ left) budget over c.in_ok-trial.trial in
    let T : List Lit → Type 0 = λ xs. Tries sys lemmas c.level-level.result old.draft.parents.items xs budget over c.in_ok-trial.trial in
    let size = length old.rest.items + length old.hint.items in
    let new = c.hint_moved.new.walk in (
      kept ++ left,
      hint_candidate sys lemmas given old l c.requires.going c.requires.fits left o,
      pays,
      IfOk-weaker c.hint_moved.result (HintMovesBy old c.deref-6.result.now c.in_ok-candidate.candidate.items c.in_ok-trial.trial new) (TurnSays sys lemmas given old new l (kept ++ left) size budget over)
          (λ t moves.
          let A : List Lit → Type 0 = λ xs. HintMovesBy old xs c.in_ok-candidate.candidate.items c.in_ok-trial.trial new t in
          let C : List Lit → Type 0 = λ xs. HintMovesBy old left xs c.in_ok-trial.trial new t in
          let cand = sym c.deref-5.ensures.value ∙ is in
          hint_says sys lemmas given old new l c.requires.going c.requires.fits left o budget over c.in_ok-trial.trial t
          (subst N c.level-level.ensures (subst T is c.in_ok-trial.ensures.tried)) (subst C cand (subst A c.deref-6.ensures.value moves)))
          c.hint_moved.ensures.moves,
    )

pub returns-in_err-left-clause-steps : goal.returns-in_err-left-clause-steps
returns-in_err-left-clause-steps g c = c.requires.steps

pub returns-in_err-left-clause-states : goal.returns-in_err-left-clause-states
returns-in_err-left-clause-states g c = c.requires.states

pub returns-in_err-left-clause-known : goal.returns-in_err-left-clause-known
returns-in_err-left-clause-known g c = refl

pub returns-in_err-left-clause-kept : goal.returns-in_err-left-clause-kept
returns-in_err-left-clause-kept g c = g.met.Q.Purse.kept_refl c.args.purse.now

pub returns-in_err-left-clause-ready : goal.returns-in_err-left-clause-ready
returns-in_err-left-clause-ready g c = c.requires.ready

pub returns-in_err-left-clause-budget : goal.returns-in_err-left-clause-budget
returns-in_err-left-clause-budget g c = refl

pub returns-in_err-candidate-clause-steps : goal.returns-in_err-candidate-clause-steps
returns-in_err-candidate-clause-steps g c = c.requires.steps

pub returns-in_err-candidate-clause-states : goal.returns-in_err-candidate-clause-states
returns-in_err-candidate-clause-states g c = c.requires.states

pub returns-in_err-candidate-clause-known : goal.returns-in_err-candidate-clause-known
returns-in_err-candidate-clause-known g c = refl

pub returns-in_err-candidate-clause-kept : goal.returns-in_err-candidate-clause-kept
returns-in_err-candidate-clause-kept g c = g.met.Q.Purse.kept_refl c.args.purse.now

pub returns-in_err-candidate-clause-ready : goal.returns-in_err-candidate-clause-ready
returns-in_err-candidate-clause-ready g c = c.requires.ready

pub returns-in_err-candidate-clause-budget : goal.returns-in_err-candidate-clause-budget
returns-in_err-candidate-clause-budget g c = refl

pub returns-in_err-trial-clause-steps : goal.returns-in_err-trial-clause-steps
returns-in_err-trial-clause-steps g c = c.attempt.ensures.steps

pub returns-in_err-trial-clause-states : goal.returns-in_err-trial-clause-states
returns-in_err-trial-clause-states g c = c.attempt.ensures.states

pub returns-in_err-trial-clause-known : goal.returns-in_err-trial-clause-known
returns-in_err-trial-clause-known g c = c.attempt.ensures.known

pub returns-in_err-trial-clause-kept : goal.returns-in_err-trial-clause-kept
returns-in_err-trial-clause-kept g c = c.attempt.ensures.kept

pub returns-in_err-trial-clause-ready : goal.returns-in_err-trial-clause-ready
returns-in_err-trial-clause-ready g c = c.attempt.ensures.ready

pub returns-in_err-trial-clause-budget : goal.returns-in_err-trial-clause-budget
returns-in_err-trial-clause-budget g c = c.attempt.ensures.budget

pub returns-clause-steps : goal.returns-clause-steps
returns-clause-steps g c = c.attempt.ensures.steps

pub returns-clause-states : goal.returns-clause-states
returns-clause-states g c = c.attempt.ensures.states

pub returns-clause-known : goal.returns-clause-known
returns-clause-known g c = c.attempt.ensures.known

pub returns-clause-kept : goal.returns-clause-kept
returns-clause-kept g c = c.attempt.ensures.kept

pub returns-clause-ready : goal.returns-clause-ready
returns-clause-ready g c = c.attempt.ensures.ready

pub returns-clause-budget : goal.returns-clause-budget
returns-clause-budget g c = c.attempt.ensures.budget

pub attempt-requires-clause-some : goal.attempt-requires-clause-some
attempt-requires-clause-some g c = c.requires.some

pub attempt-requires-clause-alike : goal.attempt-requires-clause-alike
attempt-requires-clause-alike g c = c.requires.alike

pub attempt-requires-clause-lemmas : goal.attempt-requires-clause-lemmas
attempt-requires-clause-lemmas g c = c.requires.lemmas

pub attempt-requires-clause-steps : goal.attempt-requires-clause-steps
attempt-requires-clause-steps g c = c.requires.steps

pub attempt-requires-clause-states : goal.attempt-requires-clause-states
attempt-requires-clause-states g c = c.requires.states

pub attempt-requires-clause-known : goal.attempt-requires-clause-known
attempt-requires-clause-known g c = c.requires.known

pub attempt-requires-clause-ready : goal.attempt-requires-clause-ready
attempt-requires-clause-ready g c = c.requires.ready
