use Rattle.std.proofs.Common.{◌≡◌, ◌+◌, ◌++◌, ◌∙◌, ℕ, List, length, refl, sym, ap, subst}
use Rattle.std.proofs.lemmas.Result.{IfOk-from_err, IfOk-weaker}
use Rattle.std.specs.Option.{IfSome}
use Rattle.clause_core.specs.declared.literal.Lit.{Lit}
use Rattle.clause_core.specs.Literals.{Within}
use Rattle.frame_core.specs.Facts.{IsPart, IsProved}
use Rattle.frame_core.specs.FrameLaw.{system_at}
use Rattle.frame_solver.specs.Engines.{known_of}
use Rattle.frame_query.specs.Dropping.{IsBroken}
use Rattle.frame_query.specs.Trying.{proof_of, IsOthers, PaysNew, Tries, MovesBy, TurnSays}
use Rattle.frame_query.proofs.Walked.{kept_candidate, is_candidate, candidate_best, within_part, others_less, nothing_new, turn_says}
use Rattle.frame_query.proofs.dropping.turn.Goals as goal

pub returns-in_err-left-clause-pays : goal.returns-in_err-left-clause-pays
returns-in_err-left-clause-pays g c =
    let sys = system_at c.args.systems.now 0 in
    let lemmas = c.args.lemmas.now in
    let given = c.args.given.now in
    let old = c.args.walk.now in
    let kept = old.kept.items in
    let l = c.args.l in (
      kept,
      kept_candidate sys lemmas given old.draft kept old.rest.items l c.requires.going.way,
      nothing_new c.args.systems.now lemmas (known_of c.args.steps.now c.args.states.now) _ given.level old.failed kept,
      IfOk-from_err c.from_residual.result _ c.from_residual.ensures.0,
    )

pub returns-in_err-candidate-clause-pays : goal.returns-in_err-candidate-clause-pays
returns-in_err-candidate-clause-pays g c =
    let sys = system_at c.args.systems.now 0 in
    let lemmas = c.args.lemmas.now in
    let given = c.args.given.now in
    let old = c.args.walk.now in
    let kept = old.kept.items in
    let l = c.args.l in (
      kept,
      kept_candidate sys lemmas given old.draft kept old.rest.items l c.requires.going.way,
      nothing_new c.args.systems.now lemmas (known_of c.args.steps.now c.args.states.now) _ given.level old.failed kept,
      IfOk-from_err c.from_residual-in_err-candidate.result _ c.from_residual-in_err-candidate.ensures.0,
    )

pub attempt_new-requires-clause-draft : goal.attempt_new-requires-clause-draft
attempt_new-requires-clause-draft g c =
    let P : ℕ → Type 0 = λ k. IsProved (proof_of (system_at c.args.systems.now 0) k c.args.walk.now.draft) in
    subst P (sym c.level-level.ensures) c.requires.going.way.proved

pub attempt_new-requires-clause-part : goal.attempt_new-requires-clause-part
attempt_new-requires-clause-part g c =
    let sys = system_at c.args.systems.now 0 in
    let lemmas = c.args.lemmas.now in
    let given = c.args.given.now in
    let old = c.args.walk.now in
    let kept = old.kept.items in
    let l = c.args.l in
    let O : List Lit → Type 0 = λ xs. IsOthers xs l c.in_ok-left.left.items in
    let o : IsOthers old.rest.items l c.in_ok-left.left.items = subst O c.deref.ensures.value c.in_ok-left.ensures in
    let is : c.deref-4.result.now ≡ kept ++ c.in_ok-left.left.items =
    c.deref-4.ensures.value ∙ c.in_ok-candidate.ensures ∙ ap (λ xs. xs ++ c.deref-3.result.now) c.deref-2.ensures.value ∙ ap (λ xs. kept ++ xs) c.deref-3.ensures.value in
    let P : List Lit → Type 0 = λ xs. IsPart xs old.draft.clause.items in
    subst P (sym is) (candidate_best sys lemmas given old.draft kept old.rest.items l c.requires.going.way c.in_ok-left.left.items (others_less old.rest.items l c.in_ok-left.left.items o))

pub attempt_new-requires-clause-within : goal.attempt_new-requires-clause-within
attempt_new-requires-clause-within g c =
    let sys = system_at c.args.systems.now 0 in
    let lemmas = c.args.lemmas.now in
    let given = c.args.given.now in
    let old = c.args.walk.now in
    let kept = old.kept.items in
    let l = c.args.l in
    let O : List Lit → Type 0 = λ xs. IsOthers xs l c.in_ok-left.left.items in
    let o : IsOthers old.rest.items l c.in_ok-left.left.items = subst O c.deref.ensures.value c.in_ok-left.ensures in
    let is : c.deref-4.result.now ≡ kept ++ c.in_ok-left.left.items =
    c.deref-4.ensures.value ∙ c.in_ok-candidate.ensures ∙ ap (λ xs. xs ++ c.deref-3.result.now) c.deref-2.ensures.value ∙ ap (λ xs. kept ++ xs) c.deref-3.ensures.value in
    let P : List Lit → Type 0 = Within sys.state_bits in
    subst P (sym is) (within_part sys.state_bits (kept ++ c.in_ok-left.left.items) old.draft.clause.items
    (candidate_best sys lemmas given old.draft kept old.rest.items l c.requires.going.way c.in_ok-left.left.items (others_less old.rest.items l c.in_ok-left.left.items o)) c.requires.going.way.proved.within)

pub returns-in_err-trial-clause-pays : goal.returns-in_err-trial-clause-pays
returns-in_err-trial-clause-pays g c =
    let sys = system_at c.args.systems.now 0 in
    let lemmas = c.args.lemmas.now in
    let given = c.args.given.now in
    let old = c.args.walk.now in
    let kept = old.kept.items in
    let l = c.args.l in
    let O : List Lit → Type 0 = λ xs. IsOthers xs l c.in_ok-left.left.items in
    let o : IsOthers old.rest.items l c.in_ok-left.left.items = subst O c.deref.ensures.value c.in_ok-left.ensures in
    let is : c.deref-4.result.now ≡ kept ++ c.in_ok-left.left.items =
    c.deref-4.ensures.value ∙ c.in_ok-candidate.ensures ∙ ap (λ xs. xs ++ c.deref-3.result.now) c.deref-2.ensures.value ∙ ap (λ xs. kept ++ xs) c.deref-3.ensures.value in
    let L : ℕ → Type 0 = λ k. PaysNew c.args.systems.now lemmas (known_of c.args.steps.now c.args.states.now) (known_of c.attempt_new.new.steps c.attempt_new.new.states)
    (g.Q.Purse.tickets c.args.purse.now) (g.Q.Purse.tickets c.attempt_new.new.purse) k old.failed (kept ++ c.in_ok-left.left.items) in
    let D : List Lit → Type 0 = λ xs. PaysNew c.args.systems.now lemmas (known_of c.args.steps.now c.args.states.now) (known_of c.attempt_new.new.steps c.attempt_new.new.states)
    (g.Q.Purse.tickets c.args.purse.now) (g.Q.Purse.tickets c.attempt_new.new.purse) c.level-level.result old.failed xs in
    let pays = subst L c.level-level.ensures (subst D is c.attempt_new.ensures.pays) in (
      kept ++ c.in_ok-left.left.items,
      is_candidate sys lemmas given old.draft kept old.rest.items l c.requires.going.way c.in_ok-left.left.items (others_less old.rest.items l c.in_ok-left.left.items o),
      pays,
      IfOk-from_err c.from_residual-in_err-trial.result _ c.from_residual-in_err-trial.ensures.0,
    )

pub returns-clause-pays : goal.returns-clause-pays
returns-clause-pays g c =
    let sys = system_at c.args.systems.now 0 in
    let lemmas = c.args.lemmas.now in
    let given = c.args.given.now in
    let old = c.args.walk.now in
    let kept = old.kept.items in
    let l = c.args.l in
    let O : List Lit → Type 0 = λ xs. IsOthers xs l c.in_ok-left.left.items in
    let o : IsOthers old.rest.items l c.in_ok-left.left.items = subst O c.deref.ensures.value c.in_ok-left.ensures in
    let is : c.deref-4.result.now ≡ kept ++ c.in_ok-left.left.items =
    c.deref-4.ensures.value ∙ c.in_ok-candidate.ensures ∙ ap (λ xs. xs ++ c.deref-3.result.now) c.deref-2.ensures.value ∙ ap (λ xs. kept ++ xs) c.deref-3.ensures.value in
    let L : ℕ → Type 0 = λ k. PaysNew c.args.systems.now lemmas (known_of c.args.steps.now c.args.states.now) (known_of c.attempt_new.new.steps c.attempt_new.new.states)
    (g.Q.Purse.tickets c.args.purse.now) (g.Q.Purse.tickets c.attempt_new.new.purse) k old.failed (kept ++ c.in_ok-left.left.items) in
    let D : List Lit → Type 0 = λ xs. PaysNew c.args.systems.now lemmas (known_of c.args.steps.now c.args.states.now) (known_of c.attempt_new.new.steps c.attempt_new.new.states)
    (g.Q.Purse.tickets c.args.purse.now) (g.Q.Purse.tickets c.attempt_new.new.purse) c.level-level.result old.failed xs in
    let pays = subst L c.level-level.ensures (subst D is c.attempt_new.ensures.pays) in
    let left = c.in_ok-left.left.items in
    let budget = g.Q.Purse.budget c.args.purse.now in
    let over = g.Q.Purse.spent c.attempt_new.new.purse in
    let N : ℕ → Type 0 = λ k. Tries sys lemmas k old.draft.parents.items (kept ++ left) budget over c.in_ok-trial.trial in
    let T : List Lit → Type 0 = λ xs. Tries sys lemmas c.level-level.result old.draft.parents.items xs budget over c.in_ok-trial.trial in (
      kept ++ left,
      is_candidate sys lemmas given old.draft kept old.rest.items l c.requires.going.way left (others_less old.rest.items l left o),
      pays,
      IfOk-weaker c.moved.result (MovesBy old l left c.in_ok-trial.trial c.moved.new.walk) (TurnSays sys lemmas given old c.moved.new.walk l (kept ++ left) (length old.rest.items + 1 + length old.hint.items) budget over)
          (λ t moves. turn_says sys lemmas given old c.moved.new.walk l c.requires.going left o budget over c.in_ok-trial.trial t
          (subst N c.level-level.ensures (subst T is c.in_ok-trial.ensures.tried)) moves)
          c.moved.ensures.moves,
    )

pub attempt_new-requires-clause-failed : goal.attempt_new-requires-clause-failed
attempt_new-requires-clause-failed g c =
    let P : ℕ → Type 0 = λ k. IfSome c.args.walk.now.failed (IsBroken (system_at c.args.systems.now 0) c.args.lemmas.now k) in
    subst P (sym c.level-level.ensures) c.requires.going.fell

pub returns-in_err-left-clause-steps : goal.returns-in_err-left-clause-steps
returns-in_err-left-clause-steps g c = c.requires.steps

pub returns-in_err-left-clause-states : goal.returns-in_err-left-clause-states
returns-in_err-left-clause-states g c = c.requires.states

pub returns-in_err-left-clause-known : goal.returns-in_err-left-clause-known
returns-in_err-left-clause-known g c = refl

pub returns-in_err-left-clause-kept : goal.returns-in_err-left-clause-kept
returns-in_err-left-clause-kept g c = g.met.Q.Purse.kept_refl c.args.purse.now

pub returns-in_err-left-clause-ready : goal.returns-in_err-left-clause-ready
returns-in_err-left-clause-ready g c = c.requires.ready

pub returns-in_err-left-clause-budget : goal.returns-in_err-left-clause-budget
returns-in_err-left-clause-budget g c = refl

pub returns-in_err-candidate-clause-steps : goal.returns-in_err-candidate-clause-steps
returns-in_err-candidate-clause-steps g c = c.requires.steps

pub returns-in_err-candidate-clause-states : goal.returns-in_err-candidate-clause-states
returns-in_err-candidate-clause-states g c = c.requires.states

pub returns-in_err-candidate-clause-known : goal.returns-in_err-candidate-clause-known
returns-in_err-candidate-clause-known g c = refl

pub returns-in_err-candidate-clause-kept : goal.returns-in_err-candidate-clause-kept
returns-in_err-candidate-clause-kept g c = g.met.Q.Purse.kept_refl c.args.purse.now

pub returns-in_err-candidate-clause-ready : goal.returns-in_err-candidate-clause-ready
returns-in_err-candidate-clause-ready g c = c.requires.ready

pub returns-in_err-candidate-clause-budget : goal.returns-in_err-candidate-clause-budget
returns-in_err-candidate-clause-budget g c = refl

pub returns-in_err-trial-clause-steps : goal.returns-in_err-trial-clause-steps
returns-in_err-trial-clause-steps g c = c.attempt_new.ensures.steps

pub returns-in_err-trial-clause-states : goal.returns-in_err-trial-clause-states
returns-in_err-trial-clause-states g c = c.attempt_new.ensures.states

pub returns-in_err-trial-clause-known : goal.returns-in_err-trial-clause-known
returns-in_err-trial-clause-known g c = c.attempt_new.ensures.known

pub returns-in_err-trial-clause-kept : goal.returns-in_err-trial-clause-kept
returns-in_err-trial-clause-kept g c = c.attempt_new.ensures.kept

pub returns-in_err-trial-clause-ready : goal.returns-in_err-trial-clause-ready
returns-in_err-trial-clause-ready g c = c.attempt_new.ensures.ready

pub returns-in_err-trial-clause-budget : goal.returns-in_err-trial-clause-budget
returns-in_err-trial-clause-budget g c = c.attempt_new.ensures.budget

pub returns-clause-steps : goal.returns-clause-steps
returns-clause-steps g c = c.attempt_new.ensures.steps

pub returns-clause-states : goal.returns-clause-states
returns-clause-states g c = c.attempt_new.ensures.states

pub returns-clause-known : goal.returns-clause-known
returns-clause-known g c = c.attempt_new.ensures.known

pub returns-clause-kept : goal.returns-clause-kept
returns-clause-kept g c = c.attempt_new.ensures.kept

pub returns-clause-ready : goal.returns-clause-ready
returns-clause-ready g c = c.attempt_new.ensures.ready

pub returns-clause-budget : goal.returns-clause-budget
returns-clause-budget g c = c.attempt_new.ensures.budget

pub attempt_new-requires-clause-some : goal.attempt_new-requires-clause-some
attempt_new-requires-clause-some g c = c.requires.some

pub attempt_new-requires-clause-alike : goal.attempt_new-requires-clause-alike
attempt_new-requires-clause-alike g c = c.requires.alike

pub attempt_new-requires-clause-lemmas : goal.attempt_new-requires-clause-lemmas
attempt_new-requires-clause-lemmas g c = c.requires.lemmas

pub attempt_new-requires-clause-steps : goal.attempt_new-requires-clause-steps
attempt_new-requires-clause-steps g c = c.requires.steps

pub attempt_new-requires-clause-states : goal.attempt_new-requires-clause-states
attempt_new-requires-clause-states g c = c.requires.states

pub attempt_new-requires-clause-known : goal.attempt_new-requires-clause-known
attempt_new-requires-clause-known g c = c.requires.known

pub attempt_new-requires-clause-ready : goal.attempt_new-requires-clause-ready
attempt_new-requires-clause-ready g c = c.requires.ready
