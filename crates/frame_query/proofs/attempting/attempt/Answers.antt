use Rattle.std.proofs.Common.{◌∙◌, ℕ, subst}
use Rattle.std.specs.Result.{IfOk}
use Rattle.frame_core.specs.FrameLaw.{system_at}
use Rattle.frame_solver.specs.Paying.{Firsts, Steps}
use Rattle.frame_query.specs.Trying.{Tries}
use Rattle.frame_solver.proofs.Paid.{one_left, one_right}
use Rattle.frame_query.proofs.Tried.{paid_first, paid_both}
use Rattle.frame_query.proofs.attempting.attempt.Goals as goal

pub returns-in_err-firsts_of-clause-pays : goal.returns-in_err-firsts_of-clause-pays
returns-in_err-firsts_of-clause-pays g c =
    paid_first c.args.systems.now c.args.lemmas.now c.args.level c.args.clause.now _ _ _ _
    (one_right c.args.systems.now c.args.lemmas.now c.args.states.now.solver.learned c.firsts_of.new.engine.solver.learned c.args.steps.now.solver.learned _ _
    (Firsts c.args.clause.now) c.firsts_of.ensures.pays)

pub returns-in-First-clause-pays : goal.returns-in-First-clause-pays
returns-in-First-clause-pays g c =
    paid_first c.args.systems.now c.args.lemmas.now c.args.level c.args.clause.now _ _ _ _
    (one_right c.args.systems.now c.args.lemmas.now c.args.states.now.solver.learned c.firsts_of.new.engine.solver.learned c.args.steps.now.solver.learned _ _
    (Firsts c.args.clause.now) c.firsts_of.ensures.pays)

pub returns-in-Spent-clause-pays : goal.returns-in-Spent-clause-pays
returns-in-Spent-clause-pays g c =
    paid_first c.args.systems.now c.args.lemmas.now c.args.level c.args.clause.now _ _ _ _
    (one_right c.args.systems.now c.args.lemmas.now c.args.states.now.solver.learned c.firsts_of.new.engine.solver.learned c.args.steps.now.solver.learned _ _
    (Firsts c.args.clause.now) c.firsts_of.ensures.pays)

pub returns-clause-pays : goal.returns-clause-pays
returns-clause-pays g c =
    let systems = c.args.systems.now in
    let lemmas = c.args.lemmas.now in
    paid_both systems lemmas c.args.level c.args.clause.now _ _ _ _ (g.Q.Purse.tickets c.firsts_of.new.purse) _
    (one_right systems lemmas c.args.states.now.solver.learned c.firsts_of.new.engine.solver.learned c.args.steps.now.solver.learned _ _
    (Firsts c.args.clause.now) c.firsts_of.ensures.pays)
    (one_left systems lemmas c.args.steps.now.solver.learned c.steps_or_draft.new.steps.solver.learned c.firsts_of.new.engine.solver.learned _ _
    (Steps c.args.level c.args.clause.now) c.steps_or_draft.ensures.pays)

pub returns-clause-tried : goal.returns-clause-tried
returns-clause-tried g c =
    let P : ℕ → Type 0 = λ b. IfOk c.steps_or_draft.result (Tries (system_at c.args.systems.now 0) c.args.lemmas.now c.args.level c.args.draft.now.parents.items
    c.args.clause.now b (g.Q.Purse.spent c.steps_or_draft.new.purse)) in
    subst P c.firsts_of.ensures.budget c.steps_or_draft.ensures.tried

pub returns-in_err-firsts_of-clause-steps : goal.returns-in_err-firsts_of-clause-steps
returns-in_err-firsts_of-clause-steps g c = c.requires.steps

pub returns-in_err-firsts_of-clause-states : goal.returns-in_err-firsts_of-clause-states
returns-in_err-firsts_of-clause-states g c = c.firsts_of.ensures.engine

pub returns-in_err-firsts_of-clause-known : goal.returns-in_err-firsts_of-clause-known
returns-in_err-firsts_of-clause-known g c = c.firsts_of.ensures.known

pub returns-in_err-firsts_of-clause-kept : goal.returns-in_err-firsts_of-clause-kept
returns-in_err-firsts_of-clause-kept g c = c.firsts_of.ensures.kept

pub returns-in_err-firsts_of-clause-ready : goal.returns-in_err-firsts_of-clause-ready
returns-in_err-firsts_of-clause-ready g c = c.firsts_of.ensures.ready

pub returns-in_err-firsts_of-clause-budget : goal.returns-in_err-firsts_of-clause-budget
returns-in_err-firsts_of-clause-budget g c = c.firsts_of.ensures.budget

pub returns-in-First-clause-steps : goal.returns-in-First-clause-steps
returns-in-First-clause-steps g c = c.requires.steps

pub returns-in-First-clause-states : goal.returns-in-First-clause-states
returns-in-First-clause-states g c = c.firsts_of.ensures.engine

pub returns-in-First-clause-known : goal.returns-in-First-clause-known
returns-in-First-clause-known g c = c.firsts_of.ensures.known

pub returns-in-First-clause-kept : goal.returns-in-First-clause-kept
returns-in-First-clause-kept g c = c.firsts_of.ensures.kept

pub returns-in-First-clause-ready : goal.returns-in-First-clause-ready
returns-in-First-clause-ready g c = c.firsts_of.ensures.ready

pub returns-in-First-clause-budget : goal.returns-in-First-clause-budget
returns-in-First-clause-budget g c = c.firsts_of.ensures.budget

pub returns-in-Spent-clause-steps : goal.returns-in-Spent-clause-steps
returns-in-Spent-clause-steps g c = c.requires.steps

pub returns-in-Spent-clause-states : goal.returns-in-Spent-clause-states
returns-in-Spent-clause-states g c = c.firsts_of.ensures.engine

pub returns-in-Spent-clause-known : goal.returns-in-Spent-clause-known
returns-in-Spent-clause-known g c = c.firsts_of.ensures.known

pub returns-in-Spent-clause-kept : goal.returns-in-Spent-clause-kept
returns-in-Spent-clause-kept g c = c.firsts_of.ensures.kept

pub returns-in-Spent-clause-ready : goal.returns-in-Spent-clause-ready
returns-in-Spent-clause-ready g c = c.firsts_of.ensures.ready

pub returns-in-Spent-clause-budget : goal.returns-in-Spent-clause-budget
returns-in-Spent-clause-budget g c = c.firsts_of.ensures.budget

pub returns-clause-steps : goal.returns-clause-steps
returns-clause-steps g c = c.steps_or_draft.ensures.steps

pub returns-clause-states : goal.returns-clause-states
returns-clause-states g c = c.firsts_of.ensures.engine

pub returns-clause-known : goal.returns-clause-known
returns-clause-known g c = c.steps_or_draft.ensures.known ∙ c.firsts_of.ensures.known

pub returns-clause-kept : goal.returns-clause-kept
returns-clause-kept g c = g.met.Q.Purse.kept_trans c.args.purse.now c.firsts_of.new.purse c.steps_or_draft.new.purse c.firsts_of.ensures.kept c.steps_or_draft.ensures.kept

pub returns-clause-ready : goal.returns-clause-ready
returns-clause-ready g c = c.steps_or_draft.ensures.ready

pub returns-clause-budget : goal.returns-clause-budget
returns-clause-budget g c = c.steps_or_draft.ensures.budget ∙ c.firsts_of.ensures.budget

pub firsts_of-requires-clause-some : goal.firsts_of-requires-clause-some
firsts_of-requires-clause-some g c = c.requires.some

pub firsts_of-requires-clause-alike : goal.firsts_of-requires-clause-alike
firsts_of-requires-clause-alike g c = c.requires.alike

pub firsts_of-requires-clause-lemmas : goal.firsts_of-requires-clause-lemmas
firsts_of-requires-clause-lemmas g c = c.requires.lemmas

pub firsts_of-requires-clause-within : goal.firsts_of-requires-clause-within
firsts_of-requires-clause-within g c = c.requires.within

pub firsts_of-requires-clause-known : goal.firsts_of-requires-clause-known
firsts_of-requires-clause-known g c = c.requires.known

pub firsts_of-requires-clause-ready : goal.firsts_of-requires-clause-ready
firsts_of-requires-clause-ready g c = c.requires.ready

pub firsts_of-requires-clause-engine : goal.firsts_of-requires-clause-engine
firsts_of-requires-clause-engine g c = c.requires.states

pub steps_or_draft-requires-clause-some : goal.steps_or_draft-requires-clause-some
steps_or_draft-requires-clause-some g c = c.requires.some

pub steps_or_draft-requires-clause-lemmas : goal.steps_or_draft-requires-clause-lemmas
steps_or_draft-requires-clause-lemmas g c = c.requires.lemmas

pub steps_or_draft-requires-clause-steps : goal.steps_or_draft-requires-clause-steps
steps_or_draft-requires-clause-steps g c = c.requires.steps

pub steps_or_draft-requires-clause-draft : goal.steps_or_draft-requires-clause-draft
steps_or_draft-requires-clause-draft g c = c.requires.draft

pub steps_or_draft-requires-clause-part : goal.steps_or_draft-requires-clause-part
steps_or_draft-requires-clause-part g c = c.requires.part

pub steps_or_draft-requires-clause-within : goal.steps_or_draft-requires-clause-within
steps_or_draft-requires-clause-within g c = c.requires.within

pub steps_or_draft-requires-clause-known : goal.steps_or_draft-requires-clause-known
steps_or_draft-requires-clause-known g c = c.firsts_of.ensures.known ∙ c.requires.known

pub steps_or_draft-requires-clause-ready : goal.steps_or_draft-requires-clause-ready
steps_or_draft-requires-clause-ready g c = c.firsts_of.ensures.ready
