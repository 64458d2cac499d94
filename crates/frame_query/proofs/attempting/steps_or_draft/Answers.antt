use Rattle.std.proofs.Common.{List, refl, subst}
use Rattle.std.proofs.lemmas.Result.{IfOk-weaker}
use Rattle.clause_core.specs.declared.literal.Lit.{Lit}
use Rattle.frame_core.specs.Facts.{IsPart}
use Rattle.frame_core.specs.FrameLaw.{system_at}
use Rattle.frame_solver.specs.Paying.{Steps}
use Rattle.frame_query.specs.Trying.{proof_of, Tries}
use Rattle.frame_solver.proofs.Paid.{none_same}
use Rattle.frame_query.proofs.Tried.{ends_part, meets_more}
use Rattle.frame_query.proofs.attempting.steps_or_draft.Goals as goal

pub returns-then-is_part_of-clause-tried : goal.returns-then-is_part_of-clause-tried
returns-then-is_part_of-clause-tried g c =
    let sys = system_at c.args.systems.now 0 in
    let lemmas = c.args.lemmas.now in
    let level = c.args.level in
    let draft = c.args.draft.now in
    let d = c.args.clause.now in
    let budget = g.Q.Purse.budget c.args.purse.now in
    let over = g.Q.Purse.spent c.args.purse.now in
    let P : List Lit → Type 0 = λ ls. IsPart ls d in
    IfOk-weaker c.shown_by_draft.result _ (Tries sys lemmas level draft.parents.items d budget over)
    (λ t shown. shown sys lemmas level d budget over (ends_part (proof_of sys level draft) c.requires.draft d c.requires.part) (subst P c.deref.ensures.value (c.if-is_part_of.ensures.0 refl)) c.requires.meets c.requires.met)
    c.shown_by_draft.ensures

pub returns-then-is_part_of-clause-pays : goal.returns-then-is_part_of-clause-pays
returns-then-is_part_of-clause-pays g c = none_same c.args.systems.now c.args.lemmas.now (Steps c.args.level c.args.clause.now) _ _ _ _ refl refl

pub returns-clause-tried : goal.returns-clause-tried
returns-clause-tried g c =
    c.trial_of.ensures (system_at c.args.systems.now 0) c.args.lemmas.now c.args.level c.args.draft.now.parents.items c.args.clause.now (g.Q.Purse.budget c.args.purse.now)
    (g.Q.Purse.spent c.steps_of.new.purse) c.in_ok-found.ensures.found c.requires.meets c.requires.met

pub steps_of-requires-clause-first : goal.steps_of-requires-clause-first
steps_of-requires-clause-first g c = meets_more (system_at c.args.systems.now 0) c.args.met c.args.clause.now c.requires.met c.requires.meets

pub returns-then-is_part_of-clause-steps : goal.returns-then-is_part_of-clause-steps
returns-then-is_part_of-clause-steps g c = c.requires.steps

pub returns-then-is_part_of-clause-known : goal.returns-then-is_part_of-clause-known
returns-then-is_part_of-clause-known g c = refl

pub returns-then-is_part_of-clause-kept : goal.returns-then-is_part_of-clause-kept
returns-then-is_part_of-clause-kept g c = g.met.Q.Purse.kept_refl c.args.purse.now

pub returns-then-is_part_of-clause-ready : goal.returns-then-is_part_of-clause-ready
returns-then-is_part_of-clause-ready g c = c.requires.ready

pub returns-then-is_part_of-clause-budget : goal.returns-then-is_part_of-clause-budget
returns-then-is_part_of-clause-budget g c = refl

pub returns-in_err-found-clause-pays : goal.returns-in_err-found-clause-pays
returns-in_err-found-clause-pays g c = c.steps_of.ensures.pays

pub returns-in_err-found-clause-steps : goal.returns-in_err-found-clause-steps
returns-in_err-found-clause-steps g c = c.steps_of.ensures.engine

pub returns-in_err-found-clause-known : goal.returns-in_err-found-clause-known
returns-in_err-found-clause-known g c = c.steps_of.ensures.known

pub returns-in_err-found-clause-kept : goal.returns-in_err-found-clause-kept
returns-in_err-found-clause-kept g c = c.steps_of.ensures.kept

pub returns-in_err-found-clause-ready : goal.returns-in_err-found-clause-ready
returns-in_err-found-clause-ready g c = c.steps_of.ensures.ready

pub returns-in_err-found-clause-budget : goal.returns-in_err-found-clause-budget
returns-in_err-found-clause-budget g c = c.steps_of.ensures.budget

pub returns-clause-pays : goal.returns-clause-pays
returns-clause-pays g c = c.steps_of.ensures.pays

pub returns-clause-steps : goal.returns-clause-steps
returns-clause-steps g c = c.steps_of.ensures.engine

pub returns-clause-known : goal.returns-clause-known
returns-clause-known g c = c.steps_of.ensures.known

pub returns-clause-kept : goal.returns-clause-kept
returns-clause-kept g c = c.steps_of.ensures.kept

pub returns-clause-ready : goal.returns-clause-ready
returns-clause-ready g c = c.steps_of.ensures.ready

pub returns-clause-budget : goal.returns-clause-budget
returns-clause-budget g c = c.steps_of.ensures.budget

pub steps_of-requires-clause-engine : goal.steps_of-requires-clause-engine
steps_of-requires-clause-engine g c = c.requires.steps

pub steps_of-requires-clause-level : goal.steps_of-requires-clause-level
steps_of-requires-clause-level g c = c.requires.draft.above

pub steps_of-requires-clause-some : goal.steps_of-requires-clause-some
steps_of-requires-clause-some g c = c.requires.some

pub steps_of-requires-clause-lemmas : goal.steps_of-requires-clause-lemmas
steps_of-requires-clause-lemmas g c = c.requires.lemmas

pub steps_of-requires-clause-within : goal.steps_of-requires-clause-within
steps_of-requires-clause-within g c = c.requires.within

pub steps_of-requires-clause-known : goal.steps_of-requires-clause-known
steps_of-requires-clause-known g c = c.requires.known

pub steps_of-requires-clause-ready : goal.steps_of-requires-clause-ready
steps_of-requires-clause-ready g c = c.requires.ready
