use Rattle.std.proofs.Common.{[], ◌∙◌, refl}
use Rattle.std.specs.Result.{IfOk}
use Rattle.std.proofs.lemmas.Result.{IfOk-from_err}
use Rattle.frame_query.specs.Findings.{IsTheState}
use Rattle.frame_query.proofs.PaidBad.{bad_one, bad_two}
use Rattle.frame_query.proofs.finding.bad_of.Goals as goal

pub returns-in_err-parents-clause-pays : goal.returns-in_err-parents-clause-pays
returns-in_err-parents-clause-pays g c =
    bad_one c.args.systems.now c.args.lemmas.now c.args.j c.args.top _ _ _ _ (λ v. IfOk c.from_residual.result (IsTheState v)) []
    (IfOk-from_err c.from_residual.result (IsTheState []) c.from_residual.ensures.0) c.bads_of.ensures.pays

pub returns-in-None-clause-pays : goal.returns-in-None-clause-pays
returns-in-None-clause-pays g c =
    bad_one c.args.systems.now c.args.lemmas.now c.args.j c.args.top _ _ _ _ (λ _. Unit {0}) [] tt c.bads_of.ensures.pays

pub returns-in-Spent-clause-pays : goal.returns-in-Spent-clause-pays
returns-in-Spent-clause-pays g c =
    bad_one c.args.systems.now c.args.lemmas.now c.args.j c.args.top _ _ _ _ (λ _. Unit {0}) [] tt c.bads_of.ensures.pays

pub returns-in-Some-clause-pays : goal.returns-in-Some-clause-pays
returns-in-Some-clause-pays g c =
    bad_two c.args.systems.now c.args.lemmas.now c.args.j c.args.top _ c.bads_of.new.engine.solver.learned _ _ (g.Q.Purse.tickets c.bads_of.new.purse) _
    (λ v. IfOk c.found_bad.result (IsTheState v)) c.in-Some.values c.found_bad.ensures.state c.bads_of.ensures.pays c.found_bad.ensures.pays

pub returns-in_err-parents-clause-known : goal.returns-in_err-parents-clause-known
returns-in_err-parents-clause-known g c = refl

pub returns-in_err-parents-clause-engine : goal.returns-in_err-parents-clause-engine
returns-in_err-parents-clause-engine g c = c.bads_of.ensures.engine

pub returns-in_err-parents-clause-kept : goal.returns-in_err-parents-clause-kept
returns-in_err-parents-clause-kept g c = c.bads_of.ensures.kept

pub returns-in_err-parents-clause-ready : goal.returns-in_err-parents-clause-ready
returns-in_err-parents-clause-ready g c = c.bads_of.ensures.ready

pub returns-in_err-parents-clause-budget : goal.returns-in_err-parents-clause-budget
returns-in_err-parents-clause-budget g c = c.bads_of.ensures.budget

pub returns-in-None-clause-known : goal.returns-in-None-clause-known
returns-in-None-clause-known g c = refl

pub returns-in-None-clause-engine : goal.returns-in-None-clause-engine
returns-in-None-clause-engine g c = c.bads_of.ensures.engine

pub returns-in-None-clause-kept : goal.returns-in-None-clause-kept
returns-in-None-clause-kept g c = c.bads_of.ensures.kept

pub returns-in-None-clause-ready : goal.returns-in-None-clause-ready
returns-in-None-clause-ready g c = c.bads_of.ensures.ready

pub returns-in-None-clause-budget : goal.returns-in-None-clause-budget
returns-in-None-clause-budget g c = c.bads_of.ensures.budget

pub returns-in-Spent-clause-known : goal.returns-in-Spent-clause-known
returns-in-Spent-clause-known g c = refl

pub returns-in-Spent-clause-engine : goal.returns-in-Spent-clause-engine
returns-in-Spent-clause-engine g c = c.bads_of.ensures.engine

pub returns-in-Spent-clause-kept : goal.returns-in-Spent-clause-kept
returns-in-Spent-clause-kept g c = c.bads_of.ensures.kept

pub returns-in-Spent-clause-ready : goal.returns-in-Spent-clause-ready
returns-in-Spent-clause-ready g c = c.bads_of.ensures.ready

pub returns-in-Spent-clause-budget : goal.returns-in-Spent-clause-budget
returns-in-Spent-clause-budget g c = c.bads_of.ensures.budget

pub returns-in-Some-clause-engine : goal.returns-in-Some-clause-engine
returns-in-Some-clause-engine g c = c.found_bad.ensures.engine

pub returns-in-Some-clause-known : goal.returns-in-Some-clause-known
returns-in-Some-clause-known g c = c.found_bad.ensures.known

pub returns-in-Some-clause-ready : goal.returns-in-Some-clause-ready
returns-in-Some-clause-ready g c = c.found_bad.ensures.ready

pub returns-in-Some-clause-kept : goal.returns-in-Some-clause-kept
returns-in-Some-clause-kept g c = g.met.Q.Purse.kept_trans c.args.purse.now c.bads_of.new.purse c.found_bad.new.purse c.bads_of.ensures.kept c.found_bad.ensures.kept

pub returns-in-Some-clause-budget : goal.returns-in-Some-clause-budget
returns-in-Some-clause-budget g c = c.found_bad.ensures.budget ∙ c.bads_of.ensures.budget

pub found_bad-requires-clause-number : goal.found_bad-requires-clause-number
found_bad-requires-clause-number g c = c.requires.number

pub found_bad-requires-clause-alike : goal.found_bad-requires-clause-alike
found_bad-requires-clause-alike g c = c.requires.alike

pub found_bad-requires-clause-lemmas : goal.found_bad-requires-clause-lemmas
found_bad-requires-clause-lemmas g c = c.requires.lemmas

pub found_bad-requires-clause-known : goal.found_bad-requires-clause-known
found_bad-requires-clause-known g c = c.requires.known

pub found_bad-requires-clause-engine : goal.found_bad-requires-clause-engine
found_bad-requires-clause-engine g c = c.bads_of.ensures.engine

pub found_bad-requires-clause-ready : goal.found_bad-requires-clause-ready
found_bad-requires-clause-ready g c = c.bads_of.ensures.ready
