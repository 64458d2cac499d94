use Rattle.std.proofs.Common.{sym, subst}
use Rattle.std.proofs.lemmas.Result.{IfOk-weaker}
use Rattle.clause_core.specs.Literals.{Within}
use Rattle.clause_core.specs.Systems.{TransitionSystem}
use Rattle.frame_core.specs.FrameLaw.{system_at}
use Rattle.frame_solver.specs.Firsts.{AllFirstsMeet}
use Rattle.frame_query.specs.Findings.{Shows, Tells, FindsRelative}
use Rattle.frame_query.proofs.Found.{shows, finds_relative}
use Rattle.frame_query.proofs.finding.relative_of.Goals as goal

pub step_outcome-requires-clause-within : goal.step_outcome-requires-clause-within
step_outcome-requires-clause-within g c =
    let P : TransitionSystem → Type 0 = λ s. Within s.state_bits c.args.clause.now in
    subst P (sym c.system_of.ensures.value) c.requires.within

pub step_outcome-requires-clause-first : goal.step_outcome-requires-clause-first
step_outcome-requires-clause-first g c =
    let P : TransitionSystem → Type 0 = λ s. AllFirstsMeet s c.args.clause.now in
    subst P (sym c.system_of.ensures.value) c.requires.first

pub step_outcome-requires-clause-shown : goal.step_outcome-requires-clause-shown
step_outcome-requires-clause-shown g c =
    let P : TransitionSystem → Type 0 = λ s. Shows s c.args.level c.args.clause.now c.in_ok-found.found in
    subst P (sym c.system_of.ensures.value)
    (shows (system_at c.args.systems.now 0) c.args.lemmas.now c.args.level c.args.clause.now _ _ c.in_ok-found.found c.in_ok-found.ensures.found)

pub returns-in_err-found-clause-pays : goal.returns-in_err-found-clause-pays
returns-in_err-found-clause-pays g c = c.steps_of.ensures.pays

pub returns-clause-pays : goal.returns-clause-pays
returns-clause-pays g c = c.steps_of.ensures.pays

pub returns-clause-found : goal.returns-clause-found
returns-clause-found g c =
    let budget = g.Q.Purse.budget c.args.purse.now in
    let over = g.Q.Purse.spent c.steps_of.new.purse in
    IfOk-weaker c.step_outcome.result (Tells c.system_of.result.now c.args.level c.args.clause.now c.in_ok-found.found)
    (FindsRelative c.args.systems.now c.args.lemmas.now c.args.clause.now c.args.level budget over)
    (λ r told.
    let P : TransitionSystem → Type 0 = λ s. Tells s c.args.level c.args.clause.now c.in_ok-found.found r in
    finds_relative c.args.systems.now c.args.lemmas.now c.args.level c.args.clause.now budget over c.in_ok-found.found r c.in_ok-found.ensures.found
    (subst P c.system_of.ensures.value told))
    c.step_outcome.ensures
