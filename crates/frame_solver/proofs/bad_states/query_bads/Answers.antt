use Rattle.std.proofs.Common.{◌≡◌, ◌+◌, ℕ, [], subst, refl, ap}
use Rattle.std.proofs.lemmas.Result.{IfOk-weaker}
use Rattle.clause_core.specs.Systems.{TransitionSystem}
use Rattle.frame_core.specs.FrameLaw.{system_at}
use Rattle.frame_solver.specs.declared.loading.Engine.{Engine}
use Rattle.frame_solver.specs.Bads.{FindsBads, ReadsBads}
use Rattle.frame_solver.specs.Paying.{Bads as AskBads}
use Rattle.frame_solver.proofs.BadsOf.{found_by}
use Rattle.frame_solver.proofs.Paid.{states_paid}
use Rattle.frame_solver.proofs.bad_states.query_bads.Goals as goal

pub returns-in_err-answer-clause-pays : goal.returns-in_err-answer-clause-pays
returns-in_err-answer-clause-pays g c =
    states_paid c.args.systems.now c.args.lemmas.now (AskBads c.args.j c.args.i) c.args.engine.now refl (λ own. refl) [] (λ own. refl)
    c.requires.engine c.ask.new.engine.solver [] _ _ refl c.ask.ensures.asked

pub returns-clause-found : goal.returns-clause-found
returns-clause-found g c =
    let sys = system_at c.args.systems.now c.args.j in
    let e = c.args.engine.now in
    let f = c.ask.new.engine in
    let budget = g.Q.Purse.budget c.args.purse.now in
    let over = g.Q.Purse.spent c.ask.new.purse in
    let answer = c.in_ok-answer.answer in
    let first : f.base + f.heads ≡ e.base + e.heads = ap (λ (q : Engine). q.base + q.heads) c.ask.ensures.same in
    IfOk-weaker c.read.result (ReadsBads c.system_of-system.result.now (f.base + f.heads) c.args.lemmas.now answer) (FindsBads sys c.args.lemmas.now c.args.i budget over)
    (λ found reads.
    let R : TransitionSystem → Type 0 = λ s. ReadsBads s (f.base + f.heads) c.args.lemmas.now answer found in
    let F : ℕ → Type 0 = λ k. ReadsBads sys k c.args.lemmas.now answer found in
    found_by c.args.systems.now c.args.j c.requires.number c.requires.alike c.system_of-system.ensures.law c.args.lemmas.now c.requires.lemmas e c.requires.engine
    c.args.i budget over answer found c.in_ok-answer.ensures.answer (subst F first (subst R c.system_of-system.ensures.value reads)))
    c.read.ensures

pub returns-clause-pays : goal.returns-clause-pays
returns-clause-pays g c =
    states_paid c.args.systems.now c.args.lemmas.now (AskBads c.args.j c.args.i) c.args.engine.now refl (λ own. refl) [] (λ own. refl)
    c.requires.engine c.ask.new.engine.solver [] _ _ refl c.ask.ensures.asked
