use Rattle.std.proofs.Common.{ℕ, subst, inl}
use Rattle.std.specs.Prelude.{Some}
use Rattle.frame_core.specs.FrameLaw.{system_at}
use Rattle.frame_core.specs.Runs.{IsBadRun}
use Rattle.frame_core.specs.Changes.{VerdictSays}
use Rattle.frame_core.specs.declared.outcomes.FramesVerdict.{FramesVerdict}
use Rattle.frame_core.specs.declared.outcomes.FramesVerdict.TheVariants.{Reached}
use Rattle.prove_run.specs.declared.answers.Answer.TheVariants.{False, Unknown}
use Rattle.prove_run.proofs.Invariant.{no_verdict}
use Rattle.prove_run.proofs.Answered.{answers_alike}
use Rattle.prove_run.proofs.answering.answer_of.Goals as goal

pub returns-in_ok-run-in-Some-Reached-clause-next : goal.returns-in_ok-run-in-Some-Reached-clause-next
returns-in_ok-run-in-Some-Reached-clause-next g c =
    let f = c.args.frames.now in
    let j : ℕ = c.args.j in
    let run = c.in_ok-run-in-Some-Reached.run' in
    let says : VerdictSays f j (Some (Reached c.in-Some-Reached.n)) =
    subst (λ (v : FramesVerdict). VerdictSays f j (Some v)) c.in-Some-Reached.field-0-is c.in-Some-Reached.ensures in
    let is : IsBadRun (system_at f.systems j) run = subst (λ (i : ℕ). IsBadRun (system_at f.systems i) run) says.1 c.in_ok-run-in-Some-Reached.ensures in
    answers_alike c.args.effort.now f c.args.over j (g.Q.Purse.tickets c.args.purse.now) c.args.spent.now (False run) (λ parts before. is)

pub returns-in-None-clause-next : goal.returns-in-None-clause-next
returns-in-None-clause-next g c =
    let f = c.args.frames.now in
    let none = no_verdict f c.args.j (subst (VerdictSays f c.args.j) c.in-None.is c.verdict.ensures) in
    answers_alike c.args.effort.now f c.args.over c.args.j (g.Q.Purse.tickets c.args.purse.now) c.args.spent.now (Unknown c.cause.result) (λ parts before. inl (none, c.cause.ensures))
