use Rattle.std.proofs.Common.{ℕ, List, [], ap, subst}
use Rattle.effort_purse.specs.Plain.{plain_count}
use Rattle.frame_core.specs.declared.parts.Lemma.{Lemma}
use Rattle.frame_core.specs.FrameLaw.{FrameState}
use Rattle.prove_run.specs.declared.answers.Work.{Work}
use Rattle.prove_ltl.specs.Climbing.{Settles}
use Rattle.prove_ltl.proofs.climbing.climb_all.Goals as goal

pub climb-requires-clause-counted : goal.climb-requires-clause-counted
climb-requires-clause-counted g c = (c.in_ok-system.system, ap (λ (f : FrameState). f.systems) c.in_ok-frames.ensures, c.in_ok-system.ensures)

pub returns : goal.returns
returns g c =
    let m = c.args.monitored.now.system in
    let effort = c.args.effort.now in
    let d = c.in_ok-done.done in
    let old : ℕ = plain_count c.args.purse.now in
    let S : List Lemma → List Work → Type 0 = λ carried works. Settles effort m 0 carried works old d in
    subst (S []) c.new-work.ensures.items
    (subst (λ (z : List Lemma). S z c.new-work.result.items) (ap (λ (f : FrameState). f.lemmas) c.in_ok-frames.ensures) c.in_ok-done.ensures)
