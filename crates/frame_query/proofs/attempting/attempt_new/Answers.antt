use Rattle.frame_core.specs.FrameLaw.{system_at}
use Rattle.frame_solver.specs.Engines.{known_of}
use Rattle.frame_query.proofs.Walked.{nothing_new, all_new, failed_broken}
use Rattle.frame_query.proofs.attempting.attempt_new.Goals as goal

pub returns-then-has_failed-clause-tried : goal.returns-then-has_failed-clause-tried
returns-then-has_failed-clause-tried g c =
    failed_broken (system_at c.args.systems.now 0) c.args.lemmas.now c.args.level c.args.failed.now c.args.clause.now c.requires.failed c.if-has_failed.ensures

pub returns-then-has_failed-clause-pays : goal.returns-then-has_failed-clause-pays
returns-then-has_failed-clause-pays g c =
    nothing_new c.args.systems.now c.args.lemmas.now (known_of c.args.steps.now c.args.states.now) _ c.args.level c.args.failed.now c.args.clause.now

pub returns-clause-pays : goal.returns-clause-pays
returns-clause-pays g c =
    all_new c.args.systems.now c.args.lemmas.now _ _ _ _ c.args.level c.args.failed.now c.args.clause.now c.if-has_failed.ensures c.attempt.ensures.pays
