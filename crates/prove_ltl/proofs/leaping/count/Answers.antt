use Rattle.std.proofs.Common.{◌∙◌, List, sym, subst}
use Rattle.cert_core.specs.Blocks.{Block}
use Rattle.cert_core.specs.Certificates.{Certifies}
use Rattle.clause_core.specs.Systems.{TransitionSystem}
use Rattle.ltl_lassos.specs.Violating.{NeverViolated}
use Rattle.prove_run.specs.declared.answers.Work.{Work}
use Rattle.prove_ltl.specs.LtlAnswers.{IsLtlDone}
use Rattle.prove_ltl.proofs.Alone.{shown_done}
use Rattle.prove_ltl.proofs.leaping.count.Goals as goal

pub returns-in-Some-Invariant-clause-tries : goal.returns-in-Some-Invariant-clause-tries
returns-in-Some-Invariant-clause-tries g c = λ f atoms ism.
    let sys = c.args.system.now in
    let effort = c.args.effort.now in
    let m = c.args.monitored.now.system in
    let k = c.args.k in
    let counted : TransitionSystem = c.requires.counted.0 in
    let isc = c.requires.counted.2 in
    let own = c.law.ensures.gives in
    let gives = c.law-in-Some-Invariant.ensures.gives in
    let a = c.in_ok-answer-in-Some-Invariant.answer in
    let never : (cert : Block) → Certifies counted cert → NeverViolated sys f atoms = λ cert certifies.
    c.counted_systems.ensures.certified sys m counted f atoms k cert ism isc own gives certifies in
    subst (λ (w : List Work). IsLtlDone sys f atoms effort w a) (sym c.new.ensures.items)
    (shown_done sys effort m own gives f atoms ism c.in_ok-frames.frames c.in-Some-Invariant.level k _ _ _ a counted isc
    (c.in_ok-frames.ensures.systems ∙ c.requires.counted.1) c.in_ok-answer-in-Some-Invariant.ensures.shows
    (sym c.is_unknown.ensures ∙ c.if-is_unknown.false) c.requires.within never)

pub returns-in-Some-Reached-clause-tries : goal.returns-in-Some-Reached-clause-tries
returns-in-Some-Reached-clause-tries g c = c.in_ok-frames.ensures.systems
