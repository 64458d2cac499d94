use Rattle.std.proofs.Common.{◌≡◌, ◌∙◌, ℕ, List, [], ◌∷◌, length, refl, sym, subst, arith}
use Rattle.std.specs.Prelude.{Some}
use Rattle.cert_core.specs.Blocks.{Block}
use Rattle.cert_core.specs.Certificates.{Certifies}
use Rattle.frame_core.specs.declared.outcomes.FramesVerdict.{FramesVerdict}
use Rattle.frame_core.specs.Changes.{VerdictSays}
use Rattle.frame_core.specs.FrameLaw.{FrameState}
use Rattle.ltl_lassos.specs.Violating.{NeverViolated}
use Rattle.prove_run.specs.declared.answers.Work.{Work}
use Rattle.prove_run.proofs.Invariant.{no_verdict}
use Rattle.prove_ltl.specs.declared.answers.LtlAnswer.TheVariants.{Unknown}
use Rattle.prove_ltl.specs.declared.answers.LtlCause.{LtlCause}
use Rattle.prove_ltl.specs.Climbing.{IsUsedUp}
use Rattle.prove_ltl.specs.LtlAnswers.{IsLtlDone, limits_of}
use Rattle.prove_ltl.proofs.Stepping.{same_after, its_counted, goes_on, ends, stops, shown}
use Rattle.prove_ltl.proofs.counting.climbed_by.Goals as goal

pub returns-in-Some-Invariant-clause-climbs : goal.returns-in-Some-Invariant-clause-climbs
returns-in-Some-Invariant-clause-climbs g c = λ c0 carried old isc e whole sys f atoms log h none.
    let effort = c.args.effort.now in
    let m = c.args.monitored.now.system in
    let k : ℕ = c.args.k in
    let works = c.args.work.items in
    let fr : FrameState = c.args.frames in
    let one : Work = record { history = c.args.history } in
    let now = c.push.new.self.items in
    let is_now = c.in_ok-push.ensures.items in
    let tickets : List ℕ = g.Q.Purse.tickets c.args.purse.now in
    let p = c.shown.new.purse in
    let level : ℕ = c.in-Some-Invariant.level in
    let says = subst (λ (v : FramesVerdict). VerdictSays fr 0 (Some v)) c.in-Some-Invariant.field-0-is c.in-Some-Invariant.ensures in
    let never : (cert : Block) → Certifies c0 cert → NeverViolated sys f atoms = λ cert certifies.
    c.counted_systems.ensures.certified sys log.monitored c0 f atoms k cert h.so_it_was.monitor
    (its_counted sys f atoms effort m log k carried works old h c0 isc now one is_now fr tickets c.args.over e) h.own h.so_it_was.gives certifies in
    shown sys f atoms effort m log k carried works old h c0 isc now one is_now fr tickets c.args.over e level (g.Q.Purse.tickets p) (g.Q.Purse.spent p)
    c.in_ok-answer-in-Some-Invariant.answer says c.in_ok-answer-in-Some-Invariant.ensures.shows c.requires.within never whole none

pub returns-then-k-effort-clause-climbs : goal.returns-then-k-effort-clause-climbs
returns-then-k-effort-clause-climbs g c = λ c0 carried old isc e whole.
    let effort = c.args.effort.now in
    let m = c.args.monitored.now.system in
    let k : ℕ = c.args.k in
    let works = c.args.work.items in
    let fr : FrameState = c.args.frames in
    let one : Work = record { history = c.args.history } in
    let now = c.push.new.self.items in
    let is_now = c.in_ok-push.ensures.items in
    let tickets : List ℕ = g.Q.Purse.tickets c.args.purse.now in
    let says = subst (λ (v : FramesVerdict). VerdictSays fr 0 (Some v)) c.in-Some-Reached.field-0-is c.in-Some-Reached.ensures in (
      c.if-k-effort.true,
      same_after (c0 ∷ []) (limits_of effort) carried one.history.items fr old (length tickets) c.args.over e,
      λ sys f atoms log h. goes_on sys f atoms effort m log k carried works old h c0 isc now one is_now fr tickets c.args.over e c.in-Some-Reached.field-0-0 says,
    )

pub returns-in-Some-Reached-clause-climbs : goal.returns-in-Some-Reached-clause-climbs
returns-in-Some-Reached-clause-climbs g c = λ c0 carried old isc e whole sys f atoms log h none.
    let effort = c.args.effort.now in
    let m = c.args.monitored.now.system in
    let k : ℕ = c.args.k in
    let works = c.args.work.items in
    let fr : FrameState = c.args.frames in
    let one : Work = record { history = c.args.history } in
    let now = c.push.new.self.items in
    let is_now = c.in_ok-push.ensures.items in
    let tickets : List ℕ = g.Q.Purse.tickets c.args.purse.now in
    let says = subst (λ (v : FramesVerdict). VerdictSays fr 0 (Some v)) c.in-Some-Reached.field-0-is c.in-Some-Reached.ensures in
    let most = c.if-k-effort.false in
    let within = c.requires.within in
    let at : k ≡ effort.counter = omega (arith, most, within) in
    ends sys f atoms effort m log k carried works old h c0 isc now one is_now fr tickets c.args.over e c.in-Some-Reached.field-0-0 says at (none refl)

pub returns-clause-climbs : goal.returns-clause-climbs
returns-clause-climbs g c = λ c0 carried old isc e whole sys f atoms log h none.
    let effort = c.args.effort.now in
    let m = c.args.monitored.now.system in
    let k : ℕ = c.args.k in
    let works = c.args.work.items in
    let fr : FrameState = c.args.frames in
    let one : Work = record { history = c.args.history } in
    let now = c.push.new.self.items in
    let is_now = c.in_ok-push.ensures.items in
    let tickets : List ℕ = g.Q.Purse.tickets c.args.purse.now in
    let undecided = no_verdict fr 0 (subst (VerdictSays fr 0) c.in-None.is c.verdict.ensures) in
    let used : IsUsedUp effort tickets c.args.over = λ on. whole (sym c.requires.over ∙ on) in
    subst (λ (z : LtlCause). IsLtlDone sys f atoms effort now (Unknown z)) (sym c.cause.ensures)
    (stops sys f atoms effort m log k carried works old h c0 isc now one is_now fr tickets c.args.over e used c.requires.within undecided (none refl))
