use Rattle.std.proofs.Common.{◌≡◌, ◌+◌, ◌∙◌, ℕ, List, [], ◌∷◌, ap, sym, subst}
use Rattle.clause_core.specs.Systems.{TransitionSystem}
use Rattle.effort_purse.specs.Plain.{plain_count}
use Rattle.frame_core.specs.declared.parts.Lemma.{Lemma}
use Rattle.frame_core.specs.Changes.{IsCut}
use Rattle.frame_core.specs.FrameLaw.{FrameState, system_at}
use Rattle.prove_ltl.specs.Climbing.{Settles}
use Rattle.prove_ltl.proofs.climbing.+climb.Goals as goal

pub carry-frames-requires-clause-cut : goal.carry-frames-requires-clause-cut
carry-frames-requires-clause-cut g t c =
    let climbs = rw c.in-Passed.is at c.in_ok-done.ensures.climbs in
    let m = c.args.monitored.now.system in
    let old : TransitionSystem = c.requires.counted.0 in
    let new : TransitionSystem = c.in_ok-system-in-Passed.system in
    let systems : c.in-Passed.frames.systems ≡ old ∷ [] = climbs.1 ∙ c.requires.counted.1 in
    let cut = c.counters.ensures.cut m old new c.args.k c.requires.counted.2 c.in_ok-system-in-Passed.ensures c.law.ensures.gives in
    let both : IsCut old new = record { bits = cut.bits; first = cut.first; step = cut.step } in
    subst (λ (z : List TransitionSystem). IsCut (system_at z 0) (system_at c.from_ref.result.now 0)) (sym systems)
    (subst (λ (z : List TransitionSystem). IsCut old (system_at z 0)) (sym c.from_ref.ensures.value) both)

pub returns-in_ok-done-in-Passed : goal.returns-in_ok-done-in-Passed
returns-in_ok-done-in-Passed g t c = λ sys f atoms log h none.
    let climbs = rw c.in-Passed.is at c.in_ok-done.ensures.climbs in
    let next = climbs.2 sys f atoms log h in
    let d = c.in_ok-done-in-Passed.done in
    let tickets : ℕ = plain_count c.count_to.new.purse in
    let S : List Lemma → Type 0 = λ carried. Settles c.args.effort.now c.args.monitored.now.system (c.args.k + 1) carried c.in-Passed.work.items tickets d in
    let same : c.carry-frames.result.lemmas ≡ c.in-Passed.frames.lemmas = ap (λ (z : FrameState). z.lemmas) c.carry-frames.ensures in
    subst S same c.in_ok-done-in-Passed.ensures sys f atoms next.0 next.1 none
