use Rattle.std.proofs.Common.{◌≡◌, ◌∙◌, List, [], ◌∷◌, sym, subst}
use Rattle.clause_core.specs.Systems.{TransitionSystem}
use Rattle.frame_core.specs.Changes.{IsCut}
use Rattle.frame_core.specs.FrameLaw.{system_at}
use Rattle.prove_ltl.proofs.leaping.+leap.Goals as goal

pub carry-frames-requires-clause-cut : goal.carry-frames-requires-clause-cut
carry-frames-requires-clause-cut g t c =
    let tries = rw c.in-Passed.is at c.in_ok-tried.ensures.tries in
    let m = c.args.monitored.now.system in
    let old : TransitionSystem = c.requires.counted.0 in
    let new : TransitionSystem = c.in_ok-next-in-Passed.next in
    let systems : c.in-Passed.frames.systems ≡ old ∷ [] = tries ∙ c.requires.counted.1 in
    let cut = c.counters.ensures.cut m old new c.args.k c.requires.counted.2 c.in_ok-next-in-Passed.ensures c.law.ensures.gives in
    let both : IsCut old new = record { bits = cut.bits; first = cut.first; step = cut.step } in
    subst (λ (z : List TransitionSystem). IsCut (system_at z 0) (system_at c.from_ref.result.now 0)) (sym systems)
    (subst (λ (z : List TransitionSystem). IsCut old (system_at z 0)) (sym c.from_ref.ensures.value) both)

pub returns-in-Done : goal.returns-in-Done
returns-in-Done g t c = rw c.in-Done.is at c.in_ok-tried.ensures.tries
