use Rattle.std.proofs.Common.{◌≡◌, ◌+◌, ◌∙◌, ℕ, List, [], ◌∷◌, length, ap, sym, subst}
use Rattle.std.proofs.lemmas.Option.{IfSome_then}
use Rattle.clause_core.specs.Systems.{TransitionSystem}
use Rattle.effort_purse.specs.Seats.{tickets_of}
use Rattle.frame_core.specs.declared.parts.Lemma.{Lemma}
use Rattle.frame_core.specs.Changes.{IsCut}
use Rattle.frame_core.specs.FrameLaw.{FrameState, system_at}
use Rattle.prove_ltl.specs.declared.answers.LtlDone.{LtlDone}
use Rattle.prove_ltl.specs.Climbing.{Settles}
use Rattle.prove_ltl.proofs.together.+climb_together.Goals as goal

pub carry-frames-requires-clause-cut : goal.carry-frames-requires-clause-cut
carry-frames-requires-clause-cut g t c =
    let climbs = rw c.in-Passed.is at (rw c.in-Some.is at c.in_ok-counting.ensures.climbs) in
    let m = c.args.monitored.now.system in
    let old : TransitionSystem = c.requires.counted.0 in
    let new : TransitionSystem = c.in_ok-system-in-Passed.system in
    let systems : c.in-Passed.frames.systems ≡ old ∷ [] = climbs.1 ∙ c.requires.counted.1 in
    let cut = c.counters.ensures.cut m old new c.args.k c.requires.counted.2 c.in_ok-system-in-Passed.ensures c.law.ensures.gives in
    let both : IsCut old new = record { bits = cut.bits; first = cut.first; step = cut.step } in
    subst (λ (z : List TransitionSystem). IsCut (system_at z 0) (system_at c.from_ref.result.now 0)) (sym systems)
    (subst (λ (z : List TransitionSystem). IsCut old (system_at z 0)) (sym c.from_ref.ensures.value) both)

pub returns-in_ok-done-in-Passed : goal.returns-in_ok-done-in-Passed
returns-in_ok-done-in-Passed g t c =
    let effort = c.args.effort.now in
    let m = c.args.monitored.now.system in
    let k : ℕ = c.args.k in
    let climbs = rw c.in-Passed.is at (rw c.in-Some.is at c.in_ok-counting.ensures.climbs) in
    let n : ℕ = length (tickets_of c.in-Some.field-0.seat) in
    let S : LtlDone → List Lemma → Type 0 = λ d carried. Settles effort m (k + 1) carried c.in-Passed.work.items n d in
    let P : LtlDone → Type 0 = λ d. S d c.carry-frames.result.lemmas in
    let Q : LtlDone → Type 0 = Settles effort m k c.args.frames.lemmas c.args.work.items (length (tickets_of c.args.seat)) in
    let same : c.carry-frames.result.lemmas ≡ c.in-Passed.frames.lemmas = ap (λ (z : FrameState). z.lemmas) c.carry-frames.ensures in
    IfSome_then c.in_ok-done-in-Passed.done {P = P} {Q = Q} c.in_ok-done-in-Passed.ensures (λ d settles sys f atoms log h none.
    (let next = climbs.2 sys f atoms log h in
    subst (S d) same settles sys f atoms next.0 next.1 none))
