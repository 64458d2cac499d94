use Rattle.std.proofs.Common.{◌≡◌, Bool, true, false, List, refl, inl, inr, ap}
use Rattle.clause_core.specs.Assignments.{assignment_of}
use Rattle.frame_core.specs.Facts.{FoundState}
use Rattle.frame_core.specs.FrameLaw.{FrameState, InFrame}
use Rattle.frame_history.specs.declared.entries.Lag.TheVariants as lag
use Rattle.frame_history.specs.declared.entries.Change.TheVariants as change
use Rattle.frame_book.proofs.settling.note_inside.Goals as goal

pub returns-then-not-is_inside-clause-done : goal.returns-then-not-is_inside-clause-done
returns-then-not-is_inside-clause-done c =
    let f : FrameState = c.args.levels.now in
    let g : FoundState = c.args.found in
    let out : InFrame g.system f.lemmas c.args.level (assignment_of g.values) → ⊥ =
    λ h. let t : c.is_inside.result ≡ true = c.is_inside.ensures.1 h in
    let u : c.is_inside.result ≡ false = c.if-not-is_inside.true in cc in
    inl (out, ap (λ (v : List Bool). change.Behind (lag.State v)) c.into_values.ensures, refl)

pub returns-in-Ok-clause-done : goal.returns-in-Ok-clause-done
returns-in-Ok-clause-done c = inr (c.is_inside.ensures.0 c.if-not-is_inside.false, c.in-Ok.ensures.done.0, c.in-Ok.ensures.done.1)
