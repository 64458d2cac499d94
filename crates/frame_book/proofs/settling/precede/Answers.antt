use Rattle.std.proofs.Common.{◌≡◌, ℕ, refl, inl, inr, sym, ap, subst, ◌∙◌}
use Rattle.std.specs.Prelude.{Some}
use Rattle.std.proofs.lemmas.Result.{IfOk-weaker}
use Rattle.frame_core.specs.declared.parts.Obligation.{Obligation}
use Rattle.frame_core.specs.Facts.{FoundState}
use Rattle.frame_core.specs.FrameLaw.{FrameState, obligation_at, FramesHold}
use Rattle.frame_history.specs.declared.entries.Change.{Change}
use Rattle.frame_history.specs.declared.entries.Change.TheVariants.{Note}
use Rattle.frame_history.specs.declared.entries.Lag.TheVariants as lag
use Rattle.frame_history.specs.declared.entries.Change.TheVariants as change
use Rattle.frame_book.specs.declared.claim.ClaimOutcome.TheVariants as outcome
use Rattle.frame_book.specs.Steps.{Comes}
use Rattle.frame_book.proofs.Accepted.{step_lags, step_noted}
use Rattle.frame_book.proofs.settling.precede.Goals as goal

pub returns-clause-done : goal.returns-clause-done
returns-clause-done c =
    let f : FrameState = c.args.levels.now in
    let g : FoundState = c.args.found in
    let m = c.args.made.now in
    let now : FrameState = c.note_inside.new.levels in
    let j : ℕ = c.obligation.result.now.system in
    let law : FramesHold f = subst FramesHold c.frames.ensures c.systems-systems.ensures.law in
    let of : j ≡ (obligation_at f.obligations c.args.o).system =
    ap (λ (z : Obligation). z.system) c.obligation.ensures ∙ ap (λ (z : FrameState). (obligation_at z.obligations c.args.o).system) c.frames-2.ensures in
    let C : Change → Type 0 = λ d. Comes f m (outcome.Found g) d now in
    IfOk-weaker c.note_inside.result _ C
    (λ d h. elim h [
      | inl o ↦
          let base : C (change.Behind (lag.State g.values)) =
          record { accepted = step_lags f m c.args.o g.system g.values law c.requires.subject c.requires.in_range c.requires.same o.0; tells = refl; changes = o.2 } in
          subst C (sym o.1) base
      | inr i ↦
          let base : C (Note j g.values (Some c.args.o) g.first) =
          record {
            accepted = step_noted f m c.args.o j g law c.requires.subject c.requires.in_range of c.requires.kind c.requires.ends c.requires.same
                c.system-system.ensures.shown i.0;
            tells = (refl, refl);
            changes = i.2;
          } in
          subst C (sym i.1) base
    ]) c.note_inside.ensures.done
