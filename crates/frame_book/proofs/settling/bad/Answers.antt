use Rattle.std.proofs.Common.{◌≡◌, refl, inl, inr, sym, ap, subst, ◌∙◌}
use Rattle.std.specs.Prelude.{None}
use Rattle.std.proofs.lemmas.Result.{IfOk-weaker}
use Rattle.frame_core.specs.Facts.{FoundState}
use Rattle.frame_core.specs.FrameLaw.{FrameState, top_at}
use Rattle.frame_history.specs.declared.entries.Change.{Change}
use Rattle.frame_history.specs.declared.entries.Change.TheVariants.{Note}
use Rattle.frame_history.specs.declared.entries.Lag.TheVariants as lag
use Rattle.frame_history.specs.declared.entries.Change.TheVariants as change
use Rattle.frame_book.specs.declared.claim.ClaimOutcome.TheVariants as outcome
use Rattle.frame_book.specs.Steps.{Comes}
use Rattle.frame_book.proofs.Accepted.{bad_lags, bad_noted}
use Rattle.frame_book.proofs.settling.bad.Goals as goal

pub returns-clause-done : goal.returns-clause-done
returns-clause-done c =
    let f : FrameState = c.args.levels.now in
    let g : FoundState = c.args.found in
    let m = c.args.made.now in
    let now : FrameState = c.note_inside.new.levels in
    let top : m.level ≡ top_at f.tops c.args.j =
    sym c.if-top-made.false ∙ c.top.ensures.value ∙ ap (λ (z : FrameState). top_at z.tops c.args.j) c.frames.ensures in
    let C : Change → Type 0 = λ d. Comes f m (outcome.Found g) d now in
    IfOk-weaker c.note_inside.result _ C
    (λ d h. elim h [
      | inl o ↦
          let base : C (change.Behind (lag.State g.values)) =
          record { accepted = bad_lags f m c.args.j g.system g.values c.requires.subject c.requires.same o.0; tells = refl; changes = o.2 } in
          subst C (sym o.1) base
      | inr i ↦
          let base : C (Note c.args.j g.values None g.first) =
          record {
            accepted = bad_noted f m c.args.j g c.requires.subject top c.requires.in_range c.requires.kind c.requires.same c.system-system.ensures.shown i.0;
            tells = (refl, refl);
            changes = i.2;
          } in
          subst C (sym i.1) base
    ]) c.note_inside.ensures.done
