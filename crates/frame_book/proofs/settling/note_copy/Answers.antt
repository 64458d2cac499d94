use Rattle.std.proofs.Common.{◌≡◌, sym, subst, ◌∙◌}
use Rattle.std.specs.Prelude.{is_none, IfOk}
use Rattle.frame_core.specs.Facts.{FoundState, IsFound}
use Rattle.frame_core.specs.Changes.{IsOfSystem, MayHaveParent, NotesSame}
use Rattle.frame_book.proofs.settling.note_copy.Goals as goal

pub new-copy-requires : goal.new-copy-requires
new-copy-requires c =
    let g : FoundState =
    record { system = c.system.result.now; values = c.in_ok-values.values; is_step = c.is_step.result; first = c.is_first.result } in
    let same : g ≡ c.args.found.now =
    λ i. record {
      system = c.system.ensures.value i;
      values = (c.in_ok-values.ensures ∙ c.as_slice.ensures ∙ c.values.ensures) i;
      is_step = c.is_step.ensures i;
      first = c.is_first.ensures i;
    } in
    subst IsFound (sym same) c.system.ensures.shown

pub note-requires-clause-parent : goal.note-requires-clause-parent
note-requires-clause-parent c =
    let g : FoundState =
    record { system = c.system.result.now; values = c.in_ok-values.values; is_step = c.is_step.result; first = c.is_first.result } in
    let same : g ≡ c.args.found.now =
    λ i. record {
      system = c.system.ensures.value i;
      values = (c.in_ok-values.ensures ∙ c.as_slice.ensures ∙ c.values.ensures) i;
      is_step = c.is_step.ensures i;
      first = c.is_first.ensures i;
    } in
    subst (λ (z : FoundState). MayHaveParent c.args.levels.now c.args.j z c.args.parent) (sym (c.new-copy.ensures ∙ same)) c.requires.parent

pub note-requires-clause-same : goal.note-requires-clause-same
note-requires-clause-same c =
    let g : FoundState =
    record { system = c.system.result.now; values = c.in_ok-values.values; is_step = c.is_step.result; first = c.is_first.result } in
    let same : g ≡ c.args.found.now =
    λ i. record {
      system = c.system.ensures.value i;
      values = (c.in_ok-values.ensures ∙ c.as_slice.ensures ∙ c.values.ensures) i;
      is_step = c.is_step.ensures i;
      first = c.is_first.ensures i;
    } in
    subst (λ (z : FoundState). IsOfSystem c.args.levels.now c.args.j (is_none c.args.parent) z.system) (sym (c.new-copy.ensures ∙ same)) c.requires.same

pub returns-clause-done : goal.returns-clause-done
returns-clause-done c =
    let g : FoundState =
    record { system = c.system.result.now; values = c.in_ok-values.values; is_step = c.is_step.result; first = c.is_first.result } in
    let same : g ≡ c.args.found.now =
    λ i. record {
      system = c.system.ensures.value i;
      values = (c.in_ok-values.ensures ∙ c.as_slice.ensures ∙ c.values.ensures) i;
      is_step = c.is_step.ensures i;
      first = c.is_first.ensures i;
    } in
    subst (λ (z : FoundState). IfOk c.note.result (λ r. NotesSame c.args.levels.now c.args.j z c.args.parent r c.note.new.self)) (c.new-copy.ensures ∙ same)
    c.note.ensures.done
