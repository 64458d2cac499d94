-- An operator breaks what its operands do, or else a rule of its own.
use Rattle.std.proofs.Common.{◌≡◌, ◌∙◌, ℤ, List, Option, refl, subst, sym}
use Rattle.smv_declared.specs.Constants.{constants_of}
use Rattle.smv_kinds.specs.declared.kind.Operand.{Operand}
use Rattle.smv_kinds.specs.Contexts.{kind_in_context}
use Rattle.smv_resolve.specs.Resolved.{operands_of}
use Rattle.smv_tree.specs.declared.refusal.Refusal.{Refusal}
use Rattle.smv_verdicts.specs.Verdicts.{or_else}
use Rattle.smv_types.specs.Judged.{AreNotes}
use Rattle.smv_types.specs.Kinds.{Context, all_told, kinds_broken, operands_refusal, temporal_here, written_bounds}
use Rattle.smv_types.proofs.Judging.{all_told_same}
use Rattle.smv_types.proofs.kinds.judge_apply.Goals as goal

pub returns : goal.returns
returns c = λ slots types rs k h.
    let place = c.args.place in
    let o = c.args.operator in
    let told = all_told slots types (operands_of rs) in
    let operands : c.args.operands.now ≡ told = h.kinds ∙ sym (all_told_same slots types rs) in
    let breaks : Option (ℤ × ℤ) → List Operand → Context → Option Refusal = λ cs xs x. or_else (temporal_here x place o) (kinds_broken place o cs (kind_in_context x.set o xs)) in
    let P : Option (ℤ × ℤ) → Type 0 = λ cs. AreNotes (breaks cs c.args.operands.now) c.own_notes-own.result in
    let Q : List Operand → Type 0 = λ xs. AreNotes (breaks (written_bounds (constants_of (operands_of rs))) xs) c.own_notes-own.result in
    let own = subst Q operands (subst P k c.own_notes-own.ensures) in
    let notes = c.both-notes.ensures (λ x. operands_refusal slots types o 0 x (operands_of rs)) (breaks (written_bounds (constants_of (operands_of rs))) told) (c.all_noted-inside.ensures slots types rs h.judged) own in
    rw c.noted.ensures (record {
      place = refl;
      notes = notes;
      inner = c.inner_of.ensures slots types rs h;
      defined = refl;
      indexing = c.indexing_of.ensures slots types place rs h;
      window = c.is_window_operator.ensures;
      init = c.is_array-is_array.ensures.init slots place (operands_of rs);
      later = c.is_array-is_array.ensures.later slots place (operands_of rs);
    })
