-- A definition breaks what its body does, or else has no value.
use Rattle.std.proofs.Common.{◌∙◌, refl, ap}
use Rattle.smv_types.specs.Judged.{as_refusal}
use Rattle.smv_types.specs.Kinds.{kind_refusal, no_value, place_of, told, under_name}
use Rattle.smv_types.proofs.Judging.{notes_same}
use Rattle.smv_types.proofs.kinds.judge_defined.Goals as goal

pub returns : goal.returns
returns c = λ slots types r h k.
    let whole = notes_same (λ x. as_refusal c.no_value.result) (λ x. no_value (place_of r) (told slots types r).kind) c.everywhere-whole.result
    (λ x. c.no_value.ensures ∙ ap (λ p. no_value p c.args.kind) h.place ∙ ap (no_value (place_of r)) k) c.everywhere-whole.ensures in
    let notes =
    c.both-notes.ensures (λ x. kind_refusal slots types (under_name x) r) (λ x. no_value (place_of r) (told slots types r).kind) (c.under_name.ensures (λ x. kind_refusal slots types x r) h.notes) whole in
    rw c.noted.ensures (record {
      place = refl;
      notes = notes;
      inner = refl;
      defined = notes.name;
      indexing = refl;
      window = refl;
      init = refl;
      later = refl;
    })
