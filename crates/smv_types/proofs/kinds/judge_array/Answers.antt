-- An array breaks what its name does, or else what stands for it; no path is spoken of in it.
use Rattle.std.proofs.Common.{refl, subst}
use Rattle.smv_types.specs.Judged.{AreNotes}
use Rattle.smv_types.specs.Kinds.{input_here, kind_refusal, under_element}
use Rattle.smv_types.proofs.kinds.judge_array.Goals as goal

pub returns : goal.returns
returns c = λ types r h.
    rw c.noted.ensures (record {
      place = refl;
      notes =
          c.both.ensures (λ x. input_here x c.args.name _) (λ x. kind_refusal c.args.slots.now types (under_element x) r)
          (subst (λ b. AreNotes (λ x. input_here x c.args.name b) c.input_here-named.result) c.is_input_at.ensures c.input_here-named.ensures)
          (c.under_element.ensures (λ x. kind_refusal c.args.slots.now types x r) h.notes);
      inner = h.inner;
      defined = refl;
      indexing = refl;
      window = refl;
      init = h.init;
      later = h.later;
    })
