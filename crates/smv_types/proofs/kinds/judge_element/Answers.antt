-- An element is judged as its slot, and as one of a choice; no path is spoken of in it.
use Rattle.std.proofs.Common.{refl}
use Rattle.smv_types.specs.Kinds.{kind_refusal}
use Rattle.smv_types.proofs.kinds.judge_element.Goals as goal

pub returns : goal.returns
returns c = λ slots types r h.
    rw (c.noted.ensures, c.no_indexing.ensures) (record {
      place = refl;
      notes = c.under_element.ensures (λ x. kind_refusal slots types x r) h.notes;
      inner = h.inner;
      defined = refl;
      indexing = refl;
      window = refl;
      init = h.init;
      later = h.later;
    })
