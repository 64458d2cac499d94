-- An index that a parameter was given is judged as under a name.
use Rattle.std.proofs.Common.{refl}
use Rattle.smv_types.specs.Kinds.{kind_refusal}
use Rattle.smv_types.proofs.kinds.judge_passed.Goals as goal

pub returns : goal.returns
returns c = λ slots types r h.
    rw (c.noted.ensures, c.no_indexing.ensures) (record {
      place = refl;
      notes = c.under_name.ensures (λ x. kind_refusal slots types x r) h.notes;
      inner = refl;
      defined = refl;
      indexing = refl;
      window = refl;
      init = refl;
      later = refl;
    })
