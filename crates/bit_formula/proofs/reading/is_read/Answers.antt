-- The marks of the atoms.
use Rattle.std.proofs.Common.{◌∙◌, ℕ, Bool, List, ap}
use Rattle.std.specs.List.{list_any}
use Rattle.bit_formula.specs.Marks.{is_asked, mark_at}
use Rattle.bit_formula.proofs.Marking.{marked_atoms}
use Rattle.bit_formula.proofs.reading.is_read.Goals as goal

pub returns : goal.returns
returns c =
    c.is_one_marked-read.ensures
    ∙ ap (λ (marks : List Bool). list_any (λ (k : ℕ). mark_at marks k) c.args.atoms.now) (c.deref.ensures.value ∙ c.in_ok-marks.ensures)
    ∙ marked_atoms (is_asked c.args.asked) c.args.slots.now c.args.nodes.now c.args.atoms.now
