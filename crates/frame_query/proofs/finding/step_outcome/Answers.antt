use Rattle.std.proofs.Common.{List, sym, subst}
use Rattle.clause_core.specs.declared.literal.Lit.{Lit}
use Rattle.frame_core.specs.Facts.{IsProved}
use Rattle.frame_query.proofs.Found.{proved}
use Rattle.frame_query.proofs.finding.step_outcome.Goals as goal

pub new-requires : goal.new-requires
new-requires c =
    let shown = rw c.in-Holds.is at c.requires.shown in
    let P : List Lit → Type 0 = λ xs. IsProved record { system = c.args.system.now; clause = xs; part = c.from_vec-part.result; level = c.args.level; parents = c.in-Holds.parents.items } in
    let Q : List Lit → Type 0 = λ xs. IsProved record { system = c.args.system.now; clause = c.args.clause.now; part = xs; level = c.args.level; parents = c.in-Holds.parents.items } in
    subst P (sym c.in_ok-copy-in-Holds.ensures) (subst Q (sym c.from_vec-part.ensures)
    (proved c.args.system.now c.args.level c.args.clause.now c.in-Holds.part.items c.in-Holds.parents.items c.requires.level c.requires.within c.requires.first shown.0 shown.1))
