use Rattle.std.proofs.Common.{◌≡◌, [], ap, set, ◌∙◌}
use Rattle.sat_prop.specs.Slots.{entries_of}
use Rattle.sat_prop.proofs.Cells.{cell_set}
use Rattle.sat_prop.proofs.lists.WatchLists.take.Goals as goal

pub returns-clause-others : goal.returns-clause-others
returns-clause-others c =
    let cells = c.self.inside.cells.items in
    let none : entries_of c.replace.new.dest.items ≡ [] = ap (λ v. entries_of v.items) c.replace.ensures.after ∙ ap entries_of c.new.ensures.items in
    cell_set cells c.args.c c.replace.new.dest [] none ∙ ap (λ v. set v c.args.c []) c.self.view_is
