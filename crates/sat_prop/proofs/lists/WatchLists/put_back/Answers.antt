use Rattle.std.proofs.Common.{refl, ap, set, ◌∙◌}
use Rattle.sat_prop.specs.Slots.{entries_of}
use Rattle.sat_prop.proofs.Cells.{cell_set}
use Rattle.sat_prop.proofs.lists.WatchLists.put_back.Goals as goal

pub returns : goal.returns
returns c =
    let cells = c.self.inside.cells.items in
    let slots = entries_of c.args.slots.items in
    cell_set cells c.args.c c.args.slots slots refl ∙ ap (λ v. set v c.args.c slots) c.self.view_is
