use Rattle.std.proofs.Common.{◌≡◌, ◌<◌, ◌++◌, ◌∷◌, [], List, length, get_or, map, sym, ap, subst, ◌∙◌}
use Rattle.std.proofs.lemmas.List.{length-map}
use Rattle.std.proofs.lemmas.List.{set-get_or, map-append}
use Rattle.sat_prop.specs.Slots.{entries_of, entry_of}
use Rattle.std.proofs.lemmas.Result.{err_from_is_err_and}
use Rattle.sat_prop.specs.declared.lists.Watcher.{Watcher}
use Rattle.sat_prop.proofs.Cells.{items_of, cell_read, cell_set}
use Rattle.sat_prop.proofs.lists.WatchLists.push.Goals as goal

pub returns-in_err-push-clause-failed : goal.returns-in_err-push-clause-failed
returns-in_err-push-clause-failed c =
    let p = err_from_is_err_and c.from_residual.result c.from_residual.ensures.1 in
    let cells = c.self.inside.cells.items in
    let k = c.args.c in
    let L = map items_of cells in
    let x = c.index_mut.result.now in
    let len : k < length L = subst (λ (v : List (List Watcher)). k < length v) (sym c.self.view_is) c.requires.cell in
    let lt : k < length cells = simp length-map at len in
    let e : entries_of c.push.new.self.items ≡ get_or L k [] = ap entries_of c.in_err-push.ensures.items ∙ cell_read cells k x lt c.index_mut.ensures.value in
    rw p.1 (cell_set cells k c.push.new.self (get_or L k []) e ∙ set-get_or L k [] ∙ c.self.view_is)

pub returns-clause-done : goal.returns-clause-done
returns-clause-done c =
    let cells = c.self.inside.cells.items in
    let k = c.args.c in
    let L = map items_of cells in
    let x = c.index_mut.result.now in
    let len : k < length L = subst (λ (v : List (List Watcher)). k < length v) (sym c.self.view_is) c.requires.cell in
    let lt : k < length cells = simp length-map at len in
    let y = c.slot_of-slot.result in
    let more : entries_of (x.items ++ y ∷ []) ≡ entries_of x.items ++ c.args.e ∷ [] = map-append entry_of x.items (y ∷ []) ∙ ap (λ v. entries_of x.items ++ v ∷ []) c.slot_of-slot.ensures in
    let e : entries_of c.push.new.self.items ≡ get_or L k [] ++ c.args.e ∷ [] = ap entries_of c.in_ok-push.ensures.items ∙ more ∙ ap (λ xs. xs ++ c.args.e ∷ []) (cell_read cells k x lt c.index_mut.ensures.value) in
    rw (← c.self.view_is) (cell_set cells k c.push.new.self (get_or L k [] ++ c.args.e ∷ []) e)
