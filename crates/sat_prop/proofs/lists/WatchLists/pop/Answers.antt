use Rattle.std.proofs.Common.{◌≡◌, ◌<◌, ◌-◌, [], List, length, vec_len, get_or, take, map, sym, ap, subst, ◌∙◌}
use Rattle.std.proofs.lemmas.List.{length-map, take-map}
use Rattle.sat_prop.specs.Slots.{entries_of, entry_of}
use Rattle.sat_prop.specs.declared.lists.Watcher.{Watcher}
use Rattle.sat_prop.proofs.Cells.{items_of, cell_read, cell_set}
use Rattle.sat_prop.proofs.lists.WatchLists.pop.Goals as goal

pub returns : goal.returns
returns c =
    let cells = c.self.inside.cells.items in
    let k = c.args.c in
    let L = map items_of cells in
    let x = c.index_mut.result.now in
    let len : k < length L = subst (λ (v : List (List Watcher)). k < length v) (sym c.self.view_is) c.requires in
    let lt : k < length cells = simp length-map at len in
    let r : entries_of x.items ≡ get_or L k [] = cell_read cells k x lt c.index_mut.ensures.value in
    let n : vec_len x ≡ length x.items = x.ok.0 in
    let s : c.pop.new.self.items ≡ take (length x.items - 1) x.items = c.pop.ensures.rest ∙ ap (λ m. take (m - 1) x.items) n in
    let ln : length (entries_of x.items) ≡ length x.items = length-map x.items entry_of in
    let f : entries_of (take (length x.items - 1) x.items) ≡ take (length (entries_of x.items) - 1) (entries_of x.items) =
    sym (take-map entry_of (length x.items - 1) x.items) ∙ ap (λ m. take (m - 1) (entries_of x.items)) (sym ln) in
    let e : entries_of c.pop.new.self.items ≡ take (length (get_or L k []) - 1) (get_or L k []) = ap entries_of s ∙ f ∙ ap (λ xs. take (length xs - 1) xs) r in
    rw (← c.self.view_is) (cell_set cells k c.pop.new.self (take (length (get_or L k []) - 1) (get_or L k [])) e)
