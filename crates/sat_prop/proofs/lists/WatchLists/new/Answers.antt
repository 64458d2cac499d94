use Rattle.std.proofs.Common.{◌≡◌, ◌+◌, ◌∷◌, [], List, Vec, Global, ap, length, length-append, subst, sym, ◌∙◌}
use Rattle.std.specs.List.{All}
use Rattle.std.proofs.lemmas.List.Elements.{All-map, All-push, All-weaker}
use Rattle.sat_prop.proofs.Cells.{items_of, empties_pass}
use Rattle.sat_prop.specs.declared.lists.Watcher.{Watcher}
use Rattle.sat_prop.specs.declared.lists.PackedWatcher.{PackedWatcher}
use Rattle.sat_prop.specs.Slots.{entries_of}
use Rattle.sat_prop.proofs.lists.WatchLists.new.Goals as goal

pub loop-preserved : goal.loop-preserved
loop-preserved c =
    let cells = c.loop.cells.items in
    let E : Vec PackedWatcher Global → Type 0 = λ v. v.items ≡ [] in
    let P : List (Vec PackedWatcher Global) → Type 0 = All E in
    let items = c.in_ok-push.ensures.items in
    record {
      len = ap length items ∙ length-append cells (c.new.result ∷ []) ∙ ap (λ n. n + 1) c.loop.invariant.len;
      empty = subst P (sym items) (All-push E cells c.new.result c.loop.invariant.empty c.new.ensures.items);
    }

pub returns-clause-empty : goal.returns-clause-empty
returns-clause-empty c p =
    let P : List Watcher → Type 0 = λ xs. xs ≡ [] in
    let cells = c.loop.cells.items in
    let none = All-weaker (λ (v : Vec PackedWatcher Global). v.items ≡ []) (λ v. items_of v ≡ []) (λ v e. ap entries_of e) cells c.loop.invariant.empty in
    empties_pass p _ (All-map P items_of cells none)
