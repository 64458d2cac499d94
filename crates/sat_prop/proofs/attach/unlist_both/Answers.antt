use Rattle.std.proofs.Common.{◌≡◌, ◌-◌, ℕ, List, [], length, take, get_or, set, arith, subst}
use Rattle.sat_prop.specs.declared.lists.Watcher.{Watcher}
use Rattle.sat_prop.proofs.Listing.{undone_both}
use Rattle.sat_prop.proofs.attach.unlist_both.Goals as goal

pub returns : goal.returns
returns c before k len same =
    let h = c.args.h in
    let now = c.args.lists.now in
    let mid = c.pop.new.self in
    let last = c.pop-2.new.self in
    let P : List (List Watcher) → List (List Watcher) → ℕ → Type 0 = λ old new n. new ≡ set old n (take (length (get_or old n []) - 1) (get_or old n [])) in
    let Q : ℕ → Type 0 = P now mid in
    let R : ℕ → Type 0 = P mid last in
    undone_both before mid last now h k (omega (arith, c.requires.cells.a_cell c.requires.two, len)) (omega (arith, c.requires.cells.b_cell c.requires.two, len)) same
    (subst Q c.cell_of.ensures c.pop.ensures) (subst R c.cell_of-2.ensures c.pop-2.ensures)
