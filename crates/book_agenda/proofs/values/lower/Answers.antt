use Rattle.std.proofs.Common.{◌≡◌, ◌<◌, ◌≤◌, ◌/◌, ◌∷◌, [], ◌++◌, List, ℕ, length, sym, subst, arith, slice_index_or}
use Rattle.std.proofs.lemmas.List.{get_or_read}
use Rattle.book_agenda.specs.Values.{AreFloors}
use Rattle.book_agenda.proofs.Agendas.{floors_lowered, floors_pushed}
use Rattle.book_agenda.proofs.values.lower.Goals as goal

pub returns-then-last-len : goal.returns-then-last-len
returns-then-last-len c =
    let floors = c.args.floors.now.items in
    let bs = c.args.blocked.now in
    let many = c.args.floors.now.ok.0 in
    let in' : length bs / 64 < length floors = omega (arith, c.if-last-len.true, c.len.ensures) in
    let is : c.index.result.now ≡ slice_index_or floors (length bs / 64) 0 = get_or_read floors (length bs / 64) c.index.result.now in' c.index.ensures 0 in
    floors_lowered floors bs c.args.level c.least.result c.requires.floors in' (omega (arith, c.least.ensures.0)) c.least.ensures.1

pub returns-else-last-len : goal.returns-else-last-len
returns-else-last-len c =
    let floors = c.args.floors.now.items in
    let bs = c.args.blocked.now in
    let many = c.args.floors.now.ok.0 in
    let past : length floors ≤ length bs / 64 = omega (arith, c.if-last-len.false, c.len.ensures) in
    subst (λ (z : List ℕ). AreFloors z (bs ++ c.args.level ∷ [])) (sym c.push_reserved.ensures.items) (floors_pushed floors bs c.args.level c.requires.floors past)
