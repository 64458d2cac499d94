use Rattle.std.proofs.Common.{◌≡◌, ◌<◌, ◌≤◌, ◌+◌, ◌*◌, ℕ, List, length, sym, subst, arith, slice_index_or}
use Rattle.std.proofs.lemmas.List.{get_or_read}
use Rattle.clause_core.specs.Assignments.{assignment_of}
use Rattle.frame_core.specs.FrameLaw.{FrameState, obligation_at}
use Rattle.book_agenda.specs.Values.{IsBlockedTo, blocked_at}
use Rattle.book_agenda.proofs.levels.Levels.floor.Goals as goal

pub returns-then-c-len : goal.returns-then-c-len
returns-then-c-len c =
    let bs : List ℕ = c.self.inside.blocked.items in
    let in' : c.args.c < length c.self.inside.floors.items = let e = c.len.ensures in let t = c.if-c-len.true in omega arith in
    let is : c.index.result.now ≡ slice_index_or c.self.inside.floors.items c.args.c 0 =
    get_or_read c.self.inside.floors.items c.args.c c.index.result.now in' c.index.ensures 0 in
    subst (λ (f : FrameState). (o : ℕ) → c.args.c * 64 ≤ o → o < c.args.c * 64 + 64 → o < length f.obligations →
    (b : ℕ) × IsBlockedTo f.lemmas b (assignment_of (obligation_at f.obligations o).values) × (c.index.result.now ≤ b)) c.self.view_is
    (λ o low high lt.
    let many = c.self.invariant.follow.as_many in
    let le : slice_index_or c.self.inside.floors.items c.args.c 0 ≤ blocked_at bs o =
    c.self.invariant.floors'.low c.args.c o in' low high (omega (arith, many, lt)) in
    (blocked_at bs o, c.self.invariant.follow.each o lt, subst (λ (z : ℕ). z ≤ blocked_at bs o) (sym is) le))
