use Rattle.std.proofs.Common.{inl, inr, arith, ◌∙◌, subst}
use Rattle.std.proofs.lemmas.Bool.{cases_eq}
use Rattle.frame_book.specs.Marked.{LimitIsLeft}
use Rattle.frame_book.proofs.Accepted.{noted_more}
use Rattle.frame_book.proofs.marks.Marks.note_limits.Goals as goal

pub loop-j-preserved : goal.loop-j-preserved
loop-j-preserved c =
    let i = c.loop-j.invariant in
    let e = c.note_limit.ensures in
    let room = i.3 in
    let more = e.room in (
      noted_more c.args.limits c.args.frames.now c.args.self.now c.loop-j.self c.note_limit.new.self c.args.changes.now.items c.loop-j.changes.items
          c.note_limit.new.changes.items i.0 e.done,
      λ k lt left. elim (cases_eq k c.loop-j.j) [
        | inl same ↦ e.here (subst (LimitIsLeft c.args.limits c.args.frames.now c.note_limit.new.self) same left)
        | inr other ↦ i.1 k (omega (arith, lt, other)) (e.others k left)
      ],
      e.as_many ∙ i.2,
      omega (arith, room, more),
      e.capacity ∙ i.4,
    )
