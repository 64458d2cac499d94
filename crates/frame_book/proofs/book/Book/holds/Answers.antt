use Rattle.std.proofs.Common.{◌≡◌, ap, subst, ◌∙◌}
use Rattle.frame_core.specs.FrameLaw.{FramesHold}
use Rattle.frame_history.proofs.Keeping.{lemmas_hold}
use Rattle.frame_book.specs.Book.{BookView, IsBook}
use Rattle.frame_book.proofs.Picked.{book_systems}
use Rattle.frame_book.proofs.book.Book.holds.Goals as goal

pub returns-clause-holds : goal.returns-clause-holds
returns-clause-holds g c =
    let b : BookView = c.args.self.now in
    let p : BookView = c.self.inside.pages in
    let same : p ≡ b = c.self.view_is in
    let frames : c.frames.result.now ≡ b.state.frames = c.frames.ensures.value ∙ ap (λ (z : BookView). z.state.frames) same in
    let law : FramesHold b.state.frames = subst FramesHold frames c.systems-systems.ensures.law in
    let kept : IsBook b = subst IsBook same c.frames.ensures.kept in
    λ j lt i x reached n below high. lemmas_hold b.systems b.state.frames (book_systems b kept) law j lt i x reached n below high
