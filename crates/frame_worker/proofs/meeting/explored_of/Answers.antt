use Rattle.std.proofs.Common.{◌≡◌, List, sym, subst, ap, ◌∙◌}
use mathlib.Core.List.{IsPrefix}
use Rattle.frame_history.specs.declared.entries.Entry.{Entry}
use Rattle.frame_book.specs.Book.{BookView}
use Rattle.frame_worker.proofs.Books.{BeganWith}
use Rattle.frame_worker.proofs.Meetings.{explored}
use Rattle.frame_worker.proofs.meeting.explored_of.Goals as goal

pub returns-clause-explored : goal.returns-clause-explored
returns-clause-explored g c = λ old p.
    let d = c.args.desk in
    let b : BookView = c.is_usable.new.book in
    let usable = c.in_ok-is_usable.ensures c.if-not-branch.false in
    let same : b ≡ d.book = usable.1 in
    let began : BeganWith g.J.Begun.systems g.J.Begun.limits g.J.Begun.carried b =
    record {
      systems_are = ap (λ (z : BookView). z.systems) same ∙ d.systems_are;
      limits_are = ap (λ (z : BookView). z.limits) same ∙ d.limits_are;
      carried_are = ap (λ (z : BookView). z.carried) same ∙ d.carried_are;
    } in
    let whole : d.front ≡ b.history = d.same c.if-broken.false ∙ ap (λ (z : BookView). z.history) (sym same) in
    let pre : IsPrefix c.args.seen b.history = subst (λ (z : List Entry). IsPrefix c.args.seen z) whole c.if-not-advance.ensures.0 in
    explored g.J.Begun.systems g.J.Begun.limits g.J.Begun.carried b c.close.result.history.items c.close.result.frames c.args.seen c.args.seat.now old began
    c.close.ensures.kept usable.0 pre c.close.ensures.history c.close.ensures.frames p
