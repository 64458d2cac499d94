use Rattle.std.proofs.Common.{◌≤◌, ◌∙◌, List, ap, arith, length, subst}
use mathlib.Core.List.{IsPrefix}
use Rattle.shared_history.proofs.Beginnings.{prefix_shorter}
use Rattle.shared_history.proofs.front.Front.advance.Goals as goal

pub returns : goal.returns
returns g c =
    let both = c.learn.new.self.log in
    let mine : IsPrefix c.self.inside.seen.log both = subst (λ (l : List g.row.E.Denot). IsPrefix l both) (ap (λ s. s.log) c.again-both.ensures) c.learn.ensures.2 in
    let less : length c.self.inside.seen.log ≤ length c.other.inside.seen.log = omega (arith, c.self.invariant.0, c.other.invariant.0, c.if-other-self.false) in
    let whole : IsPrefix c.self.inside.seen.log c.other.inside.seen.log = prefix_shorter c.self.inside.seen.log c.other.inside.seen.log both mine c.learn.ensures.3 less in
    (rw (← c.self.view_is, ← c.other.view_is) whole, c.drop.view_is ∙ c.again.ensures)
