use Rattle.std.proofs.Common.{◌≤◌, ◌∙◌, List, ap, arith, length, subst, sym}
use mathlib.Core.List.{IsPrefix}
use Rattle.shared_history.proofs.Beginnings.{prefix_shorter}
use Rattle.shared_history.proofs.front.Front.unite.Goals as goal

pub returns-then-self-other-clause-mine : goal.returns-then-self-other-clause-mine
returns-then-self-other-clause-mine g c =
    let both = c.learn.new.self.log in
    let mine : IsPrefix c.self.inside.seen.log both = subst (λ (l : List g.row.E.Denot). IsPrefix l both) (ap (λ s. s.log) c.again-both.ensures) c.learn.ensures.2 in
    let less : length c.self.inside.seen.log ≤ length c.other.inside.seen.log = omega (arith, c.self.invariant.0, c.other.invariant.0, c.if-self-other.true) in
    let whole : IsPrefix c.self.inside.seen.log c.other.inside.seen.log = prefix_shorter c.self.inside.seen.log c.other.inside.seen.log both mine c.learn.ensures.3 less in
    let here : IsPrefix c.args.self.now c.args.other.now = rw (← c.self.view_is, ← c.other.view_is) whole in
    subst (IsPrefix c.args.self.now) (sym (c.drop.view_is ∙ c.again.ensures)) here

pub returns-clause-other : goal.returns-clause-other
returns-clause-other g c =
    let both = c.learn.new.self.log in
    let mine : IsPrefix c.self.inside.seen.log both = subst (λ (l : List g.row.E.Denot). IsPrefix l both) (ap (λ s. s.log) c.again-both.ensures) c.learn.ensures.2 in
    let less : length c.other.inside.seen.log ≤ length c.self.inside.seen.log = omega (arith, c.self.invariant.0, c.other.invariant.0, c.if-self-other.false) in
    rw (← c.self.view_is, ← c.other.view_is) (prefix_shorter c.other.inside.seen.log c.self.inside.seen.log both c.learn.ensures.3 mine less)
