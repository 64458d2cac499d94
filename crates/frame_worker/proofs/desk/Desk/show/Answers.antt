use Rattle.std.proofs.Common.{refl, ap, ◌∙◌}
use Rattle.frame_core.specs.FrameLaw.{FrameState}
use Rattle.frame_book.specs.Book.{BookView}
use Rattle.frame_worker.proofs.Books.{BeganWith, follows_desk, up_to_book}
use Rattle.frame_worker.proofs.desk.Desk.show.Goals as goal

pub takes_all-requires-clause-systems : goal.takes_all-requires-clause-systems
takes_all-requires-clause-systems g c =
    let d = c.args.self.now in
    let began : BeganWith g.J.Begun.systems g.J.Begun.limits g.J.Begun.carried d.book =
    record { systems_are = d.systems_are; limits_are = d.limits_are; carried_are = d.carried_are } in
    (follows_desk g.J.Begun.systems g.J.Begun.limits g.J.Begun.carried d.book c.frames.result.now c.args.front.now d.front c.args.solver.now c.in-Some.solver began
    c.frames.ensures.kept c.frames.ensures.value c.if-not-advance.ensures.0 (d.same c.requires.open) c.in-Some.is c.requires.follows).0

pub takes_all-requires-clause-older : goal.takes_all-requires-clause-older
takes_all-requires-clause-older g c =
    let d = c.args.self.now in
    let began : BeganWith g.J.Begun.systems g.J.Begun.limits g.J.Begun.carried d.book =
    record { systems_are = d.systems_are; limits_are = d.limits_are; carried_are = d.carried_are } in
    (follows_desk g.J.Begun.systems g.J.Begun.limits g.J.Begun.carried d.book c.frames.result.now c.args.front.now d.front c.args.solver.now c.in-Some.solver began
    c.frames.ensures.kept c.frames.ensures.value c.if-not-advance.ensures.0 (d.same c.requires.open) c.in-Some.is c.requires.follows).1

pub returns-in-Some-clause-all : goal.returns-in-Some-clause-all
returns-in-Some-clause-all g c = λ yes.
    let d = c.args.self.now in
    let b : BookView = d.book in
    let began : BeganWith g.J.Begun.systems g.J.Begun.limits g.J.Begun.carried b =
    record { systems_are = d.systems_are; limits_are = d.limits_are; carried_are = d.carried_are } in
    let follows = (follows_desk g.J.Begun.systems g.J.Begun.limits g.J.Begun.carried b c.frames.result.now c.args.front.now d.front c.args.solver.now c.in-Some.solver began
    c.frames.ensures.kept c.frames.ensures.value c.if-not-advance.ensures.0 (d.same c.requires.open) c.in-Some.is c.requires.follows).0 in
    let same = c.takes_all.ensures.systems ∙ follows ∙ ap (λ (f : FrameState). f.systems) c.frames.ensures.value in
    let lemmas = c.takes_all.ensures.all yes ∙ ap (λ (f : FrameState). f.lemmas) c.frames.ensures.value in
    let seen = c.if-not-advance.ensures.1 in (
      seen,
      (
        c.takes_all.new.solver,
        refl,
        up_to_book g.J.Begun.systems g.J.Begun.limits g.J.Begun.carried b c.advance.new.self c.takes_all.new.solver began c.frames.ensures.kept
            (seen ∙ d.same c.requires.open) same lemmas,
      ),
    )
