use Rattle.std.proofs.Common.{true, sym, subst}
use Rattle.frame_core.specs.FrameLaw.{FrameState}
use Rattle.frame_core.specs.Changes.{IsOfSystem}
use Rattle.book_agenda.proofs.Agendas.{agenda_same, agenda_opened}
use Rattle.book_agenda.proofs.levels.Levels.open.Goals as goal

pub open_same-requires-clause-same : goal.open_same-requires-clause-same
open_same-requires-clause-same c = subst (λ (z : FrameState). IsOfSystem z c.args.j true c.args.clear.now.system) (sym c.self.view_is) c.requires.same

pub invariant_of-self : goal.invariant_of-self
invariant_of-self c =
    agenda_same c.self.inside.frames c.open_same.new.self c.self.inside.blocked.items c.self.inside.floors.items c.self.inside.clauses c.self.inside.states c.in_err-opening.ensures.err
    c.self.invariant

pub invariant_of-self-2 : goal.invariant_of-self-2
invariant_of-self-2 c =
    agenda_opened c.self.inside.frames c.open_same.new.self c.args.j c.args.clear.now c.in_ok-opening.opening c.self.inside.blocked.items c.self.inside.floors.items c.self.inside.clauses
    c.self.inside.states c.in_ok-opening.ensures.done c.self.invariant
