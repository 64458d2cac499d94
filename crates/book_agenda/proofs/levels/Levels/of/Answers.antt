use Rattle.book_agenda.proofs.Agendas.{agenda_begins}
use Rattle.book_agenda.proofs.levels.Levels.of.Goals as goal

pub invariant_of-result : goal.invariant_of-result
invariant_of-result c =
    agenda_begins c.args.frames.lemmas c.args.frames.obligations c.new.result.items c.new-2.result.items c.new-3.result c.new-4.result c.requires
    c.new.ensures.items c.new-2.ensures.items c.new-3.ensures c.new-4.ensures
