use Rattle.effort_purse.proofs.Past.{ticket_nears_end}
use Rattle.solver_tests.proofs.purses.drain.Goals as goal

pub draws-smaller : goal.draws-smaller
draws-smaller g c =
    let drawn = c.in-Ticket.ensures.drawn in
    ticket_nears_end (g.P.Purse.budget c.draws.purse) (g.P.Purse.budget c.draw.new.self) (g.P.Purse.tickets c.draws.purse) c.in-Ticket.number (g.P.Purse.tickets c.draw.new.self) c.in-Ticket.ensures.budget drawn.0 drawn.1 drawn.2
