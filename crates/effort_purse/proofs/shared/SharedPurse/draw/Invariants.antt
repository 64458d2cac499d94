use Rattle.effort_purse.proofs.shared.SharedPurse.draw.Given as goal

abbrev pub ghosts-take_ticket : goal.ghosts-take_ticket
ghosts-take_ticket a = record { limits = a.self.now.table.shared.key }
