use Rattle.effort_purse.proofs.shared.SharedPurse.next_bound.Given as goal

abbrev pub ghosts-take_bound : goal.ghosts-take_bound
ghosts-take_bound a = record { limits = a.self.now.table.shared.key }
