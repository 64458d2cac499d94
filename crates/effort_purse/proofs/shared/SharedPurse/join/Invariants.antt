use Rattle.effort_purse.proofs.shared.SharedPurse.join.Given as goal

abbrev pub ghosts-count : goal.ghosts-count
ghosts-count a = record { limits = a.self.now.table.shared.key }
