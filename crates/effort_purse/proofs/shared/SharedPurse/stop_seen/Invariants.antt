use Rattle.effort_purse.proofs.shared.SharedPurse.stop_seen.Given as goal

abbrev pub ghosts-look : goal.ghosts-look
ghosts-look a = record { limits = a.self.now.table.shared.key }
