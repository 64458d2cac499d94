use Rattle.effort_purse.proofs.shared.SharedPurse.split.Given as goal

abbrev pub ghosts-cut : goal.ghosts-cut
ghosts-cut a = record { number = a.shares }
