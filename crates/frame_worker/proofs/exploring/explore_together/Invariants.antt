use Rattle.frame_worker.proofs.exploring.explore_together.Given as goal

abbrev pub ghosts-explore_by-L-Ledger : goal.ghosts-explore_by-L-Ledger
ghosts-explore_by-L-Ledger g a = record { name = a.blank.name; parts = a.blank.parts }

abbrev pub ghosts-explore_by-J-Naming : goal.ghosts-explore_by-J-Naming
ghosts-explore_by-J-Naming g a = record { line = a.opened.seen.book }

abbrev pub ghosts-explore_by-J-Begun : goal.ghosts-explore_by-J-Begun
ghosts-explore_by-J-Begun g a = record { systems = a.frames.systems; limits = a.limits; carried = a.frames.lemmas }
