use Rattle.prove_run.proofs.exploring.explore.Given as goal

abbrev pub ghosts-explore_by-L-Ledger : goal.ghosts-explore_by-L-Ledger
ghosts-explore_by-L-Ledger g a = record { name = a.blank.name; parts = a.blank.parts }

abbrev pub ghosts-explore_by-B-Begun : goal.ghosts-explore_by-B-Begun
ghosts-explore_by-B-Begun g a = record { before = g.Q.Purse.tickets a.purse.now }
