use Rattle.frame_tests.proofs.plays.are_apart.Given as goal

abbrev pub ghosts-is_refused_by_another : goal.ghosts-is_refused_by_another
ghosts-is_refused_by_another g a = record { name = a.blank.name; parts = a.blank.parts }
