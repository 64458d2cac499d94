use Rattle.frame_tests.proofs.plays.two_are_apart.Given as goal

abbrev pub ghosts-are_apart : goal.ghosts-are_apart
ghosts-are_apart a = record { name = a.blank.name; parts = a.blank.parts }
