use Rattle.prove_ltl.proofs.counting.shown.Goals as goal

pub returns-in-Some-clause-shows : goal.returns-in-Some-clause-shows
returns-in-Some-clause-shows g c = rw c.in-Some.is at c.in_ok-cert.ensures.certified

pub returns-in-None-clause-shows : goal.returns-in-None-clause-shows
returns-in-None-clause-shows g c = let said = rw c.in-None.is at c.in_ok-cert.ensures.certified in (said, c.spent_by.ensures)
