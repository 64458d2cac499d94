-- More types change nothing where there are too many slots.
use Rattle.std.proofs.lemmas.Bool.{ltb-true}
use Rattle.smv_declared.proofs.Joined.{full_more}
use Rattle.smv_declared.proofs.tally.is_full.Goals as goal

pub returns : goal.returns
returns c = λ full all more h. full_more all more c.args.tally.now (ltb-true 65536 c.args.tally.now.slots full) h
