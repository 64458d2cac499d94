use Rattle.smv_value.proofs.Bits.{all_ones_is}
use Rattle.smv_kinds.proofs.words.all_ones.Goals as goal

pub returns : goal.returns
returns c = all_ones_is c.args.width c.requires
