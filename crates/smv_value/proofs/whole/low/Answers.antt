use Rattle.std.proofs.Common.{◌∙◌, ap}
use Rattle.std.specs.Prelude.{bit_and}
use Rattle.std.proofs.lemmas.Nat.{and_mask}
use Rattle.smv_value.proofs.whole.low.Goals as goal

pub returns : goal.returns
returns c = ap (bit_and c.args.n) c.all_ones.ensures ∙ and_mask c.args.n c.args.width
