-- One number more.
use Rattle.std.proofs.Common.{◌∙◌, refl}
use Rattle.bit_states.proofs.Walking.{range_more}
use Rattle.bit_states.proofs.layout.numbers.Goals as goal

pub loop-n-preserved : goal.loop-n-preserved
loop-n-preserved c = c.in_ok-push.ensures.items ∙ range_more c.args.start c.loop-n.n c.loop-n.numbers.items _ c.loop-n.invariant refl
