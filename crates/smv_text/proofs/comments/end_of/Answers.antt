use Rattle.std.proofs.Common.{arith}
use Rattle.smv_text.specs.Comments.{end_of}
use Rattle.std.proofs.lemmas.Grind.{common_steps}
use Rattle.smv_text.proofs.Ends.{end_on}
use Rattle.smv_text.proofs.comments.end_of.Goals as goal

pub loop-n-preserved : goal.loop-n-preserved
loop-n-preserved c = record {
  inside = omega arith;
  rest = end_on c.args.bytes.now c.loop-n.n (end_of c.args.bytes.now) (omega arith) (grind (arith, common_steps)) c.loop-n.invariant.rest;
}
