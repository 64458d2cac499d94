use Rattle.frame_core.proofs.Signed.{bits_of_more}
use Rattle.frame_core.proofs.signing.signature_of.Goals as goal

pub literals-preserved : goal.literals-preserved
literals-preserved c = bits_of_more c.args.clause.now c.literals.l-index c.literals.signature c.literals.invariant
