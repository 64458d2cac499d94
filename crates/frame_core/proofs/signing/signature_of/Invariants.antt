use Rattle.frame_core.specs.Signatures.{AreBitsOf}
use Rattle.frame_core.proofs.signing.signature_of.Given as goal

abbrev pub invariant-literals : goal.invariant-literals
invariant-literals l = AreBitsOf l.clause l.l-index l.signature
