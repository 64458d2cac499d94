use Rattle.bit_formula.specs.Reading.{reads_of}
use Rattle.bit_formula.proofs.Joint.{coded}
use Rattle.bit_formula.proofs.agreement_with_formulas.is_joint_coding.Goals as goal

pub returns : goal.returns
returns c = λ p parts has. coded p (reads_of p parts) has
