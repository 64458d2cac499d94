use Rattle.bit_formula.proofs.Outcomes.{all_read}
use Rattle.bit_formula.proofs.agreement_with_formulas.what_is_read.Goals as goal

pub returns : goal.returns
returns c = λ p parts. all_read p parts
