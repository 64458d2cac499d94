use Rattle.bit_formula.proofs.Agreed.{formula_agrees}
use Rattle.bit_formula.proofs.agreement_with_formulas.what_stands_agrees_with_formulas.Goals as goal

pub returns : goal.returns
returns c = λ p spec r stands. formula_agrees p spec r stands
