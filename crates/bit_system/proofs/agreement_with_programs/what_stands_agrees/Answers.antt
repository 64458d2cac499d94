use Rattle.bit_system.proofs.Agreeing.{agreeing}
use Rattle.bit_system.proofs.agreement_with_programs.what_stands_agrees.Goals as goal

pub returns : goal.returns
returns c = λ p spec sys stands. agreeing p spec sys stands
