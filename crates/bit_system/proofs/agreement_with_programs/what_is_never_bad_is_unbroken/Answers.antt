use Rattle.bit_states.proofs.Codes.{coding}
use Rattle.bit_system.proofs.Agreeing.{agreeing}
use Rattle.bit_system.proofs.Reaching.{unbroken, unbroken_within}
use Rattle.bit_system.proofs.agreement_with_programs.what_is_never_bad_is_unbroken.Goals as goal

pub returns-clause-all : goal.returns-clause-all
returns-clause-all c = λ p spec sys stands safe. unbroken p spec sys (agreeing p spec sys stands) (coding p stands.types) safe

pub returns-clause-within : goal.returns-clause-within
returns-clause-within c = λ p spec sys n stands safe. unbroken_within p spec sys (agreeing p spec sys stands) (coding p stands.types) n safe
