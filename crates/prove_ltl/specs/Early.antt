-- What less effort finds.
use Rattle.std.specs.Prelude.{Bool, true, false}
use Rattle.prove_ltl.specs.declared.answers.LtlAnswer.{LtlAnswer}
use Rattle.prove_ltl.specs.declared.answers.LtlAnswer.TheVariants.{Unknown}

abbrev pub is_unknown : LtlAnswer → Bool
is_unknown (Unknown cause) = true
is_unknown other = false
