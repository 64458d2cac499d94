-- Literals as numbers.
use Rattle.std.specs.Prelude.{ℕ, ◌/◌, ◌%◌, eqb}
use Rattle.clause_core.specs.declared.literal.Lit.{Lit}

-- the literal of a number, which is twice its variable, and one more where it is positive
abbrev pub literal_of : ℕ → Lit
literal_of n = record { var = n / 2; positive = eqb (n % 2) 1 }
