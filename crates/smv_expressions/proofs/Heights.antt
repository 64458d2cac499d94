-- Numbers that fall from a phrase to its parts.
use Rattle.std.proofs.Common.{ℕ}
use Rattle.smv_expressions.specs.declared.ranks.Rank.{Rank}
use Rattle.smv_expressions.specs.declared.ranks.Rank.TheVariants as rank

-- a number for each rank, which falls from a phrase to its operands; other phrases stand between two ranks
abbrev pub height : Rank → ℕ
height rank.Concatenation = 2
height rank.Product = 4
height rank.Sum = 5
height rank.Shift = 6
height rank.Union = 7
height rank.Membership = 8
height rank.Relation = 9
height rank.Connection = 16
height rank.Conjunction = 17
height rank.Disjunction = 18
height rank.Equivalence = 23
height rank.LimitProduct = 1
height rank.LimitSum = 2
