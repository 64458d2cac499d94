-- The phrases in the brackets of types, and in an array, are those of the code with one level less to open.
use Rattle.std.proofs.Common.{◌≡◌, ℕ, zero, suc, ◌-◌, ◌<◌, List, refl, arith}
use Rattle.smv_tree.specs.declared.token.Token.{Token}
use Rattle.smv_phrases.specs.Lists.{maybe_listed}
use Rattle.smv_expressions.specs.Expressions.{phrases, under, expression_within, limit_within}
use Rattle.smv_parse.specs.Types.{dimension}

pub under_arguments : (room : ℕ) (ts : List Token) → 0 < room → (maybe_listed (expression_within 0 (room - 1))).parse ts ≡ (maybe_listed (under 0 room).expression).parse ts
unfolding expression_within phrases
under_arguments zero ts h = absurd (omega arith)
under_arguments (suc n) ts h = let m : suc n - 1 ≡ n = omega arith in rw m refl

pub under_dimension : (room : ℕ) (ts : List Token) → 0 < room → (dimension (limit_within 0 (room - 1))).parse ts ≡ (dimension (under 0 room).limit).parse ts
unfolding limit_within phrases
under_dimension zero ts h = absurd (omega arith)
under_dimension (suc n) ts h = let m : suc n - 1 ≡ n = omega arith in rw m refl
