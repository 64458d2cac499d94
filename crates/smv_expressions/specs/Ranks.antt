-- The phrases of a rank, as code reads them.
use Rattle.std.specs.Prelude.{ℕ, List}
use Rattle.phrase_forms.specs.Forms.{Form}
use Rattle.smv_tree.specs.declared.token.Token.{Token}
use Rattle.smv_tree.specs.declared.tree.Expr.{Expr}
use Rattle.smv_expressions.specs.declared.ranks.Rank.{Rank}
use Rattle.smv_expressions.specs.declared.ranks.Rank.TheVariants as rank
use Rattle.smv_expressions.specs.Expressions.{Link, chain, link, links, inverted, negation, product, sum, shifted, union, membership, temporal, connection, conjunction, conditional, limit_negation, limit_product, is_zero, under}

-- an operand of a rank
unfoldable pub operand_within : Rank → ℕ → Form Token Expr
operand_within rank.Concatenation room = inverted (is_zero room) (under 0 room)
operand_within rank.Product room = negation (is_zero room) (under 0 room)
operand_within rank.Sum room = product (is_zero room) (under 0 room)
operand_within rank.Shift room = sum (is_zero room) (under 0 room)
operand_within rank.Union room = shifted (is_zero room) (under 0 room)
operand_within rank.Membership room = union (is_zero room) (under 0 room)
operand_within rank.Relation room = membership (is_zero room) (under 0 room)
operand_within rank.Connection room = temporal (is_zero room) (under 0 room)
operand_within rank.Conjunction room = connection (is_zero room) (under 0 room)
operand_within rank.Disjunction room = conjunction (is_zero room) (under 0 room)
operand_within rank.Equivalence room = conditional (is_zero room) (under 0 room)
operand_within rank.LimitProduct room = limit_negation (is_zero room) (under 0 room)
operand_within rank.LimitSum room = limit_product (is_zero room) (under 0 room)

-- an operator of a rank and its right operand
unfoldable pub link_within : Rank → ℕ → Form Token Link
link_within r room = link r (operand_within r room)

-- any number of those
unfoldable pub links_within : Rank → ℕ → Form Token (List Link)
links_within r room = links r (operand_within r room)

-- a phrase of a rank
unfoldable pub phrase_within : Rank → ℕ → Form Token Expr
phrase_within r room = chain r (operand_within r room)
