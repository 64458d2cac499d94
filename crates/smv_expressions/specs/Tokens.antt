-- The tokens that phrases begin with, and those that may go on a whole phrase.
use Rattle.std.specs.Prelude.{Bool, ◌||◌}
use Rattle.smv_tree.specs.declared.token.Token.{Token}
use Rattle.smv_tree.specs.declared.token.TokenKind.TheVariants as kind
use Rattle.smv_tree.specs.Kinds.{is_kind}
use Rattle.smv_phrases.specs.Names.{begins_name}
use Rattle.smv_expressions.specs.declared.ranks.Rank.{Rank}
use Rattle.smv_expressions.specs.declared.ranks.Rank.TheVariants as rank
use Rattle.smv_expressions.specs.Operators.{is_operator, is_function, is_step_operator, is_timed_operator}

-- TRUE or FALSE
abbrev pub is_truth : Token → Bool
is_truth t = is_kind kind.True t || is_kind kind.False t

abbrev pub begins_literal : Token → Bool
begins_literal t = is_truth t || is_kind kind.Integer t || is_kind kind.WordConstant t

abbrev pub begins_bracket : Token → Bool
begins_bracket t = is_kind kind.LeftParen t || is_kind kind.LeftBrace t || is_kind kind.Case t

abbrev pub begins_primary : Token → Bool
begins_primary t = begins_literal t || begins_name t || begins_bracket t || is_kind kind.Next t || is_function t

abbrev pub begins_inverted : Token → Bool
begins_inverted t = is_kind kind.Not t || begins_primary t

abbrev pub begins_negation : Token → Bool
begins_negation t = is_kind kind.Minus t || begins_inverted t

abbrev pub begins_denied : Token → Bool
begins_denied t = is_step_operator t || is_timed_operator t || begins_inverted t

abbrev pub begins_expression : Token → Bool
begins_expression t = is_kind kind.Minus t || begins_denied t

-- bounds, or an operand
abbrev pub begins_timed : Token → Bool
begins_timed t = is_kind kind.LeftBracket t || begins_expression t

-- the first token of a limit, where it is no name of the module's own
abbrev pub begins_limit_start : Token → Bool
begins_limit_start t = is_kind kind.Minus t || is_kind kind.Integer t || is_kind kind.LeftParen t || is_kind kind.SelfName t

abbrev pub begins_limit : Token → Bool
begins_limit t = is_kind kind.Minus t || is_kind kind.Integer t || is_kind kind.LeftParen t || begins_name t

-- an operand of a rank
abbrev pub begins_operand : Rank → Token → Bool
begins_operand rank.Concatenation = begins_inverted
begins_operand rank.Product = begins_negation
begins_operand rank.Sum = begins_negation
begins_operand rank.Shift = begins_negation
begins_operand rank.Union = begins_negation
begins_operand rank.Membership = begins_negation
begins_operand rank.Relation = begins_negation
begins_operand rank.Connection = begins_expression
begins_operand rank.Conjunction = begins_expression
begins_operand rank.Disjunction = begins_expression
begins_operand rank.Equivalence = begins_expression
begins_operand rank.LimitProduct = begins_limit
begins_operand rank.LimitSum = begins_limit

-- ".." goes on an integer, "(" the name of a function, "." a name
abbrev pub goes_on_primary : Token → Bool
goes_on_primary t = is_kind kind.Dot t || is_kind kind.DotDot t || is_kind kind.LeftParen t

abbrev pub goes_on_selected : Token → Bool
goes_on_selected t = is_kind kind.LeftBracket t || goes_on_primary t

abbrev pub goes_on_concatenation : Token → Bool
goes_on_concatenation t = is_operator rank.Concatenation t || goes_on_selected t

abbrev pub goes_on_product : Token → Bool
goes_on_product t = is_operator rank.Product t || goes_on_concatenation t

abbrev pub goes_on_sum : Token → Bool
goes_on_sum t = is_operator rank.Sum t || goes_on_product t

abbrev pub goes_on_shift : Token → Bool
goes_on_shift t = is_operator rank.Shift t || goes_on_sum t

abbrev pub goes_on_union : Token → Bool
goes_on_union t = is_operator rank.Union t || goes_on_shift t

abbrev pub goes_on_membership : Token → Bool
goes_on_membership t = is_operator rank.Membership t || goes_on_union t

abbrev pub goes_on_relation : Token → Bool
goes_on_relation t = is_operator rank.Relation t || goes_on_membership t

abbrev pub goes_on_connection : Token → Bool
goes_on_connection t = is_operator rank.Connection t || goes_on_relation t

abbrev pub goes_on_conjunction : Token → Bool
goes_on_conjunction t = is_operator rank.Conjunction t || goes_on_connection t

abbrev pub goes_on_disjunction : Token → Bool
goes_on_disjunction t = is_operator rank.Disjunction t || goes_on_conjunction t

abbrev pub goes_on_conditional : Token → Bool
goes_on_conditional t = is_kind kind.Question t || goes_on_disjunction t

abbrev pub goes_on_equivalence : Token → Bool
goes_on_equivalence t = is_operator rank.Equivalence t || goes_on_conditional t

abbrev pub goes_on_expression : Token → Bool
goes_on_expression t = is_kind kind.Implies t || goes_on_equivalence t

abbrev pub goes_on_limit_negation : Token → Bool
goes_on_limit_negation t = is_kind kind.Dot t

abbrev pub goes_on_limit_product : Token → Bool
goes_on_limit_product t = is_operator rank.LimitProduct t || goes_on_limit_negation t

abbrev pub goes_on_limit : Token → Bool
goes_on_limit t = is_operator rank.LimitSum t || goes_on_limit_product t

-- an operand of a rank
abbrev pub goes_on_operand : Rank → Token → Bool
goes_on_operand rank.Concatenation = goes_on_selected
goes_on_operand rank.Product = goes_on_concatenation
goes_on_operand rank.Sum = goes_on_product
goes_on_operand rank.Shift = goes_on_sum
goes_on_operand rank.Union = goes_on_shift
goes_on_operand rank.Membership = goes_on_union
goes_on_operand rank.Relation = goes_on_membership
goes_on_operand rank.Connection = goes_on_relation
goes_on_operand rank.Conjunction = goes_on_connection
goes_on_operand rank.Disjunction = goes_on_conjunction
goes_on_operand rank.Equivalence = goes_on_conditional
goes_on_operand rank.LimitProduct = goes_on_limit_negation
goes_on_operand rank.LimitSum = goes_on_limit_product

-- the operators of values: they stand behind the first operand of a relation
abbrev pub is_value_operator : Token → Bool
is_value_operator t =
    is_operator rank.Concatenation t || is_operator rank.Product t || is_operator rank.Sum t || is_operator rank.Shift t || is_operator rank.Union t || is_operator rank.Membership t
    || is_operator rank.Relation t
