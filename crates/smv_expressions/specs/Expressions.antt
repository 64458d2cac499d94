-- The expressions of the language (NuSMV 2.6 User Manual, 2.2), and the limits of its types. The levels of precedence
-- are an own choice of this project.
use Rattle.std.specs.Prelude.{ℕ, zero, suc, Bool, true, false, List, [], ◌∷◌, Option, None, Some, unwrap_or}
use Rattle.std.specs.List.{flat_map}
use Rattle.phrase_forms.specs.Forms.{Form, token, or, maybe, many, to, named, ◌⨾◌, ◌▹◌, ◌◃◌}
use Rattle.phrase_forms.specs.Depending.{pure, after}
use Rattle.smv_tree.specs.declared.place.Place.{Place}
use Rattle.smv_tree.specs.declared.token.Token.{Token}
use Rattle.smv_tree.specs.declared.token.TokenKind.{TokenKind}
use Rattle.smv_tree.specs.declared.token.TokenKind.TheVariants as kind
use Rattle.smv_value.specs.declared.operator.Operator.{Operator}
use Rattle.smv_value.specs.declared.operator.Operator.TheVariants as operator
use Rattle.smv_value.specs.declared.operator.Logic.TheVariants as logic
use Rattle.smv_value.specs.declared.operator.Temporal.{Temporal}
use Rattle.smv_value.specs.declared.operator.Temporal.TheVariants as tense
use Rattle.smv_value.specs.declared.operator.Bounded.{Bounded}
use Rattle.smv_value.specs.declared.operator.Bounded.TheVariants as bounded
use Rattle.smv_value.specs.declared.value.FaultRule.TheVariants as rule
use Rattle.smv_value.specs.declared.value.Value.TheVariants as value
use Rattle.smv_tree.specs.declared.tree.Expr.{Expr}
use Rattle.smv_tree.specs.declared.tree.Expr.TheVariants as expr
use Rattle.smv_tree.specs.declared.tree.Identifier.{Identifier}
use Rattle.smv_tree.specs.declared.tree.Name.{Name}
use Rattle.smv_tree.specs.declared.tree.Start.TheVariants as start
use Rattle.smv_tree.specs.Kinds.{is_kind}
use Rattle.smv_phrases.specs.declared.names.NameStart.TheVariants as may
use Rattle.smv_phrases.specs.Names.{just, opening, identifier_of, member, name_from, place_of}
use Rattle.smv_phrases.specs.Lists.{listed}
use Rattle.smv_phrases.specs.Numbers.{integer_value, word_value}
use Rattle.smv_expressions.specs.declared.ranks.Rank.{Rank}
use Rattle.smv_expressions.specs.declared.ranks.Rank.TheVariants as rank
use Rattle.smv_expressions.specs.Operators.{found, operator_form, function_of, is_function, named_function, names_function, step_operator, is_step_operator, timed_operator, is_timed_operator, unbounded}
use Rattle.smv_expressions.specs.Tokens.{is_truth, begins_primary, begins_inverted, begins_negation, begins_denied, begins_expression, begins_timed, begins_limit, begins_operand, goes_on_primary, goes_on_selected, goes_on_concatenation, goes_on_relation, goes_on_disjunction, goes_on_conditional, goes_on_equivalence, goes_on_expression, goes_on_limit_negation, goes_on_limit, goes_on_operand, is_value_operator}

-- the bounds of a temporal operator
abbrev pub Bounds : Type 0
Bounds = Expr × Expr

-- the bounds of a temporal operator, if it has some, and its operand
abbrev pub Timed : Type 0
Timed = Option Bounds × Expr

-- an operand of a temporal operator as far as it may be denied, and whether it begins with a temporal operator itself
abbrev pub Denied : Type 0
Denied = Bool × Expr

-- an operator at its place, and its right operand
abbrev pub Link : Type 0
Link = Place × Operator × Expr

-- the phrases that stand under a level
pub record Phrases : Type 1 where
  pub expression : Form Token Expr
  pub conditional : Form Token Expr
  pub inverted : Form Token Expr
  pub negation : Form Token Expr
  pub denied : Form Token Denied
  pub temporal : Form Token Expr
  pub timed : Form Token Timed
  pub limit : Form Token Expr
  pub limit_negation : Form Token Expr

-- an operator over operands a level below
abbrev pub over_all : Place → Operator → List Expr → Expr
over_all place o operands = expr.Apply place o [] operands

abbrev pub below : Place → Operator → Expr → Expr
below place o e = over_all place o (e ∷ [])

-- Operators between operands.

-- an operator of a rank, and its right operand
abbrev pub link : Rank → Form Token Expr → Form Token Link
link r operand = to (λ x. (x.0.0, x.0.1, x.1)) (operator_form r ⨾ named (begins_operand r) (goes_on_operand r) operand)

-- any number of those
abbrev pub links : Rank → Form Token Expr → Form Token (List Link)
links r operand = many (link r operand)

-- one operand is itself, and more are one node
abbrev pub chain_of : Expr → List Link → Expr
chain_of first [] = first
chain_of first (link ∷ links) = expr.Chain first (link ∷ links)

-- an operand, and any number more behind the operators of the rank
abbrev pub chain : Rank → Form Token Expr → Form Token Expr
chain r operand = to (λ x. chain_of x.0 x.1) (named (begins_operand r) (goes_on_operand r) operand ⨾ links r operand)

-- what stands behind an operand: the links of one rank, and then those of the ranks that bind less
abbrev pub beside : Form Token (List Link) → Form Token (List (List Link)) → Form Token (List (List Link))
beside one others = to (λ x. x.0 ∷ x.1) (one ⨾ others)

abbrev pub alone : Form Token (List Link) → Form Token (List (List Link))
alone one = to (λ links. links ∷ []) one

-- an operand and what stands behind it
abbrev pub chained : Expr → List (List Link) → Expr
chained first [] = first
chained first (one ∷ others) = chained (chain_of first one) others

-- Primary expressions.

abbrev pub truth_of : Token → Expr
truth_of t = expr.Constant t.place (value.Bool (is_kind kind.True t))

abbrev pub integer_of : Token → Expr
integer_of t = expr.Constant t.place (integer_value t)

abbrev pub word_of : Token → Expr
word_of t = expr.Constant t.place (word_value t)

abbrev pub range_of : Token × Option (Token × Token) → Expr
range_of (t, None) = integer_of t
range_of (t, Some x) = expr.Apply x.0.place operator.Range (integer_of t ∷ integer_of x.1 ∷ []) []

-- integer, or integer ".." integer
unfoldable pub integers : Form Token Expr
integers = to range_of (just kind.Integer ⨾ maybe (just kind.DotDot ⨾ just kind.Integer))

-- "(" expression ")", the opening token and what stands behind it
abbrev pub parenthesised : Bool → Form Token Expr → Form Token (Token × Expr)
parenthesised closed e = opening closed kind.LeftParen ⨾ e ◃ just kind.RightParen

abbrev pub group_of : Token × Expr → Expr
group_of x = expr.Group x.0.place x.1

-- "next" and what it is of, in parentheses
abbrev pub next_of : Token × (Token × Expr) → Expr
next_of x = expr.Next x.0.place x.1.1

-- "{", expressions with commas between them, and "}"
abbrev pub members : Bool → Form Token Expr → Form Token (Token × List Expr)
members closed e = opening closed kind.LeftBrace ⨾ listed e ◃ just kind.RightBrace

abbrev pub set_of : Token × List Expr → Expr
set_of x = over_all x.0.place operator.Members x.1

-- expression ":" expression ";"
abbrev pub branch : Form Token Expr → Form Token (Expr × Expr)
branch e = e ⨾ just kind.Colon ▹ e ◃ just kind.Semicolon

-- conditions and their values by turns
abbrev pub by_turns : List (Expr × Expr) → List Expr
by_turns branches = flat_map (λ (b : Expr × Expr). b.0 ∷ b.1 ∷ []) branches

-- one branch or more
abbrev pub turns : Form Token Expr → Form Token (List Expr)
turns e = to (λ x. by_turns (x.0 ∷ x.1)) (branch e ⨾ many (branch e))

-- "case", branches, and "esac"
abbrev pub cases : Bool → Form Token Expr → Form Token (Token × List Expr)
cases closed e = opening closed kind.Case ⨾ turns e ◃ just kind.Esac

abbrev pub case_of : Token × List Expr → Expr
case_of x = over_all x.0.place (operator.Choice rule.CaseOpen) x.1

-- "(", expressions with commas between them, and ")"
abbrev pub arguments : Bool → Form Token Expr → Form Token (List Expr)
arguments closed e = opening closed kind.LeftParen ▹ listed e ◃ just kind.RightParen

abbrev pub call_of : Token × List Expr → Expr
call_of x = over_all x.0.place (found (function_of x.0.kind)) x.1

-- a word that names a function before "(", and what the function is given, if it is one
abbrev pub Named : Type 0
Named = Token × Option (List Expr)

-- a function has no members; an identifier may have some
abbrev pub members_of : Named → Form Token (List Identifier)
members_of (t, None) = many member
members_of (t, Some given) = pure []

abbrev pub named_of : Named × List Identifier → Expr
named_of ((t, None), members) = expr.Name (record { start = start.Own (identifier_of t); members = members })
named_of ((t, Some given), members) = over_all t.place (found (named_function t.kind)) given

unfoldable pub function_or_name : Bool → Form Token Expr → Form Token Expr
function_or_name closed e = to named_of (after (token false names_function ⨾ maybe (arguments closed e)) (is_kind kind.Dot) (is_kind kind.Dot) true members_of)

-- "next" "(" expression ")", or a function whose name is a reserved word and what it is given
unfoldable pub next_or_call : Bool → Form Token Expr → Form Token Expr
next_or_call closed e = or (to next_of (just kind.Next ⨾ parenthesised closed e)) (to call_of (token false is_function ⨾ arguments closed e))

-- those, or an expression in parentheses, a set, or "case" and its branches
unfoldable pub compound : Bool → Form Token Expr → Form Token Expr
compound closed e = or (to group_of (parenthesised closed e)) (or (to set_of (members closed e)) (or (to case_of (cases closed e)) (next_or_call closed e)))

-- a constant, a name, a function and what it is given, or one of those
unfoldable pub primary : Bool → Phrases → Form Token Expr
primary closed under =
    or (to truth_of (token false is_truth))
    (or integers
    (or (to word_of (just kind.WordConstant))
    (or (function_or_name closed under.expression)
    (or (to expr.Name (name_from may.Plain)) (compound closed under.expression)))))

-- one expression behind "[", or two
abbrev pub Selection : Type 0
Selection = Token × (Expr × Option Expr)

-- "[" expression "]", or "[" expression ":" expression "]"
abbrev pub selection : Bool → Form Token Expr → Form Token Selection
selection closed e = opening closed kind.LeftBracket ⨾ e ⨾ maybe (just kind.Colon ▹ e) ◃ just kind.RightBracket

abbrev pub selected_by : Expr → Selection → Expr
selected_by e (t, (i, None)) = expr.Apply t.place operator.Index (e ∷ []) (i ∷ [])
selected_by e (t, (high, Some low)) = expr.Apply t.place operator.Select (e ∷ []) (high ∷ low ∷ [])

-- one selection after the other
abbrev pub selected_by_all : Expr → List Selection → Expr
selected_by_all e [] = e
selected_by_all e (s ∷ selections) = selected_by_all (selected_by e s) selections

-- a primary expression, and what is selected of it
unfoldable pub selected : Bool → Phrases → Form Token Expr
selected closed under = to (λ x. selected_by_all x.0 x.1) (named begins_primary goes_on_primary (primary closed under) ⨾ many (selection closed under.expression))

-- Values.

abbrev pub not_of : Token × Expr → Expr
not_of x = below x.0.place operator.Not x.1

-- "!" inverted
unfoldable pub inverted : Bool → Phrases → Form Token Expr
inverted closed under = or (to not_of (opening closed kind.Not ⨾ under.inverted)) (named begins_primary goes_on_selected (selected closed under))

unfoldable pub concatenation : Bool → Phrases → Form Token Expr
concatenation closed under = chain rank.Concatenation (inverted closed under)

abbrev pub minus_of : Token × Expr → Expr
minus_of x = below x.0.place operator.Negate x.1

-- "-" negation
abbrev pub negated : Bool → Phrases → Form Token Expr
negated closed under = to minus_of (opening closed kind.Minus ⨾ under.negation)

unfoldable pub negation : Bool → Phrases → Form Token Expr
negation closed under = or (negated closed under) (concatenation closed under)

unfoldable pub product : Bool → Phrases → Form Token Expr
product closed under = chain rank.Product (negation closed under)

unfoldable pub sum : Bool → Phrases → Form Token Expr
sum closed under = chain rank.Sum (product closed under)

unfoldable pub shifted : Bool → Phrases → Form Token Expr
shifted closed under = chain rank.Shift (sum closed under)

unfoldable pub union : Bool → Phrases → Form Token Expr
union closed under = chain rank.Union (shifted closed under)

unfoldable pub membership : Bool → Phrases → Form Token Expr
membership closed under = chain rank.Membership (union closed under)

-- Temporal operators.

-- limit "," limit "]"
abbrev pub bounds_end : Form Token Expr → Form Token Bounds
bounds_end limit = limit ⨾ just kind.Comma ▹ limit ◃ just kind.RightBracket

-- each bound stands in the brackets as in parentheses
abbrev pub bounds_of : Token × Bounds → Bounds
bounds_of x = (group_of (x.0, x.1.0), group_of (x.0, x.1.1))

-- "[" limit "," limit "]"
unfoldable pub bounds : Bool → Phrases → Form Token Bounds
bounds closed under = to bounds_of (opening closed kind.LeftBracket ⨾ bounds_end under.limit)

-- a temporal operator over its operand, with bounds or without
abbrev pub timed_by : Place → Bounded → Timed → Expr
timed_by place o (None, e) = below place (operator.Temporal (unbounded o)) e
timed_by place o (Some x, e) = over_all place (operator.Window o) (x.0 ∷ x.1 ∷ e ∷ [])

-- the operators that are found; none is looked for where none is found
abbrev pub stepping : TokenKind → Temporal
stepping k = unwrap_or (step_operator k) tense.Next

abbrev pub timing : TokenKind → Bounded
timing k = unwrap_or (timed_operator k) bounded.Finally

abbrev pub denied_again : Token × Denied → Denied
denied_again x = (x.1.0, not_of (x.0, x.1.1))

abbrev pub stepped : Token × Expr → Denied
stepped x = (true, below x.0.place (operator.Temporal (stepping x.0.kind)) x.1)

abbrev pub timed_of : Token × Timed → Denied
timed_of x = (true, timed_by x.0.place (timing x.0.kind) x.1)

-- "!" and what it denies, a temporal operator and its operand, or a primary expression and what is selected of it
unfoldable pub denied : Bool → Phrases → Form Token Denied
denied closed under =
    or (to denied_again (opening closed kind.Not ⨾ under.denied))
    (or (to stepped (token closed is_step_operator ⨾ under.temporal))
    (or (to timed_of (token closed is_timed_operator ⨾ under.timed)) (to (λ e. (false, e)) (named begins_primary goes_on_selected (selected closed under)))))

-- what stands behind a negation, up to a relation
unfoldable pub compared : Bool → Phrases → Form Token (List (List Link))
compared closed under =
    beside (links rank.Product (negation closed under))
    (beside (links rank.Sum (product closed under))
    (beside (links rank.Shift (sum closed under))
    (beside (links rank.Union (shifted closed under))
    (beside (links rank.Membership (union closed under))
    (alone (links rank.Relation (membership closed under)))))))

-- what follows: nothing behind a temporal operator and its operand; behind a plain operand what makes it a relation
abbrev pub tails : Bool → Phrases → Denied → Form Token Expr
tails closed under (true, e) = pure e
tails closed under (false, e) = to (chained e) (beside (links rank.Concatenation (inverted closed under)) (compared closed under))

-- An operand of temporal operators: a relation, or an operator over such an operand. "!" is over a temporal operator as
-- a whole, and over the first operand of a relation.
unfoldable pub temporal : Bool → Phrases → Form Token Expr
temporal closed under =
    or (to (λ x. chained x.0 x.1) (negated closed under ⨾ compared closed under))
    (to (λ x. x.1) (after (named begins_denied goes_on_relation (denied closed under)) is_value_operator goes_on_relation true (tails closed under)))

-- bounds and an operand, or an operand
unfoldable pub timed : Bool → Phrases → Form Token Timed
timed closed under = maybe (bounds closed under) ⨾ named begins_expression goes_on_relation (temporal closed under)

unfoldable pub connection : Bool → Phrases → Form Token Expr
connection closed under = chain rank.Connection (temporal closed under)

unfoldable pub conjunction : Bool → Phrases → Form Token Expr
conjunction closed under = chain rank.Conjunction (connection closed under)

unfoldable pub disjunction : Bool → Phrases → Form Token Expr
disjunction closed under = chain rank.Disjunction (conjunction closed under)

-- Expressions.

abbrev pub chosen_by : Expr → Token × (Expr × Expr) → Expr
chosen_by condition x = expr.Apply x.0.place (operator.Choice rule.CaseOpen) (condition ∷ []) (x.1.0 ∷ x.1.1 ∷ [])

abbrev pub conditional_of : Expr × Option (Token × (Expr × Expr)) → Expr
conditional_of (e, None) = e
conditional_of (e, Some x) = chosen_by e x

-- "?" expression ":" conditional, both one level deeper
abbrev pub choices : Bool → Phrases → Form Token (Token × (Expr × Expr))
choices closed under = opening closed kind.Question ⨾ under.expression ⨾ just kind.Colon ▹ under.conditional

-- a condition, and its branches: what stands behind ":" may have branches itself, so "? :" associates to the right
unfoldable pub conditional : Bool → Phrases → Form Token Expr
conditional closed under = to conditional_of (named begins_expression goes_on_disjunction (disjunction closed under) ⨾ maybe (choices closed under))

unfoldable pub equivalence : Bool → Phrases → Form Token Expr
equivalence closed under = chain rank.Equivalence (conditional closed under)

abbrev pub implication_of : Expr × Option (Token × Expr) → Expr
implication_of (e, None) = e
implication_of (e, Some x) = expr.Apply x.0.place (operator.Logic logic.Implies) (e ∷ []) (x.1 ∷ [])

-- "->" associates to the right: its right side is a whole expression, one level deeper
unfoldable pub implication : Bool → Phrases → Form Token Expr
implication closed under =
    to implication_of (named begins_expression goes_on_equivalence (equivalence closed under) ⨾ maybe (opening closed kind.Implies ⨾ under.expression))

-- The limits of types: the ends of a range, and the width of a word.

-- an expression and its place
abbrev pub Placed : Type 0
Placed = Place × Expr

abbrev pub placed_minus : Token × Expr → Placed
placed_minus x = (x.0.place, minus_of x)

abbrev pub placed_integer : Token → Placed
placed_integer t = (t.place, integer_of t)

abbrev pub placed_group : Token × Expr → Placed
placed_group x = (x.0.place, group_of x)

abbrev pub placed_name : Name → Placed
placed_name n = (place_of n, expr.Name n)

-- "-" and what it negates, an integer, "(" limit ")", or a name that begins with "self"; and its place
unfoldable pub limit_start : Bool → Phrases → Form Token Placed
limit_start closed under =
    or (to placed_minus (opening closed kind.Minus ⨾ under.limit_negation))
    (or (to placed_integer (just kind.Integer))
    (or (to placed_group (parenthesised closed under.limit)) (to placed_name (name_from may.Itself))))

-- one of those, or a name
unfoldable pub limit_negation : Bool → Phrases → Form Token Expr
limit_negation closed under = or (to (λ x. x.1) (limit_start closed under)) (to expr.Name (name_from may.Own))

unfoldable pub limit_product : Bool → Phrases → Form Token Expr
limit_product closed under = chain rank.LimitProduct (limit_negation closed under)

unfoldable pub limit : Bool → Phrases → Form Token Expr
limit closed under = chain rank.LimitSum (limit_product closed under)

-- what stands behind the first token of a limit, or behind what that token begins
unfoldable pub limited : Bool → Phrases → Form Token (List (List Link))
limited closed under = beside (links rank.LimitProduct (limit_negation closed under)) (alone (links rank.LimitSum (limit_product closed under)))

-- Levels.

-- the same phrases, with these tokens for what they begin with and what goes on them
abbrev pub known : Phrases → Phrases
known p = record {
  expression = named begins_expression goes_on_expression p.expression;
  conditional = named begins_expression goes_on_conditional p.conditional;
  inverted = named begins_inverted goes_on_selected p.inverted;
  negation = named begins_negation goes_on_concatenation p.negation;
  denied = named begins_denied goes_on_relation p.denied;
  temporal = named begins_expression goes_on_relation p.temporal;
  timed = named begins_timed goes_on_relation p.timed;
  limit = named begins_limit goes_on_limit p.limit;
  limit_negation = named begins_limit goes_on_limit_negation p.limit_negation;
}

-- under the last level of all only an integer is asked for
abbrev pub deepest : Phrases
deepest = let t : Form Token Expr = to integer_of (just kind.Integer) in record {
  expression = t;
  conditional = t;
  inverted = t;
  negation = t;
  denied = to (λ e. (false, e)) t;
  temporal = t;
  timed = to (λ e. (None, e)) t;
  limit = t;
  limit_negation = t;
}

-- the phrases over those of the level below; where it is closed, no level may be opened
abbrev pub over : Bool → Phrases → Phrases
over closed under = let p = known under in record {
  expression = implication closed p;
  conditional = conditional closed p;
  inverted = inverted closed p;
  negation = negation closed p;
  denied = denied closed p;
  temporal = temporal closed p;
  timed = timed closed p;
  limit = limit closed p;
  limit_negation = limit_negation closed p;
}

abbrev pub is_zero : ℕ → Bool
is_zero zero = true
is_zero (suc n) = false

-- phrases that stand past the limit already, and open at most so many levels more
unfoldable pub beyond : ℕ → Phrases
beyond zero = deepest
beyond (suc past) = over true (beyond past)

-- phrases in which so many levels less one may be opened, and then `past` that are too many
unfoldable pub phrases : ℕ → ℕ → Phrases
phrases past zero = beyond past
phrases past (suc room) = over (is_zero room) (phrases past room)

-- so many levels may be open at one place: an own choice of this project
abbrev pub most_levels : ℕ
most_levels = 256

-- the phrases under a level, where so many levels may be opened, and then `past` that are too many
abbrev pub under : ℕ → ℕ → Phrases
under past room = known (phrases past room)

-- an expression in which so many levels may be opened, and then `past` that are too many
unfoldable pub expression_within : ℕ → ℕ → Form Token Expr
expression_within past room = named begins_expression goes_on_expression (phrases past (suc room)).expression

-- limits and their parts, likewise
unfoldable pub limit_within : ℕ → ℕ → Form Token Expr
limit_within past room = named begins_limit goes_on_limit (phrases past (suc room)).limit

unfoldable pub limit_start_within : ℕ → ℕ → Form Token Placed
limit_start_within past room = limit_start (is_zero room) (under past room)

unfoldable pub limited_within : ℕ → ℕ → Form Token (List (List Link))
limited_within past room = limited (is_zero room) (under past room)

-- what is selected of a name, likewise
unfoldable pub index_within : ℕ → ℕ → Form Token Selection
index_within past room = to (λ x. (x.0, (x.1, None))) (opening (is_zero room) kind.LeftBracket ⨾ (under past room).expression ◃ just kind.RightBracket)
