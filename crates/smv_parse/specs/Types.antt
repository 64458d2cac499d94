-- Types as they are written (NuSMV 2.6 User Manual, 2.1 and 2.3.1). Each form is told how many levels past the limit
-- may be opened in it, and before that how many within the limit.
use Rattle.std.specs.Prelude.{ℕ, zero, suc, ◌-◌, Bool, true, false, ◌||◌, List, [], ◌∷◌, ◌++◌, None, Some, unwrap_or, pos, neg_ℤ}
use Rattle.phrase_forms.specs.Forms.{Form, token, or, maybe, many, to, named, ◌⨾◌, ◌▹◌, ◌◃◌}
use Rattle.phrase_forms.specs.Depending.{after}
use Rattle.smv_tree.specs.declared.token.Token.{Token}
use Rattle.smv_tree.specs.declared.token.TokenKind.TheVariants as kind
use Rattle.smv_tree.specs.declared.tree.Dimension.{Dimension}
use Rattle.smv_tree.specs.declared.tree.Identifier.{Identifier}
use Rattle.smv_tree.specs.declared.tree.Start.TheVariants as start
use Rattle.smv_tree.specs.declared.tree.TypeExpr.{TypeExpr}
use Rattle.smv_tree.specs.declared.tree.TypeExpr.TheVariants as type
use Rattle.smv_tree.specs.declared.tree.WrittenElement.{WrittenElement}
use Rattle.smv_tree.specs.declared.tree.Expr.{Expr}
use Rattle.smv_tree.specs.declared.tree.Expr.TheVariants as expr
use Rattle.smv_tree.specs.Kinds.{is_kind}
use Rattle.smv_phrases.specs.Names.{just, opening, identifier, identifier_of, member}
use Rattle.smv_phrases.specs.Lists.{listed, maybe_listed}
use Rattle.smv_phrases.specs.Numbers.{number_of}
use Rattle.smv_expressions.specs.Tokens.{begins_limit, goes_on_limit}
use Rattle.smv_expressions.specs.Expressions.{Link, Placed, chained, is_zero, under, limit_within, limit_start_within, limited_within}

-- Words, and enumerations. Their brackets and the "-" of an element open a level each.

-- "[" limit "]"
abbrev pub width : ℕ → ℕ → Form Token Expr
width past room = opening (is_zero room) kind.LeftBracket ▹ (under past room).limit ◃ just kind.RightBracket

-- "word" width
unfoldable pub word_type : ℕ → ℕ → Form Token TypeExpr
word_type past room = to (λ x. type.Word x.0.place false x.1) (just kind.Word ⨾ width past room)

-- "unsigned" or "signed"
abbrev pub is_sign : Token → Bool
is_sign t = is_kind kind.Unsigned t || is_kind kind.Signed t

-- one of those and "word" width
unfoldable pub signed_type : ℕ → ℕ → Form Token TypeExpr
signed_type past room = to (λ x. type.Word x.0.place (is_kind kind.Signed x.0) x.1) (token false is_sign ⨾ just kind.Word ▹ width past room)

abbrev pub symbol_of : Token → WrittenElement
symbol_of t = record { place = t.place; text = t.text; number = None }

abbrev pub integer_of : Token → WrittenElement
integer_of t = record { place = t.place; text = t.text; number = Some (pos (number_of t)) }

abbrev pub negative_of : Token × Token → WrittenElement
negative_of x = record { place = x.0.place; text = x.0.text ++ x.1.text; number = Some (neg_ℤ (pos (number_of x.1))) }

-- identifier, integer, or "-" integer, where no level may be opened if `closed` is true
unfoldable pub element : Bool → Form Token WrittenElement
element closed = or (to symbol_of identifier) (or (to integer_of (just kind.Integer)) (to negative_of (opening closed kind.Minus ⨾ just kind.Integer)))

-- "{", elements with commas between them, and "}"
unfoldable pub enumeration : ℕ → Form Token TypeExpr
enumeration room = to (λ x. type.Enumeration x.0.place x.1) (opening (is_zero room) kind.LeftBrace ⨾ listed (element (is_zero (room - 1))) ◃ just kind.RightBrace)

-- ".." limit
abbrev pub upper : ℕ → ℕ → Form Token Expr
upper past room = just kind.DotDot ▹ limit_within past room

-- An identifier that is the whole of a type, or stands before "(" there, is the name of a module; else a limit begins
-- with it.

abbrev pub instance_of : Token → List Expr → TypeExpr
instance_of t given = type.Instance t.place t.text given

-- "(", what the instance is given, and ")"
abbrev pub given : ℕ → ℕ → Form Token (List Expr)
given past room = opening (is_zero room) kind.LeftParen ▹ maybe_listed (under past room).expression ◃ just kind.RightParen

-- what follows the identifier that a range begins with: the members of the name, what stands behind it in the limit,
-- and the other limit
abbrev pub NamedRange : Type 0
NamedRange = List Identifier × (List (List Link) × Expr)

unfoldable pub named_range : ℕ → ℕ → Form Token NamedRange
named_range past room = many member ⨾ limited_within past room ⨾ upper past room

abbrev pub named_limit : Token → List Identifier → Expr
named_limit t members = expr.Name (record { start = start.Own (identifier_of t); members = members })

abbrev pub range_of : Token → NamedRange → TypeExpr
range_of t x = type.Range t.place (chained (named_limit t x.0) x.1.0) x.1.1

-- the tokens that go on the identifier in a range, and in any type
abbrev pub goes_on_range : Token → Bool
goes_on_range t = is_kind kind.DotDot t || goes_on_limit t

abbrev pub goes_on_identifier : Token → Bool
goes_on_identifier t = is_kind kind.LeftParen t || goes_on_range t

unfoldable pub behind_identifier : ℕ → ℕ → Token → Form Token TypeExpr
behind_identifier past room t =
    to (λ x. unwrap_or x (instance_of t [])) (maybe (or (to (instance_of t) (given past room)) (to (range_of t) (named goes_on_range goes_on_limit (named_range past room)))))

unfoldable pub identifier_type : ℕ → ℕ → Form Token TypeExpr
identifier_type past room = to (λ x. x.1) (after identifier goes_on_identifier goes_on_identifier true (behind_identifier past room))

abbrev pub placed_range : Placed × (List (List Link) × Expr) → TypeExpr
placed_range x = type.Range x.0.0 (chained x.0.1 x.1.0) x.1.1

-- limit ".." limit, where the first begins with no identifier
unfoldable pub range_type : ℕ → ℕ → Form Token TypeExpr
range_type past room = to placed_range (limit_start_within past room ⨾ limited_within past room ⨾ upper past room)

-- "boolean", a word, an enumeration, an instance of a module, or a range
unfoldable pub plain_type : ℕ → ℕ → Form Token TypeExpr
plain_type past room =
    or (to (λ t. type.Boolean t.place) (just kind.Boolean))
    (or (word_type past room) (or (signed_type past room) (or (enumeration room) (or (identifier_type past room) (range_type past room)))))

-- Arrays. Their word opens a level, in which the limits of the indices stand, and the type of the elements.

-- limit ".." limit
abbrev pub dimension : Form Token Expr → Form Token Dimension
dimension limit = to (λ x. record { low = x.0; high = x.1 }) (limit ⨾ just kind.DotDot ▹ limit)

-- "array" dimension "of"
unfoldable pub array_head : ℕ → ℕ → Form Token Dimension
array_head past room = opening (is_zero room) kind.Array ▹ dimension (under past room).limit ◃ just kind.Of

-- the dimensions of an array, the outermost first, and the type of its elements; or no dimension and a type
abbrev pub Written : Type 0
Written = List Dimension × TypeExpr

abbrev pub array_of : Dimension × Written → Written
array_of x = (x.0 ∷ x.1.0, x.1.1)

abbrev pub begins_type : Token → Bool
begins_type t = is_kind kind.Boolean t || is_kind kind.Word t || is_sign t || is_kind kind.LeftBrace t || is_kind kind.Array t || begins_limit t

abbrev pub known_type : Form Token Written → Form Token Written
known_type written = named begins_type goes_on_identifier written

-- an array over the types of the level below, or a type that is none
abbrev pub type_over : ℕ → ℕ → Form Token Written → Form Token Written
type_over past room elements = or (to array_of (array_head past room ⨾ known_type elements)) (to (λ t. ([], t)) (plain_type past room))

-- types that stand past the limit already, and open at most so many levels more; under the last of all only "boolean"
-- is asked for
unfoldable pub types_beyond : ℕ → Form Token Written
types_beyond zero = to (λ t. ([], type.Boolean t.place)) (just kind.Boolean)
types_beyond (suc past) = type_over past 0 (types_beyond past)

-- types in which so many levels less one may be opened, and then `past` that are too many
unfoldable pub types : ℕ → ℕ → Form Token Written
types past zero = types_beyond past
types past (suc room) = type_over past room (types past room)

-- a type in which so many levels may be opened, and then `past` that are too many
unfoldable pub written_type : ℕ → ℕ → Form Token Written
written_type past room = known_type (types past (suc room))
