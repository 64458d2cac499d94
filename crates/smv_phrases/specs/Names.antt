-- Single tokens, and the names that they spell (NuSMV 2.6 User Manual, 2.3.13).
use Rattle.std.specs.Prelude.{Bool, false, ◌||◌, if◌then◌else◌}
use Rattle.phrase_forms.specs.Forms.{Form, token, many, to, ◌⨾◌, ◌▹◌}
use Rattle.smv_tree.specs.declared.place.Place.{Place}
use Rattle.smv_tree.specs.declared.token.Token.{Token}
use Rattle.smv_tree.specs.declared.token.TokenKind.{TokenKind}
use Rattle.smv_tree.specs.declared.token.TokenKind.TheVariants as kind
use Rattle.smv_tree.specs.declared.tree.Identifier.{Identifier}
use Rattle.smv_tree.specs.declared.tree.Start.{Start}
use Rattle.smv_tree.specs.declared.tree.Start.TheVariants as start
use Rattle.smv_tree.specs.declared.tree.Name.{Name}
use Rattle.smv_tree.specs.Kinds.{is_kind, is_identifier}
use Rattle.smv_phrases.specs.declared.names.NameStart.{NameStart}
use Rattle.smv_phrases.specs.declared.names.NameStart.TheVariants as may

-- one token of this kind
abbrev pub just : TokenKind → Form Token Token
just k = token false (is_kind k)

-- one token of this kind, which opens a level
abbrev pub opening : Bool → TokenKind → Form Token Token
opening closed k = token closed (is_kind k)

abbrev pub identifier : Form Token Token
identifier = token false is_identifier

abbrev pub identifier_of : Token → Identifier
identifier_of t = record { place = t.place; name = t.text }

-- a name begins with an identifier or with "self"
abbrev pub begins_name : Token → Bool
begins_name t = is_identifier t || is_kind kind.SelfName t

abbrev pub start_of : Token → Start
start_of t = if is_identifier t then start.Own (identifier_of t) else start.Itself t.place

-- "." identifier
unfoldable pub member : Form Token Identifier
member = to identifier_of (just kind.Dot ▹ identifier)

-- the tokens that a name begins with, where only some names may stand
abbrev pub starts_name : NameStart → Token → Bool
starts_name may.Any = begins_name
starts_name may.Plain = λ t. is_kind kind.Identifier t || is_kind kind.SelfName t
starts_name may.Own = is_identifier
starts_name may.Itself = is_kind kind.SelfName

-- one of those tokens, and members
unfoldable pub name_from : NameStart → Form Token Name
name_from which = to (λ x. record { start = x.0; members = x.1 }) (to start_of (token false (starts_name which)) ⨾ many member)

-- an identifier or "self", and its members
abbrev pub name : Form Token Name
name = name_from may.Any

abbrev pub start_place : Start → Place
start_place (start.Own i) = i.place
start_place (start.Itself p) = p

-- a name stands at its first token
abbrev pub place_of : Name → Place
place_of n = start_place n.start
