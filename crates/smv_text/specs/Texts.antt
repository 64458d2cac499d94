-- The tokens of a text, and why a text is refused.
use Rattle.std.specs.Prelude.{◌≡◌, ℕ, ◌≤◌, ◌<◌, List, [], ◌∷◌, ◌++◌, ◌⊎◌, length, map, None}
use Rattle.longest_match.specs.Lexemes.{Lexicon, Lexed}
use Rattle.smv_tree.specs.declared.place.Place.{Place}
use Rattle.smv_tree.specs.declared.token.Token.{Token}
use Rattle.smv_tree.specs.declared.token.Tokens.{Tokens}
use Rattle.smv_tree.specs.declared.refusal.Rule.{Rule}
use Rattle.smv_tree.specs.declared.refusal.Rule.TheVariants.{SourceTooLarge}
use Rattle.smv_tree.specs.declared.refusal.Refusal.{Refusal}
use Rattle.smv_tree.specs.declared.refusal.TextStop.{TextStop}
use Rattle.smv_tree.specs.declared.refusal.TextStop.TheVariants.{Refused, NoMemory}
use Rattle.smv_tree.specs.Places as places
use Rattle.smv_text.specs.declared.lexeme.Lexeme.{Lexeme}
use Rattle.smv_text.specs.declared.lexeme.Lexeme.TheVariants as lexeme
use Rattle.smv_text.specs.Lexemes.{shape_of}

-- A text is cut into pieces: tokens, and what breaks a rule at its place.
pub data Piece : Type 0 where
  good : Token → Piece
  bad : Rule → Place → Piece

-- the pieces that a lexeme is: none, where it is white space or a comment
abbrev pub pieces_of : Lexeme → Place → List ℕ → List Piece
pieces_of lexeme.Blank place text = []
pieces_of (lexeme.Token kind) place text = good (record { kind = kind; text = text; place = place }) ∷ []
pieces_of (lexeme.Flaw rule) place text = bad rule place ∷ []

-- the words of the language
abbrev pub words : Lexicon Lexeme Place Piece
words = record { shape_of = shape_of; tokens_of = pieces_of; behind = places.behind }

-- The bytes are these tokens, each the longest that stands where it stands, and end at this place.
abbrev pub AreTokens : List ℕ → List Token → Place → Type 0
AreTokens bytes tokens end = Lexed words places.start bytes (map good tokens) end []

-- The bytes begin with tokens, and then the rule is broken at this place.
abbrev pub IsBrokenFirst : List ℕ → Rule → Place → Type 0
IsBrokenFirst bytes rule place = (tokens : List Token) × (end : Place) × (rest : List ℕ) × Lexed words places.start bytes (map good tokens ++ bad rule place ∷ []) end rest

-- a source has at most this many bytes
abbrev pub source_limit : ℕ
source_limit = 16777216

-- a text is small enough, and these are its tokens
abbrev pub IsText : List ℕ → Tokens → Type 0
IsText bytes tokens = (length bytes ≤ source_limit) × AreTokens bytes tokens.items tokens.end

-- the source is too large
abbrev pub IsTooLarge : List ℕ → Rule → Place → Type 0
IsTooLarge bytes rule place = (source_limit < length bytes) × (rule ≡ SourceTooLarge) × (place ≡ places.start)

-- The rule is the first that is broken, and this is its first place: the source is too large; or it is not, and has a
-- flaw.
abbrev pub IsBrokenAt : List ℕ → Rule → Place → Type 0
IsBrokenAt bytes rule place = IsTooLarge bytes rule place ⊎ ((length bytes ≤ source_limit) × IsBrokenFirst bytes rule place)

-- The text is refused so. No rule of its tokens has a detail.
pub record IsRefusedText (bytes : List ℕ) (refusal : Refusal) : Type 0 where
  pub broken : IsBrokenAt bytes refusal.rule refusal.place
  pub no_detail : refusal.detail ≡ None

-- the text is refused so, or memory was
abbrev pub IsTextStop : List ℕ → TextStop → Type 0
IsTextStop bytes (Refused refusal) = IsRefusedText bytes refusal
IsTextStop bytes NoMemory = Unit {0}
