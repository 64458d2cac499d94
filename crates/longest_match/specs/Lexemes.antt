-- Lexemes: a text is cut into words of bytes, each the longest that stands where it stands.
use Rattle.std.specs.Prelude.{◌≡◌, ℕ, ◌<◌, ◌≤◌, List, [], ◌++◌, length, take, drop, Option, Some, None}

-- The words of a language, and what they are.
pub record Lexicon (Shape Place Token : Type 0) : Type 0 where
  -- what a whole word is, where it is one lexeme
  pub shape_of : List ℕ → Option Shape
  -- the tokens that a lexeme is, from its place and its bytes: one, or none where it only parts others
  pub tokens_of : Shape → Place → List ℕ → List Token
  -- the place behind a word that stands at a place
  pub behind : Place → List ℕ → Place

-- The first n bytes are a lexeme of this shape, and no more of the bytes are one.
pub record IsLongest {Shape : Type 0} (shape_of : List ℕ → Option Shape) (bytes : List ℕ) (n : ℕ) (shape : Shape) : Type 0 where
  pub some : 0 < n
  pub inside : n ≤ length bytes
  pub lexeme : shape_of (take n bytes) ≡ Some shape
  pub longest : (m : ℕ) → n < m → m ≤ length bytes → shape_of (take m bytes) ≡ None

-- No lexeme stands at the front.
abbrev pub IsNone : {Shape : Type 0} → (List ℕ → Option Shape) → List ℕ → Type 0
IsNone {Shape} shape_of bytes = (n : ℕ) (shape : Shape) → IsLongest shape_of bytes n shape → ⊥

-- From a place on, the bytes are these tokens up to another place, where the rest stands.
pub data Lexed {Shape Place Token : Type 0} (words : Lexicon Shape Place Token) : Place → List ℕ → List Token → Place → List ℕ → Type 0 where
  done : {place : Place} {bytes : List ℕ} → Lexed words place bytes [] place bytes
  next : {place end : Place} {bytes rest : List ℕ} {tokens : List Token} (n : ℕ) (shape : Shape) → IsLongest words.shape_of bytes n shape
      → Lexed words (words.behind place (take n bytes)) (drop n bytes) tokens end rest
      → Lexed words place bytes (words.tokens_of shape place (take n bytes) ++ tokens) end rest

-- From a place on, the bytes are these tokens up to a place where no lexeme begins: the end, or a byte that begins
-- none.
pub record IsCut {Shape Place Token : Type 0} (words : Lexicon Shape Place Token) (place : Place) (bytes : List ℕ) (tokens : List Token) (end : Place) (rest : List ℕ) : Type 0 where
  pub lexed : Lexed words place bytes tokens end rest
  pub stuck : IsNone words.shape_of rest

-- A text is cut in one way.
abbrev pub IsCutOnce : {Shape Place Token : Type 0} → Lexicon Shape Place Token → Type 0
IsCutOnce {Shape} {Place} {Token} words =
    (place end stop : Place) (bytes rest left : List ℕ) (tokens others : List Token) → IsCut words place bytes tokens end rest → IsCut words place bytes others stop left
    → (tokens ≡ others) × (end ≡ stop) × (rest ≡ left)
