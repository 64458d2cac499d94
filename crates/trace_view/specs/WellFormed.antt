-- When a text is well-formed as XML (Extensible Markup Language 1.0, 2.1 and 3.1), as far as elements go: each is
-- closed, in the order in which they are open, by its own name; and the values of attributes stand in single quotes.
use Rattle.std.specs.Prelude.{◌≡◌, ℕ, ◌==◌, if◌then◌else◌, List, [], ◌∷◌, ◌++◌, bytes_eq, fold}

-- How far a text has been read. The names of the elements that are open stand with each, the last one first.
pub data Scan : Type 0 where
  -- between tags
  Content : (opened : List (List ℕ)) → Scan
  -- in the name of a tag, so far
  Name : (name : List ℕ) → (opened : List (List ℕ)) → Scan
  -- behind the name of a tag, between the values of its attributes
  Attributes : (name : List ℕ) → (opened : List (List ℕ)) → Scan
  -- in the value of an attribute
  Value : (name : List ℕ) → (opened : List (List ℕ)) → Scan
  -- behind the slash at the end of the tag of an empty element
  Slash : (opened : List (List ℕ)) → Scan
  -- in the name of a closing tag, so far
  Closing : (name : List ℕ) → (opened : List (List ℕ)) → Scan
  Wrong : Scan

-- behind `<` and this name comes a slash
abbrev pub slashed : List ℕ → List (List ℕ) → Scan
slashed [] opened = Closing [] opened
slashed (b ∷ bs) opened = Slash opened

-- an element of this name is closed
abbrev pub closed : List ℕ → List (List ℕ) → Scan
closed name [] = Wrong
closed name (last ∷ opened) = if bytes_eq name last then Content opened else Wrong

-- one more byte: 60 is `<`, 62 `>`, 47 `/`, 39 the quote and 32 the space
abbrev pub step : Scan → ℕ → Scan
step (Content opened) b = if b == 60 then Name [] opened else if b == 62 then Wrong else Content opened
step (Name name opened) b =
    if b == 47 then slashed name opened else if b == 32 then Attributes name opened else if b == 62 then Content (name ∷ opened) else
    if b == 60 then Wrong else Name (name ++ b ∷ []) opened
step (Attributes name opened) b =
    if b == 39 then Value name opened else if b == 47 then Slash opened else if b == 62 then Content (name ∷ opened) else if b == 60 then Wrong else Attributes name opened
step (Value name opened) b = if b == 39 then Attributes name opened else if b == 60 then Wrong else Value name opened
step (Slash opened) b = if b == 62 then Content opened else Wrong
step (Closing name opened) b = if b == 62 then closed name opened else if b == 60 then Wrong else Closing (name ++ b ∷ []) opened
step Wrong b = Wrong

abbrev pub IsWellFormed : List ℕ → Type 0
IsWellFormed text = fold step (Content []) text ≡ Content []
