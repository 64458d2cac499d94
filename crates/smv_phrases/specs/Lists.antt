-- Phrases with commas between them.
use Rattle.std.specs.Prelude.{List, [], ◌∷◌, Option, None, Some}
use Rattle.phrase_forms.specs.Forms.{Form, maybe, many, to, ◌⨾◌, ◌▹◌, ◌◃◌}
use Rattle.smv_tree.specs.declared.token.Token.{Token}
use Rattle.smv_tree.specs.declared.token.TokenKind.TheVariants as kind
use Rattle.smv_phrases.specs.Names.{just}

-- "," phrase
abbrev pub further : {A : Type 0} → Form Token A → Form Token A
further phrase = just kind.Comma ▹ phrase

-- phrases with commas between them
abbrev pub listed : {A : Type 0} → Form Token A → Form Token (List A)
listed phrase = to (λ x. x.0 ∷ x.1) (phrase ⨾ many (further phrase))

abbrev pub or_none : {A : Type 0} → Option (List A) → List A
or_none None = []
or_none (Some xs) = xs

-- phrases with commas between them, or none
abbrev pub maybe_listed : {A : Type 0} → Form Token A → Form Token (List A)
maybe_listed phrase = to or_none (maybe (listed phrase))

-- those in parentheses; or nothing
abbrev pub bracketed : {A : Type 0} → Form Token A → Form Token (List A)
bracketed phrase = to or_none (maybe (just kind.LeftParen ▹ maybe_listed phrase ◃ just kind.RightParen))
