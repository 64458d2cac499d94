-- Which words of bytes are lexemes of the language, and what each is (NuSMV 2.6 User Manual, 2.1, Lexical Structure).
-- White space is space, tab, line feed, vertical tab, form feed and carriage return: the set is an own choice of this
-- project.
use Rattle.std.specs.Prelude.{ℕ, ◌==◌, nat_le, Bool, ◌&&◌, ◌||◌, if◌then◌else◌, List, [], ◌∷◌, length, drop, Option, None, Some}
use Rattle.std.specs.Char.{is_ascii_alphabetic, is_ascii_alphanumeric, is_ascii_digit}
use Rattle.std.specs.List.{list_all}
use Rattle.smv_tree.specs.declared.token.TokenKind.{TokenKind}
use Rattle.smv_tree.specs.declared.token.TokenKind.TheVariants.{Integer, WordConstant}
use Rattle.smv_tree.specs.declared.refusal.Rule.TheVariants.{BadByte, OpenComment, BadWordConstant, IntTooLarge}
use Rattle.smv_text.specs.declared.lexeme.Lexeme.{Lexeme}
use Rattle.smv_text.specs.declared.lexeme.Lexeme.TheVariants.{Blank, Token, Flaw}
use Rattle.smv_text.specs.Words.{kind_of_word, symbol_of}
use Rattle.smv_text.specs.Numbers.{number_in, greatest_integer, is_constant, is_word_constant}
use Rattle.smv_text.specs.Comments.{begins_line_comment, in_line, begins_comment, end_of}

-- A word begins with a letter or "_" ..
abbrev pub begins_word : ℕ → Bool
begins_word b = is_ascii_alphabetic b || b == 95

-- .. and goes on with letters, digits, "_", "$", "#" and "-".
abbrev pub in_word : ℕ → Bool
in_word b = is_ascii_alphanumeric b || b == 95 || b == 36 || b == 35 || b == 45

abbrev pub is_white : ℕ → Bool
is_white b = b == 32 || (nat_le 9 b && nat_le b 13)

-- an integer is at most the greatest one
abbrev pub integer_of : List ℕ → Lexeme
integer_of text = if nat_le (number_in 10 text) greatest_integer then Token Integer else Flaw IntTooLarge

-- a word constant is in form
abbrev pub constant_of : List ℕ → Lexeme
constant_of text = if is_word_constant text then Token WordConstant else Flaw BadWordConstant

-- a text that begins with a digit
abbrev pub number_lexeme : List ℕ → Option Lexeme
number_lexeme text = if list_all is_ascii_digit text then Some (integer_of text) else (if is_constant text then Some (constant_of text) else None)

-- A comment ends at its first "--/", and is open where it has none. The text and its length are those behind "/--".
abbrev pub comment_ended : Option ℕ → ℕ → Option Lexeme
comment_ended None len = Some (Flaw OpenComment)
comment_ended (Some n) len = if n == len then Some Blank else None

abbrev pub comment_lexeme : List ℕ → Option Lexeme
comment_lexeme text = comment_ended (end_of text) (length text)

-- one byte is white space, or begins no token
abbrev pub byte_lexeme : ℕ → Lexeme
byte_lexeme b = if is_white b then Blank else Flaw BadByte

abbrev pub alone : List ℕ → Option Lexeme
alone (b ∷ []) = Some (byte_lexeme b)
alone _ = None

abbrev pub or_alone : Option TokenKind → List ℕ → Option Lexeme
or_alone (Some kind) text = Some (Token kind)
or_alone None text = alone text

-- a text that begins with no letter and no digit: a comment, a symbol, white space, or a byte that begins no token
abbrev pub other_lexeme : List ℕ → Option Lexeme
other_lexeme text =
    if begins_line_comment text then (if list_all in_line text then Some Blank else None)
    else (if begins_comment text then comment_lexeme (drop 3 text)
    else or_alone (symbol_of text) text)

-- what a whole text is, where it is one lexeme
abbrev pub shape_of : List ℕ → Option Lexeme
shape_of [] = None
shape_of (b ∷ rest) =
    if begins_word b then (if list_all in_word rest then Some (Token (kind_of_word (b ∷ rest))) else None)
    else (if is_ascii_digit b then number_lexeme (b ∷ rest)
    else other_lexeme (b ∷ rest))
