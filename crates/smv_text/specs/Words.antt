-- The words and symbols of the language (NuSMV 2.6 User Manual, 2.1, Lexical Structure).
use Rattle.std.specs.Prelude.{ℕ, if◌then◌else◌, List, [], ◌∷◌, ◌++◌, codes, Option, None, Some}
use Rattle.std.specs.Str.{bytes_eq}
use Rattle.smv_tree.specs.declared.token.TokenKind.{TokenKind}
use Rattle.smv_tree.specs.declared.token.TokenKind.TheVariants.{Abs, And, Array, Assign, Becomes, Bool, Boolean, Case, Colon, Comma, Concat, Constants, Count, Define, Divide, Dot, DotDot, Equal, Esac, Extend, Fairness, False, Finally, FrozenVar, Globally, Greater, GreaterEqual, Historically, Identifier, Iff, Implies, In, Init, InitSection, Invar, Invarspec, Ivar, Justice, LeftBrace, LeftBracket, LeftParen, Less, LessEqual, Ltlspec, Max, Min, Minus, Mod, Module, Name, Next, NextTime, Not, NotEqual, Of, Once, Or, Plus, PreviousTime, Question, Releases, Resize, RightBrace, RightBracket, RightParen, SelfName, Semicolon, ShiftLeft, ShiftRight, Signed, Since, Sizeof, Swconst, Times, Trans, Triggered, True, Union, Unsigned, Unsupported, Until, Uwconst, Var, WeakPreviousTime, Word, Word1, Xnor, Xor}

-- the reserved words
abbrev pub reserved_words : List (List ℕ × TokenKind)
reserved_words =
    (codes "MODULE", Module) ∷ (codes "VAR", Var) ∷ (codes "IVAR", Ivar) ∷ (codes "FROZENVAR", FrozenVar) ∷ (codes "DEFINE", Define) ∷ (codes "CONSTANTS", Constants)
    ∷ (codes "ASSIGN", Assign) ∷ (codes "INIT", InitSection) ∷ (codes "INVAR", Invar) ∷ (codes "TRANS", Trans) ∷ (codes "JUSTICE", Justice) ∷ (codes "FAIRNESS", Fairness)
    ∷ (codes "INVARSPEC", Invarspec) ∷ (codes "LTLSPEC", Ltlspec) ∷ (codes "NAME", Name) ∷ (codes "boolean", Boolean) ∷ (codes "word", Word) ∷ (codes "unsigned", Unsigned)
    ∷ (codes "signed", Signed) ∷ (codes "array", Array) ∷ (codes "of", Of) ∷ (codes "self", SelfName) ∷ (codes "next", Next) ∷ (codes "init", Init) ∷ (codes "case", Case)
    ∷ (codes "esac", Esac) ∷ (codes "mod", Mod) ∷ (codes "union", Union) ∷ (codes "in", In) ∷ (codes "xor", Xor) ∷ (codes "xnor", Xnor) ∷ (codes "TRUE", True)
    ∷ (codes "FALSE", False) ∷ (codes "word1", Word1) ∷ (codes "bool", Bool) ∷ (codes "extend", Extend) ∷ (codes "resize", Resize) ∷ (codes "sizeof", Sizeof)
    ∷ (codes "uwconst", Uwconst) ∷ (codes "swconst", Swconst) ∷ (codes "X", NextTime) ∷ (codes "F", Finally) ∷ (codes "G", Globally) ∷ (codes "U", Until)
    ∷ (codes "V", Releases) ∷ (codes "Y", PreviousTime) ∷ (codes "Z", WeakPreviousTime) ∷ (codes "O", Once) ∷ (codes "H", Historically) ∷ (codes "S", Since)
    ∷ (codes "T", Triggered) ∷ []

-- the words that name a function before "(", and are identifiers elsewhere: an own choice of this project
abbrev pub function_words : List (List ℕ × TokenKind)
function_words =
    (codes "abs", Abs) ∷ (codes "max", Max) ∷ (codes "min", Min) ∷ (codes "count", Count) ∷ []

-- the reserved words of NuSMV that this language does without
abbrev pub unsupported_words : List (List ℕ × TokenKind)
unsupported_words =
    (codes "process", Unsupported) ∷ (codes "COMPASSION", Unsupported) ∷ (codes "PSLSPEC", Unsupported) ∷ (codes "COMPUTE", Unsupported) ∷ (codes "PRED", Unsupported)
    ∷ (codes "MIRROR", Unsupported) ∷ (codes "ISA", Unsupported) ∷ (codes "MDEFINE", Unsupported) ∷ (codes "integer", Unsupported) ∷ (codes "real", Unsupported)
    ∷ (codes "toint", Unsupported) ∷ (codes "SPEC", Unsupported) ∷ (codes "CTLSPEC", Unsupported) ∷ (codes "A", Unsupported) ∷ (codes "E", Unsupported)
    ∷ (codes "AX", Unsupported) ∷ (codes "AF", Unsupported) ∷ (codes "AG", Unsupported) ∷ (codes "EX", Unsupported) ∷ (codes "EF", Unsupported) ∷ (codes "EG", Unsupported)
    ∷ (codes "BU", Unsupported) ∷ (codes "ABF", Unsupported) ∷ (codes "ABG", Unsupported) ∷ (codes "EBF", Unsupported) ∷ (codes "EBG", Unsupported) ∷ []

-- the symbols
abbrev pub symbols : List (List ℕ × TokenKind)
symbols =
    (codes "(", LeftParen) ∷ (codes ")", RightParen) ∷ (codes "[", LeftBracket) ∷ (codes "]", RightBracket) ∷ (codes "{", LeftBrace) ∷ (codes "}", RightBrace)
    ∷ (codes ",", Comma) ∷ (codes ";", Semicolon) ∷ (codes ":", Colon) ∷ (codes ".", Dot) ∷ (codes "..", DotDot) ∷ (codes ":=", Becomes) ∷ (codes "::", Concat)
    ∷ (codes "=", Equal) ∷ (codes "!=", NotEqual) ∷ (codes "<", Less) ∷ (codes ">", Greater) ∷ (codes "<=", LessEqual) ∷ (codes ">=", GreaterEqual) ∷ (codes "+", Plus)
    ∷ (codes "-", Minus) ∷ (codes "*", Times) ∷ (codes "/", Divide) ∷ (codes "&", And) ∷ (codes "|", Or) ∷ (codes "!", Not) ∷ (codes "?", Question) ∷ (codes "->", Implies)
    ∷ (codes "<->", Iff) ∷ (codes "<<", ShiftLeft) ∷ (codes ">>", ShiftRight) ∷ []

-- the kind beside the text in a table
abbrev pub kind_in : List (List ℕ × TokenKind) → List ℕ → Option TokenKind
kind_in [] text = None
kind_in (entry ∷ rest) text = if bytes_eq entry.0 text then Some entry.1 else kind_in rest text

-- what a word of letters is that has no meaning of its own
abbrev pub or_identifier : Option TokenKind → TokenKind
or_identifier None = Identifier
or_identifier (Some kind) = kind

-- all words with a meaning
abbrev pub words_with_meaning : List (List ℕ × TokenKind)
words_with_meaning = reserved_words ++ function_words ++ unsupported_words

-- what a word of letters is: a word with a meaning, or an identifier
unfoldable pub kind_of_word : List ℕ → TokenKind
kind_of_word word = or_identifier (kind_in words_with_meaning word)

-- the symbol that the whole text is
unfoldable pub symbol_of : List ℕ → Option TokenKind
symbol_of text = kind_in symbols text
