-- The kinds of tokens told apart.
use Rattle.std.specs.Prelude.{ℕ, Bool, ◌==◌, ◌||◌}
use Rattle.smv_tree.specs.declared.token.Token.{Token}
use Rattle.smv_tree.specs.declared.token.TokenKind.{TokenKind}
use Rattle.smv_tree.specs.declared.token.TokenKind.TheVariants as kind

-- A number for each kind, by which kinds are told apart. No two kinds have the same: `kinds_are_told_apart` of
-- smv_phrases says it.
abbrev pub number_of : TokenKind → ℕ
number_of kind.Module = 0
number_of kind.Var = 1
number_of kind.Ivar = 2
number_of kind.FrozenVar = 3
number_of kind.Define = 4
number_of kind.Constants = 5
number_of kind.Assign = 6
number_of kind.InitSection = 7
number_of kind.Invar = 8
number_of kind.Trans = 9
number_of kind.Justice = 10
number_of kind.Fairness = 11
number_of kind.Invarspec = 12
number_of kind.Ltlspec = 13
number_of kind.Name = 14
number_of kind.Boolean = 15
number_of kind.Word = 16
number_of kind.Unsigned = 17
number_of kind.Signed = 18
number_of kind.Array = 19
number_of kind.Of = 20
number_of kind.SelfName = 21
number_of kind.Init = 22
number_of kind.Next = 23
number_of kind.True = 24
number_of kind.False = 25
number_of kind.Case = 26
number_of kind.Esac = 27
number_of kind.Mod = 28
number_of kind.Union = 29
number_of kind.In = 30
number_of kind.Xor = 31
number_of kind.Xnor = 32
number_of kind.Word1 = 33
number_of kind.Bool = 34
number_of kind.Extend = 35
number_of kind.Resize = 36
number_of kind.Sizeof = 37
number_of kind.Uwconst = 38
number_of kind.Swconst = 39
number_of kind.NextTime = 40
number_of kind.Finally = 41
number_of kind.Globally = 42
number_of kind.Until = 43
number_of kind.Releases = 44
number_of kind.PreviousTime = 45
number_of kind.WeakPreviousTime = 46
number_of kind.Once = 47
number_of kind.Historically = 48
number_of kind.Since = 49
number_of kind.Triggered = 50
number_of kind.Abs = 51
number_of kind.Max = 52
number_of kind.Min = 53
number_of kind.Count = 54
number_of kind.Unsupported = 55
number_of kind.Identifier = 56
number_of kind.Integer = 57
number_of kind.WordConstant = 58
number_of kind.LeftParen = 59
number_of kind.RightParen = 60
number_of kind.LeftBracket = 61
number_of kind.RightBracket = 62
number_of kind.LeftBrace = 63
number_of kind.RightBrace = 64
number_of kind.Comma = 65
number_of kind.Semicolon = 66
number_of kind.Colon = 67
number_of kind.Dot = 68
number_of kind.DotDot = 69
number_of kind.Becomes = 70
number_of kind.Concat = 71
number_of kind.Equal = 72
number_of kind.NotEqual = 73
number_of kind.Less = 74
number_of kind.Greater = 75
number_of kind.LessEqual = 76
number_of kind.GreaterEqual = 77
number_of kind.Plus = 78
number_of kind.Minus = 79
number_of kind.Times = 80
number_of kind.Divide = 81
number_of kind.And = 82
number_of kind.Or = 83
number_of kind.Not = 84
number_of kind.Question = 85
number_of kind.Implies = 86
number_of kind.Iff = 87
number_of kind.ShiftLeft = 88
number_of kind.ShiftRight = 89

-- the token is of this kind
abbrev pub is_kind : TokenKind → Token → Bool
is_kind k t = number_of k == number_of t.kind

-- The token is an identifier: the words that name a function before "(" are identifiers elsewhere.
abbrev pub is_identifier : Token → Bool
is_identifier t = is_kind kind.Identifier t || is_kind kind.Abs t || is_kind kind.Max t || is_kind kind.Min t || is_kind kind.Count t
