-- The program's test of two kinds is that of their numbers.
use Rattle.std.proofs.Common.{◌≡◌, refl}
use Rattle.std.specs.Prelude.{◌==◌}
use denote.Enum.Bare.{sameb}
use denote.Enum.Declared.{tag_of}
use Rattle.smv_tree.specs.contracts.token.TokenKind.{the_type}
use Rattle.smv_tree.specs.declared.token.TokenKind.{TokenKind}
use Rattle.smv_tree.specs.declared.token.TokenKind.TheVariants as kind
use Rattle.smv_tree.specs.Kinds.{number_of}

tag_number : (k : TokenKind) → tag_of the_type k ≡ number_of k
tag_number kind.Module = refl
tag_number kind.Var = refl
tag_number kind.Ivar = refl
tag_number kind.FrozenVar = refl
tag_number kind.Define = refl
tag_number kind.Constants = refl
tag_number kind.Assign = refl
tag_number kind.InitSection = refl
tag_number kind.Invar = refl
tag_number kind.Trans = refl
tag_number kind.Justice = refl
tag_number kind.Fairness = refl
tag_number kind.Invarspec = refl
tag_number kind.Ltlspec = refl
tag_number kind.Name = refl
tag_number kind.Boolean = refl
tag_number kind.Word = refl
tag_number kind.Unsigned = refl
tag_number kind.Signed = refl
tag_number kind.Array = refl
tag_number kind.Of = refl
tag_number kind.SelfName = refl
tag_number kind.Init = refl
tag_number kind.Next = refl
tag_number kind.True = refl
tag_number kind.False = refl
tag_number kind.Case = refl
tag_number kind.Esac = refl
tag_number kind.Mod = refl
tag_number kind.Union = refl
tag_number kind.In = refl
tag_number kind.Xor = refl
tag_number kind.Xnor = refl
tag_number kind.Word1 = refl
tag_number kind.Bool = refl
tag_number kind.Extend = refl
tag_number kind.Resize = refl
tag_number kind.Sizeof = refl
tag_number kind.Uwconst = refl
tag_number kind.Swconst = refl
tag_number kind.NextTime = refl
tag_number kind.Finally = refl
tag_number kind.Globally = refl
tag_number kind.Until = refl
tag_number kind.Releases = refl
tag_number kind.PreviousTime = refl
tag_number kind.WeakPreviousTime = refl
tag_number kind.Once = refl
tag_number kind.Historically = refl
tag_number kind.Since = refl
tag_number kind.Triggered = refl
tag_number kind.Abs = refl
tag_number kind.Max = refl
tag_number kind.Min = refl
tag_number kind.Count = refl
tag_number kind.Unsupported = refl
tag_number kind.Identifier = refl
tag_number kind.Integer = refl
tag_number kind.WordConstant = refl
tag_number kind.LeftParen = refl
tag_number kind.RightParen = refl
tag_number kind.LeftBracket = refl
tag_number kind.RightBracket = refl
tag_number kind.LeftBrace = refl
tag_number kind.RightBrace = refl
tag_number kind.Comma = refl
tag_number kind.Semicolon = refl
tag_number kind.Colon = refl
tag_number kind.Dot = refl
tag_number kind.DotDot = refl
tag_number kind.Becomes = refl
tag_number kind.Concat = refl
tag_number kind.Equal = refl
tag_number kind.NotEqual = refl
tag_number kind.Less = refl
tag_number kind.Greater = refl
tag_number kind.LessEqual = refl
tag_number kind.GreaterEqual = refl
tag_number kind.Plus = refl
tag_number kind.Minus = refl
tag_number kind.Times = refl
tag_number kind.Divide = refl
tag_number kind.And = refl
tag_number kind.Or = refl
tag_number kind.Not = refl
tag_number kind.Question = refl
tag_number kind.Implies = refl
tag_number kind.Iff = refl
tag_number kind.ShiftLeft = refl
tag_number kind.ShiftRight = refl

pub same_kinds : (j k : TokenKind) → sameb the_type j k ≡ (number_of j == number_of k)
same_kinds j k = rw (tag_number j, tag_number k) refl
