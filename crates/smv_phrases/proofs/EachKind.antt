-- Tests of a token's kind that hold of each kind.
use Rattle.std.proofs.Common.{◌≡◌, ℕ, zero, suc, Bool, true, false, cond, List, [], ◌∷◌, Option, Some, None, refl, sym, ◌∙◌}
use Rattle.std.specs.Prelude.{◌&&◌, ◌==◌}
use Rattle.std.proofs.lemmas.Bool.{eqb-true, eq-eqb}
use Rattle.smv_tree.specs.declared.token.Token.{Token}
use Rattle.smv_tree.specs.declared.token.TokenKind.{TokenKind}
use Rattle.smv_tree.specs.declared.token.TokenKind.TheVariants as kind
use Rattle.smv_tree.specs.Kinds.{number_of}

-- a token of this kind
abbrev pub token_at : TokenKind → Token
token_at k = record { kind = k; text = []; place = record { line = 1; column = 1 } }

-- the kinds in the order of their numbers
abbrev pub kinds : List TokenKind
kinds =
    kind.Module ∷ kind.Var ∷ kind.Ivar ∷ kind.FrozenVar ∷ kind.Define ∷ kind.Constants ∷ kind.Assign ∷ kind.InitSection ∷
    kind.Invar ∷ kind.Trans ∷ kind.Justice ∷ kind.Fairness ∷ kind.Invarspec ∷ kind.Ltlspec ∷ kind.Name ∷ kind.Boolean ∷
    kind.Word ∷ kind.Unsigned ∷ kind.Signed ∷ kind.Array ∷ kind.Of ∷ kind.SelfName ∷ kind.Init ∷ kind.Next ∷ kind.True ∷
    kind.False ∷ kind.Case ∷ kind.Esac ∷ kind.Mod ∷ kind.Union ∷ kind.In ∷ kind.Xor ∷ kind.Xnor ∷ kind.Word1 ∷ kind.Bool ∷
    kind.Extend ∷ kind.Resize ∷ kind.Sizeof ∷ kind.Uwconst ∷ kind.Swconst ∷ kind.NextTime ∷ kind.Finally ∷ kind.Globally ∷
    kind.Until ∷ kind.Releases ∷ kind.PreviousTime ∷ kind.WeakPreviousTime ∷ kind.Once ∷ kind.Historically ∷ kind.Since ∷
    kind.Triggered ∷ kind.Abs ∷ kind.Max ∷ kind.Min ∷ kind.Count ∷ kind.Unsupported ∷ kind.Identifier ∷ kind.Integer ∷
    kind.WordConstant ∷ kind.LeftParen ∷ kind.RightParen ∷ kind.LeftBracket ∷ kind.RightBracket ∷ kind.LeftBrace ∷
    kind.RightBrace ∷ kind.Comma ∷ kind.Semicolon ∷ kind.Colon ∷ kind.Dot ∷ kind.DotDot ∷ kind.Becomes ∷ kind.Concat ∷
    kind.Equal ∷ kind.NotEqual ∷ kind.Less ∷ kind.Greater ∷ kind.LessEqual ∷ kind.GreaterEqual ∷ kind.Plus ∷ kind.Minus ∷
    kind.Times ∷ kind.Divide ∷ kind.And ∷ kind.Or ∷ kind.Not ∷ kind.Question ∷ kind.Implies ∷ kind.Iff ∷ kind.ShiftLeft ∷
    kind.ShiftRight ∷ []

abbrev pub each : (TokenKind → Bool) → List TokenKind → Bool
each p [] = true
each p (k ∷ ks) = p k && each p ks

abbrev nth : ℕ → List TokenKind → Option TokenKind
nth n [] = None
nth zero (k ∷ ks) = Some k
nth (suc n) (k ∷ ks) = nth n ks

and_parts : (a b : Bool) → (a && b) ≡ true → (a ≡ true) × (b ≡ true)
and_parts true b e = (refl, e)
and_parts false b e = absurd cc

each_at : (p : TokenKind → Bool) (ks : List TokenKind) → each p ks ≡ true → (n : ℕ) (k : TokenKind) → nth n ks ≡ Some k → p k ≡ true
each_at p [] h n k e = absurd cc
each_at p (j ∷ ks) h zero k e = let jk : j ≡ k = cc in rw (← jk) (and_parts (p j) (each p ks) h).0
each_at p (j ∷ ks) h (suc n) k e = each_at p ks (and_parts (p j) (each p ks) h).1 n k e

number_is_place : (k : TokenKind) → nth (number_of k) kinds ≡ Some k
number_is_place kind.Module = refl
number_is_place _ = refl

pub each_kind : (p : TokenKind → Bool) → each p kinds ≡ true → (k : TokenKind) → p k ≡ true
each_kind p h k = each_at p kinds h (number_of k) k (number_is_place k)

neither : (a b : Bool) → (cond a (cond b false true) true) ≡ true → a ≡ true → b ≡ false
neither true true h e = absurd cc
neither true false h e = refl
neither false b h e = absurd cc

-- no kind passes both of two tests
pub apart : (p q : Token → Bool) → ((t : Token) → p t ≡ p (token_at t.kind)) → ((t : Token) → q t ≡ q (token_at t.kind))
    → each (λ k. cond (p (token_at k)) (cond (q (token_at k)) false true) true) kinds ≡ true → (t : Token) → p t ≡ true → q t ≡ false
apart p q hp hq h t e = hq t ∙ neither (p (token_at t.kind)) (q (token_at t.kind)) (each_kind (λ k. cond (p (token_at k)) (cond (q (token_at k)) false true) true) h t.kind) (sym (hp t) ∙ e)

implied : (a b : Bool) → (cond a b true) ≡ true → a ≡ true → b ≡ true
implied true b h e = h
implied false b h e = absurd cc

-- each kind that passes the first test passes the second
pub within : (p q : Token → Bool) → ((t : Token) → p t ≡ p (token_at t.kind)) → ((t : Token) → q t ≡ q (token_at t.kind))
    → each (λ k. cond (p (token_at k)) (q (token_at k)) true) kinds ≡ true → (t : Token) → p t ≡ true → q t ≡ true
within p q hp hq h t e = hq t ∙ implied (p (token_at t.kind)) (q (token_at t.kind)) (each_kind (λ k. cond (p (token_at k)) (q (token_at k)) true) h t.kind) (sym (hp t) ∙ e)

-- a kind is told by its number
pub kind_is : (j k : TokenKind) → (number_of j == number_of k) ≡ true → k ≡ j
kind_is j k e =
    let same : number_of j ≡ number_of k = eqb-true (number_of j) (number_of k) e in
    let found : Some k ≡ Some j = sym (number_is_place k) ∙ rw same at (number_is_place j) in
    cc

pub own_kind : (k : TokenKind) → (number_of k == number_of k) ≡ true
own_kind k = eq-eqb (number_of k) (number_of k) refl
