-- What tokens are a program, and why tokens are refused.
use Rattle.std.specs.Prelude.{◌≡◌, ℕ, find, List, [], ◌∷◌, ◌++◌, Option, None, Some, codes}
use Rattle.phrase_forms.specs.declared.fault.Fault.{Fault}
use Rattle.phrase_forms.specs.declared.fault.Fault.TheVariants as fault
use Rattle.phrase_forms.specs.Levels.{SpellsWithin, IsRefusedWithin}
use Rattle.smv_tree.specs.declared.place.Place.{Place}
use Rattle.smv_tree.specs.declared.token.Token.{Token}
use Rattle.smv_tree.specs.declared.token.Tokens.{Tokens}
use Rattle.smv_tree.specs.declared.token.TokenKind.TheVariants as kind
use Rattle.smv_tree.specs.declared.refusal.Refusal.{Refusal}
use Rattle.smv_tree.specs.declared.refusal.Rule.TheVariants as rule
use Rattle.smv_tree.specs.declared.refusal.TextStop.{TextStop}
use Rattle.smv_tree.specs.declared.refusal.TextStop.TheVariants.{Refused, NoMemory}
use Rattle.smv_tree.specs.declared.tree.Program.{Program}
use Rattle.smv_tree.specs.Kinds.{is_kind}
use Rattle.smv_parse.specs.Programs.{program}

-- the first of the tokens that is a word of NuSMV without a place in the language
abbrev pub first_unsupported : List Token → Option Token
first_unsupported ts = find (is_kind kind.Unsupported) ts

-- the tokens spell the program, and each has a place in the language
pub record IsSpelling (tokens : List Token) (p : Program) : Type 0 where
  pub supported : first_unsupported tokens ≡ None
  pub spelled : SpellsWithin program 0 tokens p

-- the place of the first token, or of the end
abbrev pub first_place : List Token → Place → Place
first_place [] end = end
first_place (t ∷ rest) end = t.place

-- the text of the first token, or `end`
abbrev pub first_text : List Token → List ℕ
first_text [] = codes "end"
first_text (t ∷ rest) = t.text

-- how tokens are refused from the first of these on
abbrev pub fault_refusal : Fault → List Token → Place → Refusal
fault_refusal fault.Unexpected rest end = record { rule = rule.Unexpected; place = first_place rest end; detail = Some (first_text rest) }
fault_refusal fault.TooDeep rest end = record { rule = rule.TooDeep; place = first_place rest end; detail = None }

-- a token has no place in the language: the first such one is named
abbrev pub unsupported_refusal : Token → Refusal
unsupported_refusal t = record { rule = rule.Unsupported; place = t.place; detail = Some t.text }

-- The tokens are refused so, where each has a place in the language: at the first that has none where it stands, or
-- that opens a level too many.
pub record IsFaulty (tokens : Tokens) (refusal : Refusal) : Type 0 where
  pub fault : Fault
  pub before : List Token
  pub rest : List Token
  pub split : tokens.items ≡ before ++ rest
  pub refused : IsRefusedWithin program fault before rest
  pub told : refusal ≡ fault_refusal fault rest tokens.end

-- the tokens are refused so: for the first that has no place in the language, or where there is none, for a fault
abbrev pub IsRefusedFor : Option Token → Tokens → Refusal → Type 0
IsRefusedFor (Some t) tokens refusal = refusal ≡ unsupported_refusal t
IsRefusedFor None tokens refusal = IsFaulty tokens refusal

abbrev pub IsRefusedTokens : Tokens → Refusal → Type 0
IsRefusedTokens tokens refusal = IsRefusedFor (first_unsupported tokens.items) tokens refusal

-- the tokens are refused so, or memory was
abbrev pub IsParseStop : Tokens → TextStop → Type 0
IsParseStop tokens (Refused refusal) = IsRefusedTokens tokens refusal
IsParseStop tokens NoMemory = Unit {0}
