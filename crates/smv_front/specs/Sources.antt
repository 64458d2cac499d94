-- What bytes are a model, and by which rule other bytes are refused.
use Rattle.std.specs.Prelude.{◌≡◌, ◌≤◌, ◌<◌, ◌⊎◌, ℕ, List, None, Some}
use Rattle.smv_tree.specs.declared.token.Tokens.{Tokens}
use Rattle.smv_tree.specs.declared.refusal.Refusal.{Refusal}
use Rattle.smv_tree.specs.declared.refusal.Rule.TheVariants.{AssignCycle, TooManyBits}
use Rattle.smv_tree.specs.declared.refusal.TextStop.{TextStop}
use Rattle.smv_tree.specs.declared.refusal.TextStop.TheVariants.{Refused, NoMemory}
use Rattle.smv_tree.specs.declared.tree.Program.{Program}
use Rattle.smv_text.specs.Texts.{IsText, IsRefusedText}
use Rattle.smv_parse.specs.Spelling.{IsSpelling, IsRefusedTokens}
use Rattle.smv_types.specs.Rules.{types_verdict}
use Rattle.smv_flat.specs.Assignments.{AreAssignable, IsRefusedByAssignments}
use Rattle.bit_states.specs.Layouts.{bit_limit, bits_of}

-- The bytes spell the program: they have these tokens, and the tokens spell it.
pub record Spells (bytes : List ℕ) (tokens : Tokens) (p : Program) : Type 0 where
  pub text : IsText bytes tokens
  pub spelled : IsSpelling tokens.items p

-- The bytes are a model of this program: they spell it, and it breaks no rule.
pub record IsModel (bytes : List ℕ) (p : Program) : Type 0 where
  pub tokens : Tokens
  pub spelled : Spells bytes tokens p
  pub typed : types_verdict p None
  pub assignable : AreAssignable p
  pub narrow : bits_of p ≤ bit_limit

-- how too many bits of a state and of the inputs are refused: at the first place of the source
abbrev pub too_many_bits : Refusal
too_many_bits = record { rule = TooManyBits; place = record { line = 1; column = 1 }; detail = None }

-- The bytes are refused so, by the first rule that they break, at its first place: a rule of tokens; where they have
-- tokens, a rule of the grammar; where the tokens spell a program, a rule of names and kinds; where it breaks none, one
-- of assignments; and where it breaks none of these either, the rule on how many bits there may be.
pub data IsRefusedBy (bytes : List ℕ) (r : Refusal) : Type 0 where
  in_text : IsRefusedText bytes r → IsRefusedBy bytes r
  in_grammar : (tokens : Tokens) → IsText bytes tokens → IsRefusedTokens tokens r → IsRefusedBy bytes r
  in_types : (tokens : Tokens) (p : Program) → Spells bytes tokens p → types_verdict p (Some r) → IsRefusedBy bytes r
  in_assignments : (tokens : Tokens) (p : Program) → Spells bytes tokens p → types_verdict p None → IsRefusedByAssignments p r → IsRefusedBy bytes r
  in_bits : (tokens : Tokens) (p : Program) → Spells bytes tokens p → types_verdict p None → AreAssignable p → bit_limit < bits_of p → r ≡ too_many_bits → IsRefusedBy bytes r

-- two refusals that are equal, or of which each tells a cycle of assignments (502): of several cycles either may be
-- told
abbrev pub AreAlike : Refusal → Refusal → Type 0
AreAlike a b = (a ≡ b) ⊎ ((a.rule ≡ AssignCycle) × (b.rule ≡ AssignCycle))

-- the bytes are refused so; or memory was refused, which may come at any time
abbrev pub IsSourceStop : List ℕ → TextStop → Type 0
IsSourceStop bytes (Refused r) = IsRefusedBy bytes r
IsSourceStop bytes NoMemory = Unit {0}

-- the program has too many bits, and is refused so; or memory was refused
abbrev pub IsWidthStop : Program → TextStop → Type 0
IsWidthStop p (Refused r) = (bit_limit < bits_of p) × (r ≡ too_many_bits)
IsWidthStop p NoMemory = Unit {0}
