-- Runs of bytes, and what the reading of a text answers on the way.
use Rattle.std.specs.Prelude.{◌≡◌, ℕ, Bool, None}
use Rattle.std.specs.Char.{is_ascii_digit}
use Rattle.smv_tree.specs.declared.place.Place.{Place}
use Rattle.smv_tree.specs.declared.refusal.TextStop.{TextStop}
use Rattle.smv_tree.specs.declared.refusal.TextStop.TheVariants.{Refused, NoMemory}
use Rattle.smv_text.specs.declared.lexeme.Lexeme.{Lexeme}
use Rattle.smv_text.specs.declared.lexeme.Lexeme.TheVariants.{Flaw}
use Rattle.smv_text.specs.declared.runs.Run.{Run}
use Rattle.smv_text.specs.declared.runs.Run.TheVariants as run
use Rattle.smv_text.specs.Lexemes.{in_word}
use Rattle.smv_text.specs.Numbers.{in_constant}
use Rattle.smv_text.specs.Comments.{in_line}

-- the bytes that go on a run
abbrev pub in_run : Run → ℕ → Bool
in_run run.Word = in_word
in_run run.Digits = is_ascii_digit
in_run run.Constant = in_constant
in_run run.Line = in_line

-- a lexeme is refused so: it is a flaw, or memory was refused
abbrev pub IsFlawStop : Lexeme → Place → TextStop → Type 0
IsFlawStop lexeme place (Refused refusal) = (lexeme ≡ Flaw refusal.rule) × (refusal.place ≡ place) × (refusal.detail ≡ None)
IsFlawStop lexeme place NoMemory = Unit {0}
