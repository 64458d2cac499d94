-- The lines of traces in front of the first that is not ASCII.
use Rattle.std.specs.Prelude.{◌≡◌, ℕ, ◌∷◌, ◌++◌, List, Option, None, Some}
use Rattle.std.specs.Str.{IsAscii}
use Rattle.trace_replay.specs.declared.source.Line.{Line}
use Rattle.smv_recheck.specs.declared.trace_lines.Cut.{Cut}
use Rattle.smv_recheck.specs.Lines.{trace_lines_from}

-- these are the lines in front of the line with this number, which is not ASCII
pub record BreaksAt (all front : List Line) (number : ℕ) : Type 0 where
  pub line : Line
  pub rest : List Line
  pub split : all ≡ front ++ line ∷ rest
  pub numbered : line.number ≡ number
  pub other : IsAscii line.text → ⊥

-- these are all lines; or those in front of the first that is not ASCII
abbrev pub IsCutAt : List Line → List Line → Option ℕ → Type 0
IsCutAt all front None = all ≡ front
IsCutAt all front (Some number) = BreaksAt all front number

-- the lines of traces among these lines are cut so
abbrev pub Cuts : List (List ℕ) → Cut → Type 0
Cuts lines cut = IsCutAt (trace_lines_from 1 lines) cut.lines.items cut.broken
