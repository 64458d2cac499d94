-- What comes of one more line.
use Rattle.std.specs.Prelude.{◌≡◌, ℕ, true, List, map, Option, None, Some}
use Rattle.std.specs.List.{list_all}
use Rattle.trace_replay.specs.declared.entry.TraceLine.{TraceLine}
use Rattle.trace_replay.specs.declared.reading.Reading.{Reading}
use Rattle.trace_replay.specs.Lines.{entry_text}
use Rattle.trace_replay.specs.Reading.{all_read, followed, in_form}

-- the line says something that may stand there, and then this is read
pub record Follows (r : Reading) (text : List ℕ) (s : Reading) : Type 0 where
  pub entry : TraceLine
  pub formed : in_form entry ≡ true
  pub is : text ≡ entry_text entry
  pub read : followed r entry ≡ Some s

abbrev pub IsAfter : Reading → List ℕ → Option Reading → Type 0
IsAfter r text None = (e : TraceLine) → in_form e ≡ true → text ≡ entry_text e → followed r e ≡ None
IsAfter r text (Some s) = Follows r text s

-- the lines say something, and then this is read
pub record IsRead (specs : ℕ) (lines : List (List ℕ)) (r : Reading) : Type 0 where
  pub entries : List TraceLine
  pub formed : list_all in_form entries ≡ true
  pub text : lines ≡ map entry_text entries
  pub read : all_read specs entries ≡ Some r
