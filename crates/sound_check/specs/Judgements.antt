-- When a sound block shows of all items that they never fault, and which of its parts fails first.
use Rattle.std.specs.Prelude.{ℕ, ◌<◌, ⊤, List, [], length, Option, None, Some, slice_index_or}
use Rattle.bit_clauses.specs.declared.deciding.Decided.{Decided}
use Rattle.hinted_log.specs.Hints.{HintedLog}
use Rattle.cert_core.specs.declared.form.Form.TheVariants.{Plain}
use Rattle.cert_core.specs.Certificates.{Shows}
use Rattle.sound_check.specs.declared.judging.SoundVerdict.{SoundVerdict}
use Rattle.sound_check.specs.declared.judging.SoundVerdict.TheVariants.{Sound, Rejected}
use Rattle.sound_check.specs.Questions.{question_of}

-- the parts of a sound block, one place for each item; a block that is missing has none
abbrev pub parts_of : Option (List (Option HintedLog)) → List (Option HintedLog)
parts_of None = []
parts_of (Some parts) = parts

-- the part of item number `item`, counted from 0
abbrev pub part_of : List (Option HintedLog) → ℕ → Option HintedLog
part_of parts item = slice_index_or parts item None

-- The part is there, and derives the empty clause from the question's clauses. Where nothing is asked no part is looked
-- at.
abbrev pub PartShows : Option Decided → Option HintedLog → Type 0
PartShows None part = ⊤
PartShows (Some d) part = Shows Plain d.vars d.clauses part

-- the part of the item shows that its question can't be met
abbrev pub ItemShows : List (Option Decided) → List (Option HintedLog) → ℕ → Type 0
ItemShows questions parts item = PartShows (question_of questions item) (part_of parts item)

-- the parts show it of each of the first n items
abbrev pub AreShownBelow : List (Option Decided) → List (Option HintedLog) → ℕ → Type 0
AreShownBelow questions parts n = (item : ℕ) → item < n → ItemShows questions parts item

-- the parts show it of each item
abbrev pub IsSoundBlock : List (Option Decided) → List (Option HintedLog) → Type 0
IsSoundBlock questions parts = AreShownBelow questions parts (length questions)

-- the part of this item is the first that does not show it
pub record FailsFirst (questions : List (Option Decided)) (parts : List (Option HintedLog)) (item : ℕ) : Type 0 where
  pub within : item < length questions
  pub before : AreShownBelow questions parts item
  pub fails : ItemShows questions parts item → ⊥

-- what the check of a block with these parts says
abbrev pub VerdictSays : List (Option Decided) → List (Option HintedLog) → SoundVerdict → Type 0
VerdictSays questions parts Sound = IsSoundBlock questions parts
VerdictSays questions parts (Rejected item) = FailsFirst questions parts item
