-- What holds on a word, whose last time is followed by the one at its start, for ever.
use Rattle.std.specs.Prelude.{ℕ, ◌+◌, ◌-◌, ◌%◌, Bool, false, List, [], length, slice_index_or, nat_lt, if◌then◌else◌, IsTrue}
use Rattle.ltl_meaning.specs.declared.word.Word.{Word}
use Rattle.ltl_meaning.specs.Truth.{Moment}

-- the loop's length
abbrev pub period : Word → ℕ
period w = length w.times - w.start

-- the place in the word of a time
abbrev pub place : Word → ℕ → ℕ
place w t = if nat_lt t (length w.times) then t else w.start + (t - w.start) % period w

-- the truth of each atom at a time
abbrev pub atoms_at : Word → ℕ → List Bool
atoms_at w t = slice_index_or w.times (place w t) []

-- when an atom is true on a word; one that the word does not have is false
abbrev pub on : Word → ℕ → Moment
on w a t = IsTrue (slice_index_or (atoms_at w t) a false)
