-- What is noted of nodes, where what they break is kept apart.
use Rattle.std.specs.Prelude.{ℕ, nat_lt, Bool, true, ◌&&◌, List, Option, None, Some, slice_index_or}
use Rattle.std.specs.Option.{is_none}
use Rattle.smv_types.specs.declared.judged.Judged.{Judged}
use Rattle.smv_types.specs.declared.judged.Notes.{Notes}
use Rattle.smv_types.specs.declared.judged_list.Brief.{Brief}
use Rattle.smv_types.specs.declared.judged_list.Broken.{Broken}
use Rattle.smv_types.specs.Judged.{no_notes}

-- what breaks nothing
abbrev pub no_break : Broken
no_break = record { notes = no_notes; inner = None; defined = None }

abbrev pub has_no_notes : Notes → Bool
has_no_notes n =
    is_none n.step && (is_none n.step_set && (is_none n.name && (is_none n.name_set && (is_none n.state && (is_none n.state_set && is_none n.path)))))

abbrev pub breaks_nothing : Broken → Bool
breaks_nothing b = is_none b.inner && (is_none b.defined && has_no_notes b.notes)

-- what has this number
abbrev pub broken_at : List Broken → ℕ → Broken
broken_at broken n = slice_index_or broken n no_break

abbrev pub broken_within : List Broken → Option ℕ → Broken
broken_within broken None = no_break
broken_within broken (Some n) = broken_at broken n

abbrev pub broken_of : Judged → Broken
broken_of j = record { notes = j.notes; inner = j.inner; defined = j.defined }

abbrev pub brief_of : Judged → Option ℕ → Brief
brief_of j broken = record {
  place = j.place;
  broken = broken;
  indexing = j.indexing;
  is_window = j.is_window;
  takes_init = j.takes_init;
  takes_later = j.takes_later;
}

-- the two put together
abbrev pub judged_with : Brief → Broken → Judged
judged_with b broken = record {
  place = b.place;
  notes = broken.notes;
  inner = broken.inner;
  defined = broken.defined;
  indexing = b.indexing;
  is_window = b.is_window;
  takes_init = b.takes_init;
  takes_later = b.takes_later;
}

abbrev pub judged_by : List Broken → Brief → Judged
judged_by broken b = judged_with b (broken_within broken b.broken)

-- its number is one of so many
abbrev pub is_number : ℕ → Option ℕ → Bool
is_number count None = true
is_number count (Some n) = nat_lt n count

abbrev pub is_there : ℕ → Brief → Bool
is_there count b = is_number count b.broken
