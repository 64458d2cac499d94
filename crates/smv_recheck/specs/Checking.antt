-- What is said of all specifications of a text.
use Rattle.std.specs.Prelude.{◌≡◌, ℕ, ◌+◌, ◌&&◌, nat_lt, Bool, true, false, if◌then◌else◌, List, length, Option, None, Some, slice_get, slice_index_or}
use Rattle.std.specs.List.{list_any}
use Rattle.hinted_log.specs.Hints.{HintedLog}
use Rattle.cert_core.specs.Blocks.{Block}
use Rattle.smv_tree.specs.declared.tree.Program.{Program}
use Rattle.smv_resolve.specs.Items.{ResolvedItem}
use Rattle.smv_meaning.specs.Runs.{specifications_of}
use Rattle.smv_front.specs.Sources.{IsModel}
use Rattle.bit_system.specs.Building.{BitProgram, IsBuilt, system_of}
use Rattle.bit_clauses.specs.declared.deciding.Decided.{Decided}
use Rattle.bit_faults.specs.Questions.{AreFaultQuestions}
use Rattle.sound_check.specs.declared.judging.SoundVerdict.{SoundVerdict}
use Rattle.sound_check.specs.declared.judging.SoundVerdict.TheVariants.{Sound, Rejected}
use Rattle.sound_check.specs.Judgements.{VerdictSays, parts_of}
use Rattle.trace_replay.specs.declared.trace.Trace.{Trace}
use Rattle.smv_recheck.specs.declared.judgement.Judgement.{Judgement}
use Rattle.smv_recheck.specs.declared.judgement.Judgement.TheVariants.{ShownTrue, ShownFalse, ItemRejected, PartRejected, TestRejected, NothingShown}
use Rattle.smv_recheck.specs.declared.judgement.Record.{Record}
use Rattle.smv_recheck.specs.declared.checking.Checked.{Checked}
use Rattle.smv_recheck.specs.Judging.{IsRecord}
use Rattle.smv_recheck.specs.Refusing.{Holdings, spec_count}

-- the records are those of the specifications, in their order, numbered from 1
pub record AreRecords (p : Program) (b : BitProgram) (soundness : SoundVerdict) (upgrade : Bool) (traces : List (Option Trace)) (certificates : List (Option Block)) (records : List Record) : Type 0 where
  pub each_one : length records ≡ spec_count p
  pub each : (j : ℕ) (spec : ResolvedItem) (r : Record) → slice_get (specifications_of p) j ≡ Some spec → slice_get records j ≡ Some r
      → IsRecord p soundness (system_of b j) upgrade (slice_index_or traces j None) (slice_index_or certificates j None) (j + 1) spec r

-- the check accepts a sound block
abbrev pub is_sound : SoundVerdict → Bool
is_sound Sound = true
is_sound (Rejected item) = false

-- what the check says of a sound block, by what is asked about the items of the program
pub record IsSoundness (p : Program) (sound : Option (List (Option HintedLog))) (soundness : SoundVerdict) : Type 0 where
  pub questions : List (Option Decided)
  pub asked : AreFaultQuestions p questions
  pub says : VerdictSays questions (parts_of sound) soundness

-- the sound block that is printed again, before the first record: the one that was read, where it was accepted
abbrev pub sound_again : Program → SoundVerdict → Bool → Option (List (Option HintedLog)) → Option (List (Option HintedLog))
sound_again p soundness upgrade sound = if upgrade && is_sound soundness && nat_lt 0 (spec_count p) then sound else None

-- What is said of a text that is a model of this program, by the systems of the program and the lines beside the model.
pub record IsChecked (p : Program) (text : List ℕ) (upgrade : Bool) (c : Checked) : Type 0 where
  pub model : IsModel text p
  pub built : IsBuilt p c.built
  pub traces : List (Option Trace)
  pub sound : Option (List (Option HintedLog))
  pub certificates : List (Option Block)
  pub held : Holdings p text traces sound certificates
  pub soundness : SoundVerdict
  pub judged : IsSoundness p sound soundness
  pub again : c.sound ≡ sound_again p soundness upgrade sound
  pub records : AreRecords p c.built soundness upgrade traces certificates c.records

-- the same of some program
abbrev pub IsCheckedText : List ℕ → Bool → Checked → Type 0
IsCheckedText text upgrade c = (p : Program) × IsChecked p text upgrade c

abbrev pub is_shown_true : Judgement → Bool
is_shown_true (ShownTrue again) = true
is_shown_true other = false

abbrev pub is_shown_false : Judgement → Bool
is_shown_false ShownFalse = true
is_shown_false other = false

abbrev pub is_rejected : Judgement → Bool
is_rejected (ItemRejected item) = true
is_rejected (PartRejected part) = true
is_rejected (TestRejected rule number) = true
is_rejected other = false

abbrev pub is_nothing : Judgement → Bool
is_nothing NothingShown = true
is_nothing other = false

-- 1 where something is rejected, else 2 where of some specification nothing is shown, else 0
abbrev pub status_of : List Record → ℕ
status_of records =
    if list_any (λ (r : Record). is_rejected r.judgement) records
    then 1
    else if list_any (λ (r : Record). is_nothing r.judgement) records
    then 2
    else 0
