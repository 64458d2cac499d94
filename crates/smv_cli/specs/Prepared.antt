-- What is known of the items of a model before its specifications are decided, and what is printed of it in front of
-- the records.
use Rattle.std.specs.Prelude.{◌⊎◌, ℕ, ◌&&◌, nat_lt, Bool, true, if◌then◌else◌, List, [], length, Option}
use Rattle.std.specs.List.{list_any}
use Rattle.std.specs.Option.{is_some}
use Rattle.hinted_log.specs.Hints.{HintedLog}
use Rattle.cert_text.specs.Printed.{sound_text}
use Rattle.command_words.specs.declared.command.Effort.{Effort}
use Rattle.effort_purse.specs.Drawing.{numbers_below}
use Rattle.smv_tree.specs.declared.refusal.Refusal.{Refusal}
use Rattle.smv_tree.specs.declared.refusal.TextStop.{TextStop}
use Rattle.smv_tree.specs.declared.refusal.TextStop.TheVariants.{Refused, NoMemory}
use Rattle.smv_tree.specs.declared.tree.Program.{Program}
use Rattle.smv_meaning.specs.Runs.{specifications_of}
use Rattle.smv_front.specs.Sources.{IsModel, IsRefusedBy}
use Rattle.smv_prepare.specs.Preparing.{IsRefusedByFaults, IsShownSound, IsSpentPreparing}
use Rattle.smv_cli.specs.declared.preparing.Preparation.{Preparation}
use Rattle.smv_cli.specs.declared.preparing.Preparation.TheVariants.{Sound, Spent}
use Rattle.smv_cli.specs.declared.record.Record.{Record}
use Rattle.smv_cli.specs.Records.{OpenOf, RecordsFrom, RightOf, status_of}

-- So it is, with all tickets of this effort: no item ever faults, and the steps show that; or all tickets were drawn
-- for queries of items, and some item was not judged.
abbrev pub IsPreparedWith : Program → Effort → Preparation → Type 0
IsPreparedWith p effort (Sound parts) = IsShownSound p parts
IsPreparedWith p effort (Spent drawn budget) = IsSpentPreparing p effort.conflicts true (numbers_below 0) (numbers_below effort.conflicts) drawn budget

-- an item of the model that the bytes are faults, and the bytes are refused so
pub record IsRefusedAsFaulty (bytes : List ℕ) (r : Refusal) : Type 0 where
  pub program : Program
  pub model : IsModel bytes program
  pub faulty : IsRefusedByFaults program r

-- bytes whose specifications are to be decided are refused by a rule of a model, or where an item of the model faults
abbrev pub IsRefusedOrFaulty : List ℕ → Refusal → Type 0
IsRefusedOrFaulty bytes r = IsRefusedBy bytes r ⊎ IsRefusedAsFaulty bytes r

-- an item of the program faults, and it is refused so; or memory was refused
abbrev pub IsFaultStop : Program → TextStop → Type 0
IsFaultStop p (Refused r) = IsRefusedByFaults p r
IsFaultStop p NoMemory = Unit {0}

-- the bytes are refused so; or memory was refused
abbrev pub IsCheckStop : List ℕ → TextStop → Type 0
IsCheckStop bytes (Refused r) = IsRefusedOrFaulty bytes r
IsCheckStop bytes NoMemory = Unit {0}

-- the steps of items are printed: with `--cert`, where there is a specification, so many in all, and steps for some
-- item
abbrev pub is_printed : Effort → ℕ → List (Option HintedLog) → Bool
is_printed effort count parts = effort.cert && nat_lt 0 count && list_any is_some parts

-- the sound block, where it is printed
abbrev pub sound_block : Effort → ℕ → List (Option HintedLog) → List ℕ
sound_block effort count parts = if is_printed effort count parts then sound_text parts else []

-- what stands in front of the records: the steps that show that no item ever faults
abbrev pub block_text : Effort → Program → Preparation → List ℕ
block_text effort p (Sound parts) = sound_block effort (length (specifications_of p)) parts
block_text effort p (Spent drawn budget) = []

-- The records of the first specifications are right: of a model of which no item faults, by runs and lassos; where
-- preparing spent the effort, each says so.
abbrev pub AreRight : Program → Effort → Preparation → List Record → Type 0
AreRight p effort (Sound parts) records = RecordsFrom (RightOf p effort) 1 (specifications_of p) records
AreRight p effort (Spent drawn budget) records = RecordsFrom (OpenOf drawn budget) 1 (specifications_of p) records

-- the status by all records; 2 where preparing spent the effort, also without a specification
abbrev pub status_by : Preparation → List Record → ℕ
status_by (Sound parts) records = status_of records
status_by (Spent drawn budget) records = 2
