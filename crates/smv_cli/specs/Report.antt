-- What a run of the command may print, and with which status: the headline of the product.
use Rattle.std.specs.Prelude.{◌≡◌, ℕ, ◌%◌, ◌++◌, Bool, true, List, [], length, IfSome, Option, None, Some, slice_get}
use Rattle.std.specs.List.{flat_map}
use Rattle.std.specs.Io.KnownBytes.{Appends}
use Rattle.command_words.specs.declared.command.Command.{Command}
use Rattle.command_words.specs.declared.command.Command.TheVariants.{Check, Recheck, Flat, Ring}
use Rattle.command_words.specs.declared.command.Effort.{Effort}
use Rattle.command_words.specs.declared.command.Ring.{Ring as RingOf}
use Rattle.command_words.specs.Grammar.{IsCommandLine, Says, default_effort}
use Rattle.model_gen.specs.Ring.{ring_text}
use Rattle.hinted_log.specs.Hints.{HintedLog}
use Rattle.cert_core.specs.Blocks.{Block}
use Rattle.smv_tree.specs.declared.refusal.Refusal.{Refusal}
use Rattle.smv_tree.specs.declared.tree.Program.{Program}
use Rattle.smv_tree.specs.Texts.{refusal_text}
use Rattle.smv_front.specs.Sources.{IsModel, IsRefusedBy}
use Rattle.smv_resolve.specs.Items.{ResolvedItem}
use Rattle.smv_meaning.specs.Faults.{IsFaultFree}
use Rattle.smv_meaning.specs.Runs.{specifications_of}
use Rattle.trace_replay.specs.declared.trace.Trace.{Trace}
use Rattle.smv_recheck.specs.declared.checking.Checked.{Checked}
use Rattle.smv_recheck.specs.declared.judgement.Record.{Record as JudgedAgain}
use Rattle.smv_recheck.specs.Checking.{IsChecked, is_shown_false, is_shown_true, status_of as status_again}
use Rattle.smv_recheck.specs.Claims.{IsRefuted, IsUpheld}
use Rattle.smv_recheck.specs.Printed.{report_text}
use Rattle.smv_recheck.specs.Refusing.{Holdings, IsRefused}
use Rattle.smv_cli.specs.declared.record.Record.{Record}
use Rattle.smv_cli.specs.Listing.{listing_text, summary_text}
use Rattle.smv_cli.specs.declared.preparing.Preparation.{Preparation}
use Rattle.smv_cli.specs.Prepared.{AreRight, IsPreparedWith, IsRefusedOrFaulty, block_text, status_by}
use Rattle.smv_cli.specs.Streams.{AppendsFront}
use Rattle.smv_cli.specs.Texts.{record_text, usage_text}

-- the text of a ring's model
abbrev pub ring_model : RingOf → List ℕ
ring_model ring = ring_text ring.cells (ring.seed % ring.cells)

-- the bytes that a command works on: those of the source; or, where it reads none, the text of a ring's model
abbrev pub input_of : Command → List ℕ → List ℕ
input_of (Check effort) bytes = bytes
input_of (Recheck upgrade) bytes = bytes
input_of Flat bytes = bytes
input_of (Ring ring) bytes = ring_model ring

-- the effort with which the specifications of a ring are decided: that of a `check` without options, with as many
-- workers as it says
abbrev pub ring_effort : RingOf → Effort
ring_effort ring = record default_effort { workers = ring.workers }

-- the effort with which a command decides specifications, where it does so
abbrev pub effort_of : Command → Option Effort
effort_of (Check effort) = Some effort
effort_of (Recheck upgrade) = None
effort_of Flat = None
effort_of (Ring ring) = Some (ring_effort ring)

-- what stands before the records: of a ring, how many slots and items it has
abbrev pub heading : Command → Program → List ℕ
heading (Check effort) p = []
heading (Recheck upgrade) p = []
heading Flat p = []
heading (Ring ring) p = summary_text p

-- Right records of the first specifications of the model that the bytes are. Where preparing left nothing open, no item
-- of the model faults, and only then is one true or false.
pub record IsJudged (bytes : List ℕ) (p : Program) (effort : Effort) (how : Preparation) (records : List Record) : Type 0 where
  pub model : IsModel bytes p
  pub prepared : IsPreparedWith p effort how
  pub right : AreRight p effort how records

-- What is shown of the specifications of a program holds. Where one is shown true, no item of the program ever faults,
-- and no run breaks, or no fair lasso violates it. What is shown false some run breaks, or some fair lasso violates,
-- and nothing faults that is asked along it.
abbrev pub ShownHolds : Program → List JudgedAgain → Type 0
ShownHolds p records = (j : ℕ) (spec : ResolvedItem) (r : JudgedAgain) → slice_get (specifications_of p) j ≡ Some spec → slice_get records j ≡ Some r
    → (is_shown_true r.judgement ≡ true → IsFaultFree p × IsUpheld spec.kind p spec) × (is_shown_false r.judgement ≡ true → IsRefuted spec.kind p spec)

-- what is said of the model that the bytes are, by the traces and certificates beside it, and it holds
pub record IsJudgedAgain (bytes : List ℕ) (upgrade : Bool) (c : Checked) : Type 0 where
  pub program : Program
  pub checked : IsChecked program bytes upgrade c
  pub holds : ShownHolds program c.records

-- By which rule a command refuses bytes: by one of a model; `recheck` also by the lines of traces and certificates
-- beside the model; `check` and `self` also where an item of the model faults.
abbrev pub IsRefusedIn : Command → List ℕ → Refusal → Type 0
IsRefusedIn (Check effort) bytes r = IsRefusedOrFaulty bytes r
IsRefusedIn (Recheck upgrade) bytes r = IsRefused bytes r
IsRefusedIn Flat bytes r = IsRefusedBy bytes r
IsRefusedIn (Ring ring) bytes r = IsRefusedOrFaulty bytes r

-- The text of the first parts of what a command reports on these bytes, and the status of the report once it is whole.
-- A part is a line of refusal; a record, where the command is `check` or `self`, with what stands in front of the
-- first; what is said of a report, where it is `recheck`; or the listing of slots and items, where it is `flat`.
pub data CommandStage (command : Command) (bytes text : List ℕ) (status : Option ℕ) : Type 0 where
  nothing : text ≡ [] → status ≡ None → CommandStage command bytes text status
  refused : (r : Refusal) → IsRefusedIn command bytes r → text ≡ refusal_text r → status ≡ Some 3 → CommandStage command bytes text status
  judging : (effort : Effort) (p : Program) (how : Preparation) (records : List Record) → effort_of command ≡ Some effort → IsJudged bytes p effort how records
      → text ≡ heading command p ++ block_text effort p how ++ flat_map record_text records → status ≡ None → CommandStage command bytes text status
  judged : (effort : Effort) (p : Program) (how : Preparation) (records : List Record) → effort_of command ≡ Some effort → IsJudged bytes p effort how records
      → length records ≡ length (specifications_of p) → text ≡ heading command p ++ block_text effort p how ++ flat_map record_text records
      → status ≡ Some (status_by how records) → CommandStage command bytes text status
  rechecked : (upgrade : Bool) (c : Checked) → command ≡ Recheck upgrade → IsJudgedAgain bytes upgrade c
      → text ≡ report_text c → status ≡ Some (status_again c.records) → CommandStage command bytes text status
  listed : (p : Program) → command ≡ Flat → IsModel bytes p → text ≡ listing_text p → status ≡ Some 0 → CommandStage command bytes text status

-- the same, where the source holds these bytes
abbrev pub CommandReport : Command → List ℕ → List ℕ → Option ℕ → Type 0
CommandReport command bytes = CommandStage command (input_of command bytes)

-- The same for any words: what the command reports that they say; the line of usage where they are no command line; or
-- nothing yet.
pub data Stage (words : List (List ℕ)) (bytes text : List ℕ) (status : Option ℕ) : Type 0 where
  begun : text ≡ [] → status ≡ None → Stage words bytes text status
  said : (command : Command) → Says words command → CommandReport command bytes text status → Stage words bytes text status
  usage : (IsCommandLine words → ⊥) → text ≡ usage_text → status ≡ Some 4 → Stage words bytes text status

-- the bytes are those that the source held, as far as it tells
abbrev pub SourceHeld : Option (List ℕ) → List ℕ → Type 0
SourceHeld left bytes = IfSome left (λ all. bytes ≡ all)

-- what the sink took in this call is a whole report, by this relation of bytes, text and status, on what the source
-- held
pub record WritesReport (stage : List ℕ → List ℕ → Option ℕ → Type 0) (left before now : Option (List ℕ)) (status : ℕ) : Type 0 where
  pub bytes : List ℕ
  pub held : SourceHeld left bytes
  pub text : List ℕ
  pub took : Appends before now text
  pub whole : stage bytes text (Some status)

-- what the sink took in this call is a prefix of such a report
pub record WritesBeginning (stage : List ℕ → List ℕ → Option ℕ → Type 0) (left before now : Option (List ℕ)) : Type 0 where
  pub bytes : List ℕ
  pub held : SourceHeld left bytes
  pub text : List ℕ
  pub status : Option ℕ
  pub took : AppendsFront before now text
  pub part : stage bytes text status

-- the bytes are a model of some program
abbrev pub IsSomeModel : List ℕ → Type 0
IsSomeModel bytes = (p : Program) × IsModel bytes p

-- the bytes are a model of some program, and no item of it ever faults
abbrev pub IsFaultFreeModel : List ℕ → Type 0
IsFaultFreeModel bytes = (p : Program) × IsModel bytes p × IsFaultFree p

-- the bytes are a model, and the lines of traces and certificates beside it are as they should be
pub record IsReport (bytes : List ℕ) : Type 0 where
  pub program : Program
  pub model : IsModel bytes program
  pub traces : List (Option Trace)
  pub sound : Option (List (Option HintedLog))
  pub certificates : List (Option Block)
  pub held : Holdings program bytes traces sound certificates

-- The bytes are such as the command does not refuse: a model; for `recheck`, one with lines beside it that are as they
-- should be; for `check` and `self`, one of which no item faults. Where some item faults, the status is 3, or 2 where
-- that was not found out with this effort. That the text of each ring's model is a model is shown by runs alone.
abbrev pub IsTaken : Command → List ℕ → Type 0
IsTaken (Check effort) bytes = IsFaultFreeModel bytes
IsTaken (Recheck upgrade) bytes = IsReport bytes
IsTaken Flat bytes = IsSomeModel bytes
IsTaken (Ring ring) bytes = IsFaultFreeModel bytes
