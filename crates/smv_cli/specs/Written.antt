-- What the calls below the top call have written.
use Rattle.std.specs.Prelude.{◌≡◌, ⊤, ℕ, ◌+◌, ◌≤◌, ◌==◌, ◌++◌, Bool, true, false, if◌then◌else◌, List, [], ◌∷◌, length, Option, None, Some, drop, reverse}
use Rattle.std.specs.List.{flat_map}
use Rattle.std.specs.Io.KnownBytes.{Appends}
use Rattle.command_words.specs.declared.command.Command.{Command}
use Rattle.clause_core.specs.Systems.{TransitionSystem}
use Rattle.command_words.specs.declared.command.Command.TheVariants.{Check, Recheck, Flat, Ring}
use Rattle.command_words.specs.declared.command.Effort.{Effort}
use Rattle.command_words.specs.Grammar.{cells_place, counter_option, frames_option, workers_option}
use Rattle.smv_tree.specs.declared.tree.Program.{Program}
use Rattle.smv_tree.specs.declared.tree.SpecificationKind.{SpecificationKind}
use Rattle.smv_resolve.specs.declared.item.Item.{Item}
use Rattle.smv_resolve.specs.Items.{ResolvedItem, item_by}
use Rattle.smv_meaning.specs.Faults.{IsFaultFree}
use Rattle.smv_meaning.specs.Runs.{specifications_of}
use Rattle.frame_core.specs.Runs.{IsBadRun}
use Rattle.bit_conditions.specs.Asked.{is_invariant}
use Rattle.bit_states.specs.Layouts.{bit_limit, bits_of}
use Rattle.bit_system.specs.Building.{IsBuilt}
use Rattle.bit_formula.specs.Standing.{FormulaSystem}
use Rattle.ltl_meaning.specs.Unfolded.{unfolded}
use Rattle.cert_core.specs.Certificates.{Certifies}
use Rattle.prove_run.specs.declared.answers.Answer.{Answer}
use Rattle.prove_run.specs.declared.answers.Answer.TheVariants as answer
use Rattle.prove_ltl.specs.declared.answers.LtlAnswer.{LtlAnswer}
use Rattle.prove_ltl.specs.LtlAnswers.{IsLtlLog, IsLtlRight, LtlLog}
use Rattle.smv_cli.specs.declared.checking.Checking.{Checking}
use Rattle.smv_cli.specs.declared.record.SpecVerdict.{SpecVerdict}
use Rattle.smv_cli.specs.declared.record.SpecVerdict.TheVariants.{True, False, Unknown}
use Rattle.smv_cli.specs.declared.record.Record.{Record}
use Rattle.smv_cli.specs.declared.preparing.Preparation.{Preparation}
use Rattle.smv_cli.specs.Prepared.{AreRight, block_text, status_by}
use Rattle.smv_cli.specs.Records.{IsLeftOpen, OpenOf, RecordsFrom, RightOf, ltl_effort, status_of}
use Rattle.smv_cli.specs.Report.{CommandStage, ring_model}
use Rattle.smv_cli.specs.Streams.{AppendsFront, ReadsFirst}
use Rattle.smv_cli.specs.Texts.{record_text}

-- what was answered of a specification, whose system this is, is right
abbrev pub IsAnswered : Program → Effort → TransitionSystem → ResolvedItem → Answer → Type 0
IsAnswered p effort sys spec (answer.True cert) = Certifies sys cert × (cert.counter ≡ None)
IsAnswered p effort sys spec (answer.False run) = IsBadRun sys run
IsAnswered p effort sys spec (answer.Unknown cause) = IsLeftOpen p effort spec cause

-- what was answered of an LTLSPEC, whose system this is, is right
pub record IsFormulaAnswered (effort : Effort) (r : FormulaSystem) (a : LtlAnswer) : Type 0 where
  pub log : LtlLog
  pub so_it_was : IsLtlLog r.system (unfolded r.formula) r.atoms (ltl_effort effort) log
  pub right : IsLtlRight r.system (unfolded r.formula) r.atoms (ltl_effort effort) log a

-- the systems of the INVARSPECs among these specifications, whose systems these are, in their order
abbrev pub pooled : List ResolvedItem → List TransitionSystem → List TransitionSystem
pooled [] systems = []
pooled (x ∷ xs) [] = []
pooled (x ∷ xs) (sys ∷ systems) = if is_invariant x.kind then sys ∷ pooled xs systems else pooled xs systems

-- the first, or else the second
abbrev pub either : Bool → Type 0 → Type 0 → Type 0
either true A B = A
either false A B = B

-- these are the answers for the INVARSPECs among these specifications, whose systems these are, in their order; each is
-- right
abbrev pub AreAnswersOf : Program → Effort → List ResolvedItem → List TransitionSystem → List Answer → Type 0
AreAnswersOf p effort [] systems answers = ⊤
AreAnswersOf p effort (x ∷ xs) [] answers = ⊥
AreAnswersOf p effort (x ∷ xs) (sys ∷ systems) [] = (is_invariant x.kind ≡ false) × AreAnswersOf p effort xs systems []
AreAnswersOf p effort (x ∷ xs) (sys ∷ systems) (a ∷ answers) =
    either (is_invariant x.kind) (IsAnswered p effort sys x a × AreAnswersOf p effort xs systems answers) (AreAnswersOf p effort xs systems (a ∷ answers))

-- where the effort says so, these answers are left for the INVARSPECs from specification i on, counted from 0; the next
-- one is the last
abbrev pub IsPool : Program → List TransitionSystem → Effort → ℕ → List Answer → Type 0
IsPool p systems effort i answers =
    effort.together ≡ true → AreAnswersOf p effort (drop i (specifications_of p)) (drop i systems) (reverse answers)

-- there are as many workers as the words of a command line can say
abbrev pub IsCrew : ℕ → Type 0
IsCrew workers = (workers_option.least ≤ workers) × (workers ≤ workers_option.greatest)

-- the greatest level and the greatest number of signals that the words can say, and as many workers
abbrev pub IsInRange : Effort → Type 0
IsInRange effort = (effort.frames ≤ frames_option.greatest) × (effort.counter ≤ counter_option.greatest) × IsCrew effort.workers

-- and so for the effort of a command; a ring has as many cells as the words can say at least, and as many workers
abbrev pub IsCommandInRange : Command → Type 0
IsCommandInRange (Check effort) = IsInRange effort
IsCommandInRange (Recheck upgrade) = ⊤
IsCommandInRange Flat = ⊤
IsCommandInRange (Ring ring) = (cells_place.least ≤ ring.cells) × IsCrew ring.workers

-- what a command works on was read, up to one byte past the limit of a source; or it was made
abbrev pub IsInput : Command → Option (List ℕ) → List ℕ → Type 0
IsInput (Check effort) left text = ReadsFirst 16777217 left text
IsInput (Recheck upgrade) left text = ReadsFirst 16777217 left text
IsInput Flat left text = ReadsFirst 16777217 left text
IsInput (Ring ring) left text = text ≡ ring_model ring

-- the program of a model that is checked
abbrev pub program_in : Checking → Program
program_in model = model.flat.typed.scope.program

-- an item of it
abbrev pub item_in : Checking → Item → ResolvedItem
item_in model spec = item_by model.flat.typed.nodes spec

-- the systems are those of the program, and the effort is one that words can say
pub record IsSetUp (model : Checking) : Type 0 where
  pub built : IsBuilt (program_in model) model.built
  pub narrow : bits_of (program_in model) ≤ bit_limit
  pub range : IsInRange model.effort

-- and no item of the program ever faults
pub record IsReady (model : Checking) : Type 0 where
  pub built : IsBuilt (program_in model) model.built
  pub narrow : bits_of (program_in model) ≤ bit_limit
  pub range : IsInRange model.effort
  pub fault_free : IsFaultFree (program_in model)

-- the status after one more verdict
abbrev pub status_with : ℕ → SpecVerdict → ℕ
status_with status (True shown) = status
status_with status (False trace) = 1
status_with status (Unknown cause) = if status == 1 then 1 else 2

-- the sink took a record of each specification, of each of which this is so; the status is theirs
pub record WritesRecordsBy (IsSo : SpecificationKind → ResolvedItem → SpecVerdict → Type 0) (specs : List ResolvedItem) (before now : Option (List ℕ)) (status : ℕ) : Type 0 where
  pub records : List Record
  pub right : RecordsFrom IsSo 1 specs records
  pub each : length records ≡ length specs
  pub took : Appends before now (flat_map record_text records)
  pub worst : status ≡ status_of records

-- the sink took a prefix of such records of the first specifications
pub record WritesSomeRecordsBy (IsSo : SpecificationKind → ResolvedItem → SpecVerdict → Type 0) (specs : List ResolvedItem) (before now : Option (List ℕ)) : Type 0 where
  pub records : List Record
  pub right : RecordsFrom IsSo 1 specs records
  pub took : AppendsFront before now (flat_map record_text records)

-- right records
abbrev pub WritesRecords : Program → Effort → List ResolvedItem → Option (List ℕ) → Option (List ℕ) → ℕ → Type 0
WritesRecords p effort = WritesRecordsBy (RightOf p effort)

-- a prefix of these
abbrev pub WritesSomeRecords : Program → Effort → List ResolvedItem → Option (List ℕ) → Option (List ℕ) → Type 0
WritesSomeRecords p effort = WritesSomeRecordsBy (RightOf p effort)

-- records that say that preparing spent the effort
abbrev pub WritesOpenRecords : ℕ → ℕ → List ResolvedItem → Option (List ℕ) → Option (List ℕ) → Type 0
WritesOpenRecords drawn budget specs before now = (status : ℕ) × WritesRecordsBy (OpenOf drawn budget) specs before now status

-- a prefix of these
abbrev pub WritesSomeOpenRecords : ℕ → ℕ → List ResolvedItem → Option (List ℕ) → Option (List ℕ) → Type 0
WritesSomeOpenRecords drawn budget = WritesSomeRecordsBy (OpenOf drawn budget)

-- the sink took what stands in front of the records, and a right record of each specification; the status is theirs
pub record WritesModelReport (p : Program) (effort : Effort) (how : Preparation) (before now : Option (List ℕ)) (status : ℕ) : Type 0 where
  pub records : List Record
  pub right : AreRight p effort how records
  pub each : length records ≡ length (specifications_of p)
  pub took : Appends before now (block_text effort p how ++ flat_map record_text records)
  pub worst : status ≡ status_by how records

-- the sink took a prefix of these, with records of the first specifications
pub record WritesPartOfModelReport (p : Program) (effort : Effort) (how : Preparation) (before now : Option (List ℕ)) : Type 0 where
  pub records : List Record
  pub right : AreRight p effort how records
  pub took : AppendsFront before now (block_text effort p how ++ flat_map record_text records)

-- the sink took a report of this command on these bytes
pub record CommandDone (command : Command) (bytes : List ℕ) (before now : Option (List ℕ)) (status : ℕ) : Type 0 where
  pub text : List ℕ
  pub took : Appends before now text
  pub stage : CommandStage command bytes text (Some status)

-- the sink took a prefix of such a report
pub record CommandPart (command : Command) (bytes : List ℕ) (before now : Option (List ℕ)) : Type 0 where
  pub text : List ℕ
  pub status : Option ℕ
  pub took : AppendsFront before now text
  pub stage : CommandStage command bytes text status
