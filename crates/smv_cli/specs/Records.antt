-- Right records of the specifications of a program, and the status that they give.
use Rattle.std.specs.Prelude.{◌≡◌, ⊤, ℕ, ◌+◌, Bool, true, false, if◌then◌else◌, List, [], ◌∷◌, length, filter, Option, None, Some, slice_get}
use Rattle.std.specs.List.{list_any}
use Rattle.clause_core.specs.Systems.{TransitionSystem}
use Rattle.cert_core.specs.Blocks.{Block}
use Rattle.cert_core.specs.Certificates.{Certifies}
use Rattle.command_words.specs.declared.command.Effort.{Effort}
use Rattle.smv_tree.specs.declared.tree.Program.{Program}
use Rattle.smv_tree.specs.declared.tree.SpecificationKind.{SpecificationKind}
use Rattle.smv_tree.specs.declared.tree.SpecificationKind.TheVariants as claim
use Rattle.smv_resolve.specs.declared.item.ItemKind.{ItemKind}
use Rattle.smv_resolve.specs.declared.item.ItemKind.TheVariants as item
use Rattle.smv_resolve.specs.Items.{ResolvedItem}
use Rattle.smv_meaning.specs.Runs.{specifications_of}
use Rattle.frame_core.specs.FrameLaw.{system_at}
use Rattle.frame_history.specs.declared.entries.Entry.{Entry}
use Rattle.frame_history.specs.History.{IsLawful}
use Rattle.bit_conditions.specs.Asked.{is_invariant}
use Rattle.bit_system.specs.Standing.{StandsFor}
use Rattle.bit_system.specs.Claims.{IsUnbroken, IsUnbrokenWithin}
use Rattle.bit_formula.specs.Standing.{FormulaSystem, StandsForFormula}
use Rattle.bit_lassos.specs.Claims.{IsUnviolated, IsUnviolatedWithin}
use Rattle.ltl_meaning.specs.Ltl.{past_height}
use Rattle.ltl_meaning.specs.Unfolded.{unfolded}
use Rattle.prove_run.specs.declared.effort.Effort.{Effort as ProverEffort}
use Rattle.prove_run.specs.declared.answers.Cause.{Cause}
use Rattle.prove_run.specs.declared.answers.Cause.TheVariants.{Conflicts, Frames}
use Rattle.prove_run.specs.Answers.{IsCause, first_of, limits_of}
use Rattle.prove_ltl.specs.declared.effort.LtlEffort.{LtlEffort}
use Rattle.prove_ltl.specs.declared.answers.LtlCause.{LtlCause}
use Rattle.prove_ltl.specs.declared.answers.LtlCause.TheVariants as ltl
use Rattle.prove_ltl.specs.LtlAnswers.{IsLtlCause, IsLtlCertificate, IsLtlLog, LtlLog}
use Rattle.trace_replay.specs.Lassos.{ShowsViolated}
use Rattle.trace_replay.specs.Tests.{ShowsBroken}
use Rattle.smv_cli.specs.declared.record.Reason.{Reason}
use Rattle.smv_cli.specs.declared.record.Reason.TheVariants as reason
use Rattle.smv_cli.specs.declared.record.SpecVerdict.{SpecVerdict}
use Rattle.smv_cli.specs.declared.record.SpecVerdict.TheVariants.{True, False, Unknown}
use Rattle.smv_cli.specs.declared.record.Record.{Record}

-- how much the prover may do
abbrev pub prover_effort : Effort → ProverEffort
prover_effort effort = record { conflicts = effort.conflicts; frames = effort.frames }

-- the same for a formula
abbrev pub ltl_effort : Effort → LtlEffort
ltl_effort effort = record { conflicts = effort.conflicts; frames = effort.frames; counter = effort.counter; bound = effort.bound }

-- the INVARSPECs of a program, in the order of its items
abbrev pub invariants_of : Program → List ResolvedItem
invariants_of p = filter (λ (x : ResolvedItem). is_invariant x.kind) (specifications_of p)

-- the specifications whose systems share one pool of lemmas and one budget with this one: all INVARSPECs with
-- `--together`, else this one alone
abbrev pub asked_with : Effort → Program → ResolvedItem → List ResolvedItem
asked_with effort p spec = if effort.together then invariants_of p else spec ∷ []

-- the systems stand for the program and these specifications, one for each, in their order
pub record StandForAll (p : Program) (systems : List TransitionSystem) (specs : List ResolvedItem) : Type 0 where
  pub each_one : length systems ≡ length specs
  pub stands : (j : ℕ) (spec : ResolvedItem) → slice_get specs j ≡ Some spec → StandsFor p spec (system_at systems j)

-- what a cause says of runs: `frames N`, that no run of at most N steps breaks the specification
abbrev pub SaysOfRuns : Program → ResolvedItem → Cause → Type 0
SaysOfRuns p spec (Conflicts drawn budget) = ⊤
SaysOfRuns p spec (Frames frames) = IsUnbrokenWithin p spec frames

-- Why a specification is unknown. There are systems that stand for the program and the specifications that are asked
-- with it, and a lawful history of theirs within the effort. It leaves the system of this specification open for this
-- cause.
pub record IsLeftOpen (p : Program) (effort : Effort) (spec : ResolvedItem) (why : Cause) : Type 0 where
  pub systems : List TransitionSystem
  pub history : List Entry
  pub number : ℕ
  pub stand : StandForAll p systems (asked_with effort p spec)
  pub asked : slice_get (asked_with effort p spec) number ≡ Some spec
  pub lawful : IsLawful (limits_of (prover_effort effort)) (first_of systems (prover_effort effort)) history
  pub cause : IsCause systems (prover_effort effort) history number why
  pub runs : SaysOfRuns p spec why

-- the certificate certifies a system that stands for the program and the specification
pub record IsCertified (p : Program) (spec : ResolvedItem) (cert : Block) : Type 0 where
  pub system : TransitionSystem
  pub stands : StandsFor p spec system
  pub certifies : Certifies system cert
  pub no_counter : cert.counter ≡ None

-- there is such a certificate where one is asked for, and else there is none
abbrev pub IsShownBy : Bool → Program → ResolvedItem → Option Block → Type 0
IsShownBy true p spec (Some cert) = IsCertified p spec cert
IsShownBy true p spec None = ⊥
IsShownBy false p spec (Some cert) = ⊥
IsShownBy false p spec None = Unit {0}

-- What a cause says of lassos, where past operators nest h deep: no lasso violates the specification whose states, with
-- h passes more of its loop, are at most so many.
abbrev pub SaysOfLassos : Program → ResolvedItem → ℕ → LtlCause → Type 0
SaysOfLassos p spec h (ltl.Conflicts drawn budget) = ⊤
SaysOfLassos p spec h (ltl.Bound bound counter) = IsUnviolatedWithin p spec h bound
SaysOfLassos p spec h (ltl.Frames bound frames counter) = IsUnviolatedWithin p spec h bound

-- Why an LTLSPEC is unknown: for a system that stands for the program and the specification, what was done within the
-- effort leaves its formula open for this cause.
pub record IsFormulaOpen (p : Program) (effort : Effort) (spec : ResolvedItem) (why : LtlCause) : Type 0 where
  pub formula : FormulaSystem
  pub log : LtlLog
  pub stands : StandsForFormula p spec formula
  pub so_it_was : IsLtlLog formula.system (unfolded formula.formula) formula.atoms (ltl_effort effort) log
  pub cause : IsLtlCause formula.system (unfolded formula.formula) formula.atoms (ltl_effort effort) log why
  pub lassos : SaysOfLassos p spec (past_height (unfolded formula.formula)) why

-- The certificate is of a system that stands for the program and the specification, with a monitor and a counter beside
-- it. It certifies that no bad state is reached, where the counter goes up to the number that the certificate names.
pub record IsFormulaCertified (p : Program) (effort : Effort) (spec : ResolvedItem) (cert : Block) : Type 0 where
  pub formula : FormulaSystem
  pub stands : StandsForFormula p spec formula
  pub certifies : IsLtlCertificate formula.system (unfolded formula.formula) formula.atoms effort.counter cert

-- the same of an LTLSPEC
abbrev pub IsFormulaShownBy : Bool → Program → Effort → ResolvedItem → Option Block → Type 0
IsFormulaShownBy true p effort spec (Some cert) = IsFormulaCertified p effort spec cert
IsFormulaShownBy true p effort spec None = ⊥
IsFormulaShownBy false p effort spec (Some cert) = ⊥
IsFormulaShownBy false p effort spec None = Unit {0}

-- What is said of an INVARSPEC with this effort is right. True: no run of any length breaks it, and with `--cert` a
-- certificate shows it. False: the trace is that of a run that breaks it. Unknown: the prover's work within the effort
-- leaves it open for this cause.
abbrev pub IsRightInvariant : Program → Effort → ResolvedItem → SpecVerdict → Type 0
IsRightInvariant p effort spec (True shown) = IsUnbroken p spec × IsShownBy effort.cert p spec shown
IsRightInvariant p effort spec (False trace) = ShowsBroken p spec trace
IsRightInvariant p effort spec (Unknown (reason.Invariant cause)) = IsLeftOpen p effort spec cause
IsRightInvariant p effort spec (Unknown (reason.Formula cause)) = ⊥
IsRightInvariant p effort spec (Unknown (reason.Preparing drawn budget)) = ⊥

-- The same of an LTLSPEC. True: no fair lasso violates it. False: the trace is that of a fair lasso that violates it.
abbrev pub IsRightFormula : Program → Effort → ResolvedItem → SpecVerdict → Type 0
IsRightFormula p effort spec (True shown) = IsUnviolated p spec × IsFormulaShownBy effort.cert p effort spec shown
IsRightFormula p effort spec (False trace) = ShowsViolated p spec trace
IsRightFormula p effort spec (Unknown (reason.Invariant cause)) = ⊥
IsRightFormula p effort spec (Unknown (reason.Formula cause)) = IsFormulaOpen p effort spec cause
IsRightFormula p effort spec (Unknown (reason.Preparing drawn budget)) = ⊥

-- The same of a specification of either kind.
abbrev pub IsRight : SpecificationKind → Program → Effort → ResolvedItem → SpecVerdict → Type 0
IsRight claim.Invariant = IsRightInvariant
IsRight claim.Temporal = IsRightFormula

-- Records of the first specifications, in their order, numbered from i on: of each this is so, by its kind and by what
-- is said of it.
abbrev pub RecordsFrom : (SpecificationKind → ResolvedItem → SpecVerdict → Type 0) → ℕ → List ResolvedItem → List Record → Type 0
RecordsFrom IsSo i specs [] = Unit {0}
RecordsFrom IsSo i [] (r ∷ rs) = ⊥
RecordsFrom IsSo i (spec ∷ specs) (r ∷ rs) =
    (r.number ≡ i) × (spec.kind ≡ item.Specification r.kind) × IsSo r.kind spec r.verdict × RecordsFrom IsSo (i + 1) specs rs

-- what is said of a specification is right
abbrev pub RightOf : Program → Effort → SpecificationKind → ResolvedItem → SpecVerdict → Type 0
RightOf p effort kind = IsRight kind p effort

-- what is said of a specification is that preparing spent the effort
abbrev pub OpenOf : ℕ → ℕ → SpecificationKind → ResolvedItem → SpecVerdict → Type 0
OpenOf drawn budget kind spec verdict = verdict ≡ Unknown (reason.Preparing drawn budget)

-- the record says false
abbrev pub is_false : SpecVerdict → Bool
is_false (True shown) = false
is_false (False trace) = true
is_false (Unknown cause) = false

-- the record says unknown
abbrev pub is_unknown : SpecVerdict → Bool
is_unknown (True shown) = false
is_unknown (False trace) = false
is_unknown (Unknown cause) = true

-- 1 where some specification is false, else 2 where some is unknown, else 0
abbrev pub status_of : List Record → ℕ
status_of records =
    if list_any (λ (r : Record). is_false r.verdict) records
    then 1
    else if list_any (λ (r : Record). is_unknown r.verdict) records
    then 2
    else 0
