-- What a text holds beside its model, and by which rule a text is refused.
use Rattle.std.specs.Prelude.{◌≡◌, ℕ, ◌≤◌, not, nat_lt, if◌then◌else◌, List, length, filter, Option, Result, Ok, Err}
use Rattle.hinted_log.specs.Hints.{HintedLog}
use Rattle.cert_core.specs.Blocks.{Block}
use Rattle.cert_text.specs.Reading.{ReadSoFar, nothing, read_text, refusal_at}
use Rattle.smv_tree.specs.declared.refusal.Refusal.{Refusal}
use Rattle.smv_tree.specs.declared.refusal.TextStop.{TextStop}
use Rattle.smv_tree.specs.declared.refusal.TextStop.TheVariants.{Refused, NoMemory}
use Rattle.smv_tree.specs.declared.tree.Program.{Program}
use Rattle.smv_resolve.specs.Items.{ResolvedItem}
use Rattle.smv_layout.specs.Layout.{items_of}
use Rattle.smv_meaning.specs.Runs.{is_claim, specifications_of}
use Rattle.smv_front.specs.Sources.{IsModel, IsRefusedBy}
use Rattle.trace_replay.specs.declared.trace.Trace.{Trace}
use Rattle.trace_replay.specs.Reading.{Holds, IsRefusedAt, texts}
use Rattle.smv_recheck.specs.Lines.{trace_lines}

-- how many specifications a program has, and how many other items
abbrev pub spec_count : Program → ℕ
spec_count p = length (specifications_of p)

abbrev pub item_count : Program → ℕ
item_count p = length (filter (λ (x : ResolvedItem). not (is_claim x.kind)) (items_of p))

-- what is read of the lines of certificates; or the number of the first that is not as it should be
abbrev pub certificates_read : Program → List ℕ → Result ReadSoFar ℕ
certificates_read p text = read_text (spec_count p) (item_count p) text

-- The lines beside the model are as they should be, and hold these traces, this sound block and these certificates: one place for each
-- specification.
pub record Holdings (p : Program) (text : List ℕ) (traces : List (Option Trace)) (sound : Option (List (Option HintedLog))) (certificates : List (Option Block)) : Type 0 where
  pub traced : Holds (spec_count p) (texts (trace_lines text)) traces
  pub certified : certificates_read p text ≡ Ok record { sound = sound; certificates = certificates; block = nothing }

-- no line of a trace that is before this one is refused
pub data TracesPass (p : Program) (text : List ℕ) (line : ℕ) : Type 0 where
  all : (traces : List (Option Trace)) → Holds (spec_count p) (texts (trace_lines text)) traces → TracesPass p text line
  till : (r : Refusal) → IsRefusedAt (spec_count p) (trace_lines text) r → line ≤ r.place.line → TracesPass p text line

-- no line of a certificate that is before this one is refused
abbrev pub CertificatesPass : Program → List ℕ → ℕ → Type 0
CertificatesPass p text line = (n : ℕ) → certificates_read p text ≡ Err n → line ≤ n

-- Of the lines of traces and certificates, the first that is not as it should be is refused so: by 702 or by 701, at its first byte.
pub data IsRefusedBeside (p : Program) (text : List ℕ) (r : Refusal) : Type 0 where
  trace : IsRefusedAt (spec_count p) (trace_lines text) r → CertificatesPass p text r.place.line → IsRefusedBeside p text r
  certificate : (line : ℕ) → certificates_read p text ≡ Err line → TracesPass p text line → r ≡ refusal_at line → IsRefusedBeside p text r

-- A text is refused so: as a model; or, where it is one, by the lines beside the model.
pub data IsRefused (text : List ℕ) (r : Refusal) : Type 0 where
  as_model : IsRefusedBy text r → IsRefused text r
  beside : (p : Program) → IsModel text p → IsRefusedBeside p text r → IsRefused text r

-- the lines beside a model are refused so; or memory was refused, which may come at any time
abbrev pub IsStopBeside : Program → List ℕ → TextStop → Type 0
IsStopBeside p text (Refused r) = IsRefusedBeside p text r
IsStopBeside p text NoMemory = Unit {0}

-- the same of a whole text
abbrev pub IsStop : List ℕ → TextStop → Type 0
IsStop text (Refused r) = IsRefused text r
IsStop text NoMemory = Unit {0}

-- of two stops the one at the earlier line
abbrev pub earlier : TextStop → TextStop → TextStop
earlier (Refused a) (Refused b) = if nat_lt a.place.line b.place.line then Refused a else Refused b
earlier (Refused a) NoMemory = NoMemory
earlier NoMemory b = NoMemory
