-- The lines of a report: an own choice of this project. Each is a comment of the language, and ends with a line feed.
use Rattle.std.specs.Prelude.{ℕ, List, [], ◌++◌, Option, None, Some, codes}
use Rattle.std.specs.Fmt.{decimal}
use Rattle.smv_tree.specs.Texts.{kind_text, line_end}
use Rattle.cert_core.specs.Blocks.{Block}
use Rattle.cert_text.specs.Printed.{certificate_text}
use Rattle.prove_run.specs.declared.answers.Cause.{Cause}
use Rattle.prove_run.specs.declared.answers.Cause.TheVariants.{Conflicts, Frames}
use Rattle.prove_ltl.specs.declared.answers.LtlCause.{LtlCause}
use Rattle.prove_ltl.specs.declared.answers.LtlCause.TheVariants as ltl
use Rattle.smv_cli.specs.declared.record.Reason.{Reason}
use Rattle.smv_cli.specs.declared.record.Reason.TheVariants as reason
use Rattle.trace_replay.specs.Lines.{trace_text}
use Rattle.smv_cli.specs.declared.record.SpecVerdict.{SpecVerdict}
use Rattle.smv_cli.specs.declared.record.SpecVerdict.TheVariants.{True, False, Unknown}
use Rattle.smv_cli.specs.declared.record.Record.{Record}

-- what follows `unknown: `, of an invariant
abbrev pub cause_text : Cause → List ℕ
cause_text (Conflicts drawn budget) = codes "conflicts " ++ decimal drawn ++ codes " of " ++ decimal budget
cause_text (Frames frames) = codes "frames " ++ decimal frames

-- and of a formula
abbrev pub ltl_cause_text : LtlCause → List ℕ
ltl_cause_text (ltl.Conflicts drawn budget) = codes "conflicts " ++ decimal drawn ++ codes " of " ++ decimal budget
ltl_cause_text (ltl.Bound bound counter) = codes "bound " ++ decimal bound ++ codes ", counter " ++ decimal counter
ltl_cause_text (ltl.Frames bound frames counter) = codes "bound " ++ decimal bound ++ codes ", frames " ++ decimal frames ++ codes " at " ++ decimal counter

-- what follows `unknown: `, of any specification
abbrev pub reason_text : Reason → List ℕ
reason_text (reason.Invariant cause) = cause_text cause
reason_text (reason.Formula cause) = ltl_cause_text cause
reason_text (reason.Preparing drawn budget) = codes "conflicts " ++ decimal drawn ++ codes " of " ++ decimal budget ++ codes " while preparing"

-- the certificate of what is true, where there is one
abbrev pub shown_text : ℕ → Option Block → List ℕ
shown_text number None = []
shown_text number (Some cert) = certificate_text number cert

-- what follows `-- spec I KIND is `
abbrev pub verdict_text : ℕ → SpecVerdict → List ℕ
verdict_text number (True shown) = codes "true" ++ line_end ++ shown_text number shown
verdict_text number (False trace) = codes "false" ++ line_end ++ trace_text number trace
verdict_text number (Unknown why) = codes "unknown: " ++ reason_text why ++ line_end

-- a record: its line, and the certificate or the trace behind it
abbrev pub record_text : Record → List ℕ
record_text r = codes "-- spec " ++ decimal r.number ++ codes " " ++ kind_text r.kind ++ codes " is " ++ verdict_text r.number r.verdict

-- the line of usage
abbrev pub usage_text : List ℕ
usage_text = codes "-- usage: smvcheck check | recheck | flat | self N SEED" ++ line_end
