-- What was written for a report that was read, or for words that are no command line.
use Rattle.std.proofs.Common.{◌≡◌, ℕ, List, [], take, refl, sym, subst, Some, None}
use Rattle.std.specs.declared.option.Option.{Option}
use Rattle.std.specs.Io.KnownBytes.{Appends}
use Rattle.std.proofs.KnownBytes.{Appends-nil}
use Rattle.trace_view.specs.declared.command.Command.{Command}
use Rattle.trace_view.specs.Answers.{answer_of, command_of}
use Rattle.smvtrace.specs.Run.{WritesReport, WritesBeginning, answer_by, report_limit, usage}
use Rattle.smvtrace.specs.Streams.{AppendsFront, ReadsFirst}

-- what a source holds, up to the limit; nothing where it does not tell
abbrev held : Option (List ℕ) → List ℕ
held None = []
held (Some all) = take report_limit all

held_first : (left : Option (List ℕ)) → ReadsFirst report_limit left (held left)
held_first None = tt
held_first (Some all) = refl

module _ (words : List (List ℕ)) (left before now : Option (List ℕ)) where
  pub usage_answered : (status : ℕ) → status ≡ 4 → command_of words ≡ None → Appends before now usage.text → WritesReport words left before now status
  usage_answered status four none took =
      record {
        report = held left;
        held = held_first left;
        took = subst (λ (o : Option Command). Appends before now (answer_by o (held left)).text) (sym none) took;
        ends = subst (λ (o : Option Command). status ≡ (answer_by o (held left)).status) (sym none) four;
      }

  pub usage_begun : command_of words ≡ None → AppendsFront before now usage.text → WritesBeginning words left before now
  usage_begun none took =
      record {
        report = held left;
        held = held_first left;
        took = subst (λ (o : Option Command). AppendsFront before now (answer_by o (held left)).text) (sym none) took;
      }

  pub shown_answered : (c : Command) (report : List ℕ) (status : ℕ) → command_of words ≡ Some c → ReadsFirst report_limit left report → Appends before now (answer_of c report).text
      → status ≡ (answer_of c report).status → WritesReport words left before now status
  shown_answered c report status is read took ends =
      record {
        report = report;
        held = read;
        took = subst (λ (o : Option Command). Appends before now (answer_by o report).text) (sym is) took;
        ends = subst (λ (o : Option Command). status ≡ (answer_by o report).status) (sym is) ends;
      }

  pub shown_begun : (c : Command) (report : List ℕ) → command_of words ≡ Some c → ReadsFirst report_limit left report → AppendsFront before now (answer_of c report).text → WritesBeginning words left before now
  shown_begun c report is read took =
      record {
        report = report;
        held = read;
        took = subst (λ (o : Option Command). AppendsFront before now (answer_by o report).text) (sym is) took;
      }

-- nothing was written yet
pub unread_begun : (words : List (List ℕ)) (left before : Option (List ℕ)) → WritesBeginning words left before before
unread_begun words left before = record { report = held left; held = held_first left; took = (0, Appends-nil before) }
