-- What a run of the program writes, and with which status it ends.
use Rattle.std.specs.Prelude.{◌≡◌, ℕ, List, codes, Option, None, Some}
use Rattle.std.specs.Io.KnownBytes.{Appends}
use Rattle.trace_view.specs.declared.answer.Answer.{Answer}
use Rattle.trace_view.specs.declared.command.Command.{Command}
use Rattle.trace_view.specs.Answers.{answer_of, command_of}
use Rattle.smvtrace.specs.Streams.{AppendsFront, ReadsFirst}

abbrev pub usage : Answer
usage = record { status = 4; text = codes "-- usage: smvtrace table | vcd | svg [I]\n" }

-- a report is read to its end, since no memory holds more bytes than these
abbrev pub report_limit : ℕ
report_limit = 18446744073709551615

abbrev pub answer_by : Option Command → List ℕ → Answer
answer_by None report = usage
answer_by (Some c) report = answer_of c report

-- what is to be written for these words and this report
abbrev pub answer_for : List (List ℕ) → List ℕ → Answer
answer_for words report = answer_by (command_of words) report

-- what the sink took is all that is to be written for what the source held, and the status is that
pub record WritesReport (words : List (List ℕ)) (left before now : Option (List ℕ)) (status : ℕ) : Type 0 where
  pub report : List ℕ
  pub held : ReadsFirst report_limit left report
  pub took : Appends before now (answer_for words report).text
  pub ends : status ≡ (answer_for words report).status

-- it is the beginning of that
pub record WritesBeginning (words : List (List ℕ)) (left before now : Option (List ℕ)) : Type 0 where
  pub report : List ℕ
  pub held : ReadsFirst report_limit left report
  pub took : AppendsFront before now (answer_for words report).text
