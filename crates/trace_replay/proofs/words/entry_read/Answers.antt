-- A line is what its words say.
use Rattle.std.proofs.Common.{◌∙◌, ap}
use Rattle.trace_replay.specs.Words.{words}
use Rattle.trace_replay.proofs.OfTexts.{line_if_ok}
use Rattle.trace_replay.proofs.words.entry_read.Goals as goal

pub returns : goal.returns
returns c = line_if_ok c.args.line.now _ c.entry_of.result (c.as_slice.ensures ∙ c.in_ok-words.ensures ∙ ap words c.as_str.ensures) c.entry_of.ensures
