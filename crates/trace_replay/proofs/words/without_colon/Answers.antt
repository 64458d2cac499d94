-- The last byte is stripped.
use Rattle.std.proofs.Common.{lit<}
use Rattle.std.proofs.lemmas.Str.Pattern.{strip_suffix_char}
use Rattle.trace_replay.proofs.OfWords.{stripped}
use Rattle.trace_replay.proofs.words.without_colon.Goals as goal

pub returns : goal.returns
returns c = stripped 58 c.args.text.now c.strip_suffix.result (strip_suffix_char 58 c.args.text.now c.strip_suffix.result c.strip_suffix.ensures.cases (lit< tt))
