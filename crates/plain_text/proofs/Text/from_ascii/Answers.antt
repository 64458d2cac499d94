-- ASCII is UTF-8, and what is UTF-8 is copied as it is.
use Rattle.std.proofs.lemmas.Str.{IsUtf8-from_ascii}
use Rattle.plain_text.proofs.Text.from_ascii.Goals as goal

pub returns : goal.returns
returns c = c.in_ok-from_utf8_lossy.ensures.ok (IsUtf8-from_ascii c.args.bytes.now c.requires)
