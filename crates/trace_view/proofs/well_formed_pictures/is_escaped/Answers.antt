-- No character of an escaped text begins or ends a tag.
use Rattle.std.specs.Str.{chars}
use Rattle.trace_view.proofs.OfSvg.{chars_plain}
use Rattle.trace_view.proofs.well_formed_pictures.is_escaped.Goals as goal

pub returns : goal.returns
returns c = λ text. chars_plain (chars text)
