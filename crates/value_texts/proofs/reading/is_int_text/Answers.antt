-- The integer that was read is this one, or another.
use Rattle.std.proofs.Common.{subst}
use Rattle.value_texts.specs.Read.{IsIntRead}
use Rattle.value_texts.proofs.OfReading.{int_text}
use Rattle.value_texts.proofs.reading.is_int_text.Goals as goal

pub returns-in-Some : goal.returns-in-Some
returns-in-Some c = λ text read. int_text c.in-Some.k c.args.z text (subst (IsIntRead text) c.in-Some.is read) c.ranges.z
