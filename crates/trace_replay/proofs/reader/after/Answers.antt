-- What a line says, and what is read then.
use Rattle.std.proofs.Common.{subst}
use Rattle.trace_replay.specs.Words.{IsLineOf}
use Rattle.trace_replay.proofs.OfReading.{after_if_ok}
use Rattle.trace_replay.proofs.reader.after.Goals as goal

pub returns-in-Some : goal.returns-in-Some
returns-in-Some c =
    let told = subst (IsLineOf c.args.line.now.text) c.in-Some.is c.in_ok-entry_read.ensures in
    after_if_ok c.args.reading c.args.line.now.text c.in-Some.entry c.followed.result told.0 told.1 c.followed.ensures
