use Rattle.smv_front.proofs.OfSources.{program_once, refusal_alike, never_both}
use Rattle.smv_front.proofs.one_reading.is_read_once.Goals as goal

pub returns-clause-program : goal.returns-clause-program
returns-clause-program c = program_once

pub returns-clause-refusal : goal.returns-clause-refusal
returns-clause-refusal c = refusal_alike

pub returns-clause-apart : goal.returns-clause-apart
returns-clause-apart c = never_both
