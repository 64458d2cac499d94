use Rattle.smv_parse.proofs.ParsedOnce.{program_once, refusal_once, never_both, one_of_both}
use Rattle.smv_parse.proofs.one_parse.is_parsed_once.Goals as goal

pub returns-clause-program : goal.returns-clause-program
returns-clause-program c = program_once

pub returns-clause-refusal : goal.returns-clause-refusal
returns-clause-refusal c = refusal_once

pub returns-clause-apart : goal.returns-clause-apart
returns-clause-apart c = never_both

pub returns-clause-either : goal.returns-clause-either
returns-clause-either c = one_of_both
