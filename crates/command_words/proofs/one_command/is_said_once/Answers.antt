use Rattle.command_words.proofs.Said.{check_alone, is_said}
use Rattle.command_words.proofs.Unique.{said_once}
use Rattle.command_words.proofs.one_command.is_said_once.Goals as goal

pub returns-clause-inside : goal.returns-clause-inside
returns-clause-inside c = is_said

pub returns-clause-once : goal.returns-clause-once
returns-clause-once c = said_once

pub returns-clause-alone : goal.returns-clause-alone
returns-clause-alone c = check_alone
