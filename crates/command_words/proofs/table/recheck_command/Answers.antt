-- The rules of the arguments, one after another.
use Rattle.std.proofs.Common.{codes}
use Rattle.clap.specs.Words.{new_app}
use Rattle.command_words.specs.Grammar.{flag_rule, upgrade_flag}
use Rattle.command_words.proofs.table.recheck_command.Goals as goal

pub returns-clause-app : goal.returns-clause-app
returns-clause-app c = c.with_arg.ensures.app (new_app (codes "recheck")) (flag_rule upgrade_flag) c.new.ensures.app c.flag.ensures.rule

pub returns-clause-local : goal.returns-clause-local
returns-clause-local c = c.with_arg.ensures.local c.new.ensures.local
