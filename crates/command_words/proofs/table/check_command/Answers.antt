-- The rules of the arguments, one after another.
use Rattle.std.proofs.Common.{[], ◌∷◌}
use Rattle.command_words.specs.Grammar.{cert_flag, check_row, command_app, flag_rule, together_flag}
use Rattle.command_words.proofs.table.check_command.Goals as goal

pub returns-clause-app : goal.returns-clause-app
returns-clause-app c =
    let together = c.with_arg-command.ensures.app _ _ c.check_options.ensures.app c.flag.ensures.rule in
    c.with_arg.ensures.app (command_app (record check_row { flags = together_flag ∷ [] })) (flag_rule cert_flag) together c.flag-2.ensures.rule

pub returns-clause-local : goal.returns-clause-local
returns-clause-local c = c.with_arg.ensures.local (c.with_arg-command.ensures.local c.check_options.ensures.local)
