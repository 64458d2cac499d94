-- The rules of the arguments, one after another.
use Rattle.std.proofs.Common.{[], ◌∷◌}
use Rattle.command_words.specs.Grammar.{bound_option, check_row, command_app, conflicts_option, counter_option, frames_option, option_rule, workers_option}
use Rattle.command_words.proofs.table.check_options.Goals as goal

pub returns-clause-app : goal.returns-clause-app
returns-clause-app c =
    let workers = c.with_arg-command.ensures.app _ _ c.new.ensures.app c.workers_option.ensures.rule in
    let conflicts = c.with_arg-command-2.ensures.app _ _ workers c.conflicts_option.ensures.rule in
    let bound = c.with_arg-command-3.ensures.app _ _ conflicts c.bound_option.ensures.rule in
    let frames = c.with_arg-command-4.ensures.app _ _ bound c.frames_option.ensures.rule in
    c.with_arg.ensures.app (command_app (record check_row { options = workers_option ∷ conflicts_option ∷ bound_option ∷ frames_option ∷ []; flags = [] })) (option_rule counter_option) frames
    c.counter_option.ensures.rule

pub returns-clause-local : goal.returns-clause-local
returns-clause-local c =
    c.with_arg.ensures.local (c.with_arg-command-4.ensures.local (c.with_arg-command-3.ensures.local (c.with_arg-command-2.ensures.local (c.with_arg-command.ensures.local c.new.ensures.local))))
