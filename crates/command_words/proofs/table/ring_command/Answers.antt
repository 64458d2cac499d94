-- The rules of the arguments, one after another.
use Rattle.std.proofs.Common.{[]}
use Rattle.command_words.specs.Grammar.{command_app, option_rule, ring_row, workers_option}
use Rattle.command_words.proofs.table.ring_command.Goals as goal

pub returns-clause-app : goal.returns-clause-app
returns-clause-app c =
    let cells = c.with_arg-command.ensures.app _ _ c.new.ensures.app c.cells_place.ensures.rule in
    let seed = c.with_arg-command-2.ensures.app _ _ cells c.seed_place.ensures.rule in
    c.with_arg.ensures.app (command_app (record ring_row { options = [] })) (option_rule workers_option) seed c.workers_option.ensures.rule

pub returns-clause-local : goal.returns-clause-local
returns-clause-local c = c.with_arg.ensures.local (c.with_arg-command-2.ensures.local (c.with_arg-command.ensures.local c.new.ensures.local))
