-- The commands of the table, one after another.
use Rattle.std.proofs.Common.{[], ◌∷◌}
use Rattle.command_words.specs.Grammar.{check_row, command_app, flat_row, program_with, recheck_row, ring_row}
use Rattle.command_words.proofs.table.program.Goals as goal

pub returns : goal.returns
returns c =
    let check = c.with_command-program.ensures _ _ c.bare_program.ensures.app c.check_command.ensures.app in
    let recheck = c.with_command-program-2.ensures _ _ check c.recheck_command.ensures.app in
    let flat = c.with_command-program-3.ensures _ _ recheck c.flat_command.ensures.app in
    c.with_command.ensures (program_with (check_row ∷ recheck_row ∷ flat_row ∷ [])) (command_app ring_row) flat c.ring_command.ensures.app
