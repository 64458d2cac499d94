-- The effort that a command line says is in its range.
use Rattle.std.proofs.Common.{ℕ, List}
use Rattle.command_words.specs.declared.command.Command.{Command}
use Rattle.command_words.specs.declared.command.Command.TheVariants.{Check, Recheck, Flat, Ring}
use Rattle.command_words.specs.Grammar.{Says}
use Rattle.command_words.proofs.Ranges.{cells_enough, counter_within, crew_within, frames_within, workers_within}
use Rattle.smv_cli.specs.Written.{IsCommandInRange}

pub in_range : (words : List (List ℕ)) (command : Command) → Says words command → IsCommandInRange command
in_range words (Check effort) says = (frames_within words effort says, counter_within words effort says, workers_within words effort says)
in_range words (Recheck upgrade) says = tt
in_range words Flat says = tt
in_range words (Ring ring) says = (cells_enough words ring says, crew_within words ring says)
