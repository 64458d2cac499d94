-- The numbers that a command line says are in the ranges of their options.
use Rattle.std.proofs.Common.{◌≤◌, List, Option, Some, None}
use Rattle.clap.specs.Words.{Row, Text, subcommand_of}
use Rattle.command_words.specs.declared.command.Command.TheVariants.{Check, Ring}
use Rattle.command_words.specs.declared.command.Effort.{Effort}
use Rattle.command_words.specs.declared.command.Ring.{Ring as RingOf}
use Rattle.command_words.specs.Grammar.{HasEffort, HasRing, Says, Tells, cells_place, counter_option, frames_option, program, workers_option}

module _ (words : List Text) (effort : Effort) (says : Says words (Check effort)) where
  told : (found : Option (Text × List Row)) → Tells found (Check effort) → (rows : List Row) × HasEffort rows effort
  told None h = absurd h
  told (Some found) h = (found.1, h.1)

  has : (rows : List Row) × HasEffort rows effort
  has = told (subcommand_of program words) says.1

  pub frames_within : effort.frames ≤ frames_option.greatest
  frames_within = has.1.frames.within

  pub counter_within : effort.counter ≤ counter_option.greatest
  counter_within = has.1.counter.within

  pub workers_within : (workers_option.least ≤ effort.workers) × (effort.workers ≤ workers_option.greatest)
  workers_within = (has.1.workers.enough, has.1.workers.within)

module _ (words : List Text) (ring : RingOf) (says : Says words (Ring ring)) where
  told_ring : (found : Option (Text × List Row)) → Tells found (Ring ring) → (rows : List Row) × HasRing rows ring
  told_ring None h = absurd h
  told_ring (Some found) h = (found.1, h.1)

  has_ring : (rows : List Row) × HasRing rows ring
  has_ring = told_ring (subcommand_of program words) says.1

  pub cells_enough : cells_place.least ≤ ring.cells
  cells_enough = has_ring.1.cells.enough

  pub crew_within : (workers_option.least ≤ ring.workers) × (ring.workers ≤ workers_option.greatest)
  crew_within = (has_ring.1.workers.enough, has_ring.1.workers.within)
