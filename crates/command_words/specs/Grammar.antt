-- The command lines that the program takes: a table of commands, and of their options and flags. What words such a
-- table takes is the grammar of simple commands of `clap`.
use Rattle.std.specs.Prelude.{◌≡◌, ℕ, ◌≤◌, Bool, List, [], ◌∷◌, ◌++◌, map, fold, codes, Option, Some, None, true, false, Result, Ok}
use Rattle.std.specs.Str.Parse.{ParsesUnsigned}
use Rattle.clap.specs.Walk.{Row, Rule, Text, first_of, one_of}
use Rattle.clap.specs.Simple.{App, Shape, new_app, new_rule, on_top, subcommand_of, with_rule, with_subcommand}
use Rattle.clap.specs.Faults.{fault_of}
use Rattle.clap.specs.declared.builder.action.ArgAction.TheVariants.{SetTrue}
use Rattle.clap.specs.declared.builder.value_parser.ValueParser.TheVariants as parser
use Rattle.command_words.specs.declared.command.Command.{Command}
use Rattle.command_words.specs.declared.command.Command.TheVariants.{Check, Recheck, Flat, Ring}
use Rattle.command_words.specs.declared.command.Effort.{Effort}
use Rattle.command_words.specs.declared.command.Ring.{Ring as RingOf}

-- a row of an option: its word, the least and the greatest number that it takes, and what stands for its number where
-- it is left out
pub record OptionRow : Type 0 where
  pub word : Text
  pub least : ℕ
  pub greatest : ℕ
  pub default : Text

-- a row of a number that stands in its place among the words after the command, without a word before it: what it is
-- called, and the least and the greatest number that it takes
pub record PlaceRow : Type 0 where
  pub name : Text
  pub least : ℕ
  pub greatest : ℕ

-- a row of a command: its word, the numbers in their places, its options, and the words of its flags
pub record CommandRow : Type 0 where
  pub word : Text
  pub places : List PlaceRow
  pub options : List OptionRow
  pub flags : List Text

-- how many workers explore frames together
abbrev pub workers_option : OptionRow
workers_option = record { word = codes "workers"; least = 1; greatest = 64; default = codes "1" }

-- how many tickets a specification may cost
abbrev pub conflicts_option : OptionRow
conflicts_option = record { word = codes "conflicts"; least = 0; greatest = 1099511627776; default = codes "1000000" }

-- how many states the lassos have at most that are looked for
abbrev pub bound_option : OptionRow
bound_option = record { word = codes "bound"; least = 0; greatest = 10000; default = codes "30" }

-- the greatest level of the frames at which bad states are looked for
abbrev pub frames_option : OptionRow
frames_option = record { word = codes "frames"; least = 0; greatest = 100000; default = codes "1000" }

-- up to which number of signals formulas are proved
abbrev pub counter_option : OptionRow
counter_option = record { word = codes "counter"; least = 0; greatest = 64; default = codes "16" }

-- whether invariants are proved over one pool of lemmas
abbrev pub together_flag : Text
together_flag = codes "together"

-- whether the certificate of what is true is printed
abbrev pub cert_flag : Text
cert_flag = codes "cert"

-- whether certificates are made anew in the form that is judged by hints
abbrev pub upgrade_flag : Text
upgrade_flag = codes "upgrade"

-- how many cells the ring has
abbrev pub cells_place : PlaceRow
cells_place = record { name = codes "N"; least = 2; greatest = 12 }

-- what picks the cell that begins with the token
abbrev pub seed_place : PlaceRow
seed_place = record { name = codes "SEED"; least = 0; greatest = 4294967295 }

-- specifications are decided
abbrev pub check_row : CommandRow
check_row = record {
  word = codes "check";
  places = [];
  options = workers_option ∷ conflicts_option ∷ bound_option ∷ frames_option ∷ counter_option ∷ [];
  flags = together_flag ∷ cert_flag ∷ [];
}

-- a report is judged again
abbrev pub recheck_row : CommandRow
recheck_row = record { word = codes "recheck"; places = []; options = []; flags = upgrade_flag ∷ [] }

-- slots and items are listed
abbrev pub flat_row : CommandRow
flat_row = record { word = codes "flat"; places = []; options = []; flags = [] }

-- a ring is made, and its specifications are decided
abbrev pub ring_row : CommandRow
ring_row = record { word = codes "self"; places = cells_place ∷ seed_place ∷ []; options = workers_option ∷ []; flags = [] }

-- the table
abbrev pub commands : List CommandRow
commands = check_row ∷ recheck_row ∷ flat_row ∷ ring_row ∷ []

-- `--WORD N` and `--WORD=N`, with a number in this range, and what stands for it where it is left out
abbrev pub number_rule : Text → ℕ → ℕ → Text → Rule
number_rule word least greatest default = record (new_rule word) {
  long = Some word;
  parser = Some (parser.Unsigned least greatest);
  defaults = default ∷ [];
}

-- the rule of an option
abbrev pub option_rule : OptionRow → Rule
option_rule row = number_rule row.word row.least row.greatest row.default

-- a number in this range, which has to be there
abbrev pub place_rule : PlaceRow → Rule
place_rule row = record (new_rule row.name) { parser = Some (parser.Unsigned row.least row.greatest); required = true }

-- `--WORD`, which takes no value
abbrev pub flag_rule : Text → Rule
flag_rule word = record (new_rule word) { long = Some word; action = Some SetTrue }

-- a command with the rules of the numbers in their places, then of its options and then of its flags
abbrev pub command_app : CommandRow → App
command_app row = fold with_rule (new_app row.word) (map place_rule row.places ++ map option_rule row.options ++ map flag_rule row.flags)

-- a program that wants a command, and has no help of its own
abbrev pub bare_program : App
bare_program = on_top (λ (s : Shape). record s {
  no_binary_name = true;
  subcommand_required = true;
  disable_help_flag = true;
  disable_help_subcommand = true;
}) (new_app (codes "smvcheck"))

-- the program with these commands
abbrev pub program_with : List CommandRow → App
program_with = fold (λ app row. with_subcommand app (command_app row).top) bare_program

-- the program with the commands of the table
abbrev pub program : App
program = program_with commands

-- the words are in the grammar
abbrev pub IsCommandLine : List Text → Type 0
IsCommandLine words = fault_of program words ≡ []

-- The option of this word, or the number in its place that is called so, has this number in its range: what stands for
-- it on the command line, or else its default, is read as that.
pub record HasNumber (rows : List Row) (word : Text) (least greatest n : ℕ) : Type 0 where
  pub text : Text
  pub given : first_of word rows ≡ Some text
  pub read : (let number : Result ℕ ℕ = Ok n in ParsesUnsigned 64 10 text number)
  pub enough : least ≤ n
  pub within : n ≤ greatest

-- how `clap` writes whether a flag is there
abbrev pub flag_text : Bool → Text
flag_text true = codes "true"
flag_text false = codes "false"

-- the flag of this word is on the command line, or is not
abbrev pub HasFlag : List Row → Text → Bool → Type 0
HasFlag rows word is_there = one_of word rows ≡ Some (flag_text is_there)

-- the options of `check` have these numbers, and its flags are there or not
pub record HasEffort (rows : List Row) (effort : Effort) : Type 0 where
  pub workers : HasNumber rows workers_option.word workers_option.least workers_option.greatest effort.workers
  pub conflicts : HasNumber rows conflicts_option.word conflicts_option.least conflicts_option.greatest effort.conflicts
  pub bound : HasNumber rows bound_option.word bound_option.least bound_option.greatest effort.bound
  pub frames : HasNumber rows frames_option.word frames_option.least frames_option.greatest effort.frames
  pub counter : HasNumber rows counter_option.word counter_option.least counter_option.greatest effort.counter
  pub together : HasFlag rows together_flag effort.together
  pub cert : HasFlag rows cert_flag effort.cert

-- the effort of a `check` without options
abbrev pub default_effort : Effort
default_effort = record { workers = 1; conflicts = 1000000; bound = 30; frames = 1000; counter = 16; together = false; cert = false }

-- the numbers in the places of `self`, and that of its option, are these
pub record HasRing (rows : List Row) (ring : RingOf) : Type 0 where
  pub cells : HasNumber rows cells_place.name cells_place.least cells_place.greatest ring.cells
  pub seed : HasNumber rows seed_place.name seed_place.least seed_place.greatest ring.seed
  pub workers : HasNumber rows workers_option.word workers_option.least workers_option.greatest ring.workers

-- the command that was found, with its options and flags, is this one
abbrev pub Tells : Option (Text × List Row) → Command → Type 0
Tells None command = ⊥
Tells (Some found) (Check effort) = (found.0 ≡ check_row.word) × HasEffort found.1 effort
Tells (Some found) (Recheck upgrade) = (found.0 ≡ recheck_row.word) × HasFlag found.1 upgrade_flag upgrade
Tells (Some found) Flat = found.0 ≡ flat_row.word
Tells (Some found) (Ring ring) = (found.0 ≡ ring_row.word) × HasRing found.1 ring

-- the words say this command
abbrev pub Says : List Text → Command → Type 0
Says words command = IsCommandLine words × Tells (subcommand_of program words) command
