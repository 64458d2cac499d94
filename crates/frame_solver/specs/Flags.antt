-- Whether states that were found are first ones.
use Rattle.std.specs.Prelude.{◌≡◌, ℕ, Bool, true, false, List}
use Rattle.clause_core.specs.Systems.{TransitionSystem}
use Rattle.frame_core.specs.Facts.{IsFirstFlag}
use Rattle.frame_solver.specs.declared.first_states.Firsts.{Firsts}
use Rattle.frame_solver.specs.declared.first_states.Firsts.TheVariants as firsts
use Rattle.frame_solver.specs.declared.querying.Flag.{Flag}
use Rattle.frame_solver.specs.declared.querying.Flag.TheVariants as flag

-- whether the state is an initial one is right
abbrev pub FlagSays : TransitionSystem → List Bool → ℕ → Bool → Flag → Type 0
FlagSays sys values budget over (flag.Known first) = IsFirstFlag sys values first
FlagSays sys values budget over (flag.Spent d b) = (d ≡ budget) × (b ≡ budget) × (over ≡ true)

-- what the answer about the clause that excludes the state says
abbrev pub FlagOf : Firsts → Flag → Type 0
FlagOf (firsts.Meet part) f = f ≡ flag.Known false
FlagOf (firsts.First values) f = f ≡ flag.Known true
FlagOf (firsts.Spent d b) f = f ≡ flag.Spent d b
