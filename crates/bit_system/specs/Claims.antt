-- What it means for a specification to be broken or not, and for a system to reach no bad state.
use Rattle.std.specs.Prelude.{ℕ, ◌≤◌, Bool, List, length}
use Rattle.clause_core.specs.Systems.{TransitionSystem, BadBits, ReachedWithin}
use Rattle.smv_tree.specs.declared.tree.Program.{Program}
use Rattle.smv_value.specs.declared.value.Value.{Value}
use Rattle.smv_resolve.specs.Items.{ResolvedItem}
use Rattle.smv_meaning.specs.Runs.{Breaks}

-- no bad state is reached in at most n steps; or in any number of steps
abbrev pub NeverBadWithin : TransitionSystem → ℕ → Type 0
NeverBadWithin sys n = (x : ℕ → Bool) → ReachedWithin sys n x → BadBits sys x → ⊥

abbrev pub NeverBad : TransitionSystem → Type 0
NeverBad sys = (n : ℕ) → NeverBadWithin sys n

-- no run of at most n steps breaks the specification; or none at all
abbrev pub IsUnbrokenWithin : Program → ResolvedItem → ℕ → Type 0
IsUnbrokenWithin p spec n = (states inputs : List (List Value)) → length inputs ≤ n → Breaks p spec states inputs → ⊥

abbrev pub IsUnbroken : Program → ResolvedItem → Type 0
IsUnbroken p spec = (states inputs : List (List Value)) → Breaks p spec states inputs → ⊥

-- some run breaks it
abbrev pub IsBroken : Program → ResolvedItem → Type 0
IsBroken p spec = (states : List (List Value)) × ((inputs : List (List Value)) × Breaks p spec states inputs)
