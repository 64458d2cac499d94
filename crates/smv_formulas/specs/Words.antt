-- The word of a lasso: which atoms are true at each of its times.
use Rattle.std.specs.Prelude.{◌≡◌, ◌↔◌, ◌<◌, ℕ, Bool, List, [], length, map}
use Rattle.smv_tree.specs.declared.tree.Program.{Program}
use Rattle.smv_value.specs.declared.value.Value.{Value}
use Rattle.smv_slots.specs.declared.slot.Slot.{Slot}
use Rattle.smv_resolve.specs.Resolved.{Resolved}
use Rattle.smv_meaning.specs.Runs.{is_true}
use Rattle.smv_meaning.specs.Values.{outcome}
use Rattle.smv_meaning.specs.Lassos.{Lasso}
use Rattle.ltl_meaning.specs.declared.word.Word.{Word}
use Rattle.ltl_meaning.specs.Lasso.{on}
use Rattle.smv_formulas.specs.Says.{atoms_on}

-- as many times as states, which go on at the same one; at each the atoms are true whose parts are TRUE
pub record IsWordOf (p : Program) (parts : List Resolved) (w : Lasso) (word : Word) : Type 0 where
  pub long : length word.times ≡ length w.states
  pub start : word.start ≡ w.start
  pub told : (t : ℕ) → t < length w.states → (a : ℕ) → on word a t ↔ atoms_on p w parts a t

-- whether each part is TRUE in the state s with the inputs u
abbrev pub truths_at : List Slot → List Value → List Value → List Resolved → List Bool
truths_at slots s u parts = map (λ (r : Resolved). is_true (outcome slots s u [] r)) parts
