-- What a query about bad states finds.
use Rattle.std.specs.Prelude.{◌≡◌, ℕ, Bool, true, List, length, take, All}
use Rattle.clause_core.specs.Assignments.{ClauseTrue, assignment_of}
use Rattle.clause_core.specs.Systems.{TransitionSystem}
use Rattle.sat_core.specs.declared.answer.Answer.{Answer}
use Rattle.sat_core.specs.declared.answer.Answer.TheVariants.{Sat, Unsat}
use Rattle.sat_core.specs.declared.answer.Answer.TheVariants as solver
use Rattle.frame_core.specs.declared.parts.Lemma.{Lemma}
use Rattle.frame_core.specs.Facts.{IsClear}
use Rattle.frame_core.specs.FrameLaw.{InFrame, AllStand}
use Rattle.frame_solver.specs.declared.bad_states.BadStates.{BadStates}
use Rattle.frame_solver.specs.declared.bad_states.BadStates.TheVariants.{None, Some, Spent}
use Rattle.frame_solver.specs.Stepping.{AreParents}

-- values of a bad state of the frame
pub record IsBadIn (sys : TransitionSystem) (lemmas : List Lemma) (i : ℕ) (values : List Bool) : Type 0 where
  pub whole : length values ≡ sys.all_bits
  pub bad : All (ClauseTrue (assignment_of values)) sys.bad
  pub from : InFrame sys lemmas i (assignment_of values)

-- no state that meets the parents is bad; or one of the frame is; or the purse was spent
abbrev pub FindsBads : TransitionSystem → List Lemma → ℕ → ℕ → Bool → BadStates → Type 0
FindsBads sys lemmas i budget over (None parents) = IsClear record { system = sys; level = i; parents = parents.items } × AllStand lemmas i parents.items
FindsBads sys lemmas i budget over (Some values) = IsBadIn sys lemmas i values
FindsBads sys lemmas i budget over (Spent d b) = (d ≡ budget) × (b ≡ budget) × (over ≡ true)

-- what a solver's answer says of bad states
abbrev pub ReadsBads : TransitionSystem → ℕ → List Lemma → Answer → BadStates → Type 0
ReadsBads sys first lemmas (Sat model) found = found ≡ Some (take sys.all_bits model)
ReadsBads sys first lemmas (Unsat core) (None parents) = AreParents first lemmas core.items parents.items
ReadsBads sys first lemmas (Unsat core) (Some values) = ⊥
ReadsBads sys first lemmas (Unsat core) (Spent d budget) = ⊥
ReadsBads sys first lemmas (solver.Spent d budget) found = found ≡ Spent d budget
