-- The values of an expression in a state, with the inputs of the step from it and the next state (manual 2.2,
-- Expressions).
use Rattle.std.specs.Prelude.{List, [], ◌∷◌}
use Rattle.smv_value.specs.declared.value.Value.{Value}
use Rattle.smv_slots.specs.declared.slot.Slot.{Slot}
use Rattle.smv_slots.specs.Slots.{item_of}
use Rattle.smv_resolve.specs.Resolved.{Resolved, Operands}
use Rattle.smv_meaning.specs.declared.outcome.Evaluation.{Evaluation}
use Rattle.smv_meaning.specs.declared.outcome.Evaluation.TheVariants.{Nothing}
use Rattle.smv_meaning.specs.Outcomes.{applied, one, valued}

-- The outcome of an expression in the state s, with the inputs u and the next state t. Under `next` there are no inputs
-- and there is no next state.
abbrev mutual
  pub outcome : List Slot → List Value → List Value → List Value → Resolved → Evaluation
  outcome slots s u t (Resolved.Constant place v) = one v
  outcome slots s u t (Resolved.Slot place n) = valued (item_of slots s u n)
  outcome slots s u t (Resolved.Whole place i) = Nothing
  outcome slots s u t (Resolved.Named place naming r) = outcome slots s u t r
  outcome slots s u t (Resolved.Next place r) = outcome slots t [] [] r
  outcome slots s u t (Resolved.Apply place o rs) = applied o place (outcomes slots s u t rs)
  outcome slots s u t Resolved.Stuck = Nothing

  pub outcomes : List Slot → List Value → List Value → List Value → Operands → List Evaluation
  outcomes slots s u t Operands.End = []
  outcomes slots s u t (Operands.With r rs) = outcome slots s u t r ∷ outcomes slots s u t rs

-- the outcome in a state, where there are no inputs and no next state
abbrev pub outcome_in : List Slot → List Value → Resolved → Evaluation
outcome_in slots s r = outcome slots s [] [] r
