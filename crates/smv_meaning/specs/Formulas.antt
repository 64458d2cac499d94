-- Temporal formulas: where a temporal operator stands in an expression, and what there is of its parts, which stand
-- under temporal operators and propositions (NuSMV 2.6 User Manual, 2.4.3, LTL Specifications).
use Rattle.std.specs.Prelude.{Bool, true, false, ◌&&◌, ◌||◌, if◌then◌else◌, List, [], Option, None, Some}
use Rattle.std.specs.Option.{is_some, option_or}
use Rattle.smv_value.specs.declared.operator.Operator.{Operator}
use Rattle.smv_value.specs.declared.operator.Operator.TheVariants as operator
use Rattle.smv_value.specs.declared.value.Value.{Value}
use Rattle.smv_slots.specs.declared.slot.Slot.{Slot}
use Rattle.smv_resolve.specs.Resolved.{Resolved, Operands}
use Rattle.smv_tree.specs.declared.place.Place.{Place}
use Rattle.smv_value.specs.declared.value.FaultRule.{FaultRule}
use Rattle.smv_meaning.specs.declared.outcome.Evaluation.{Evaluation}
use Rattle.smv_meaning.specs.declared.outcome.Evaluation.TheVariants.{Fault}
use Rattle.smv_meaning.specs.Outcomes.{truth}
use Rattle.smv_meaning.specs.Values.{outcome}

-- `!`, `&`, `|`, `xor`, `xnor`, `->`, `<->`
abbrev pub is_propositional : Operator → Bool
is_propositional operator.Not = true
is_propositional (operator.Logic o) = true
is_propositional other = false

-- a temporal operator: without bounds, with bounds, or with bounds as they are written
abbrev pub is_temporal : Operator → Bool
is_temporal (operator.Temporal o) = true
is_temporal (operator.Bounded o low high) = true
is_temporal (operator.Window o) = true
is_temporal other = false

-- the operators that may stand over a temporal one
abbrev pub is_over_formulas : Operator → Bool
is_over_formulas o = is_propositional o || is_temporal o

-- a temporal operator stands in it
abbrev mutual
  pub has_temporal : Resolved → Bool
  has_temporal (Resolved.Constant place b) = false
  has_temporal (Resolved.Slot place n) = false
  has_temporal (Resolved.Whole place i) = false
  has_temporal (Resolved.Named place naming r) = has_temporal r
  has_temporal (Resolved.Next place r) = has_temporal r
  has_temporal (Resolved.Apply place o rs) = is_temporal o || has_some_temporal rs
  has_temporal Resolved.Stuck = false

  pub has_some_temporal : Operands → Bool
  has_some_temporal Operands.End = false
  has_some_temporal (Operands.With r rs) = has_temporal r || has_some_temporal rs

-- TRUE, FALSE or a fault
abbrev pub is_known : Evaluation → Bool
is_known (Fault rule place) = true
is_known o = is_some (truth o)

-- the rule and the place of a fault
abbrev pub fault_in : Evaluation → Option (FaultRule × Place)
fault_in (Fault rule place) = Some (rule, place)
fault_in o = None

-- In the state s with the inputs u each operand of temporal operators and propositions is TRUE or FALSE or faults, down
-- to what is neither.
abbrev mutual
  pub is_known_formula : List Slot → List Value → List Value → Resolved → Bool
  is_known_formula slots s u (Resolved.Constant place v) = is_known (outcome slots s u [] (Resolved.Constant place v))
  is_known_formula slots s u (Resolved.Slot place n) = is_known (outcome slots s u [] (Resolved.Slot place n))
  is_known_formula slots s u (Resolved.Whole place i) = false
  is_known_formula slots s u (Resolved.Named place naming r) = is_known (outcome slots s u [] r)
  is_known_formula slots s u (Resolved.Next place r) = false
  is_known_formula slots s u (Resolved.Apply place o rs) =
      if is_over_formulas o then are_known_formulas slots s u rs else is_known (outcome slots s u [] (Resolved.Apply place o rs))
  is_known_formula slots s u Resolved.Stuck = false

  pub are_known_formulas : List Slot → List Value → List Value → Operands → Bool
  are_known_formulas slots s u Operands.End = true
  are_known_formulas slots s u (Operands.With r rs) = is_known_formula slots s u r && are_known_formulas slots s u rs

-- the first fault of these operands in the state s with the inputs u, down to the same parts
abbrev mutual
  pub formula_fault : List Slot → List Value → List Value → Resolved → Option (FaultRule × Place)
  formula_fault slots s u (Resolved.Constant place v) = None
  formula_fault slots s u (Resolved.Slot place n) = None
  formula_fault slots s u (Resolved.Whole place i) = None
  formula_fault slots s u (Resolved.Named place naming r) = fault_in (outcome slots s u [] r)
  formula_fault slots s u (Resolved.Next place r) = fault_in (outcome slots s u [] (Resolved.Next place r))
  formula_fault slots s u (Resolved.Apply place o rs) =
      if is_over_formulas o then formula_faults slots s u rs else fault_in (outcome slots s u [] (Resolved.Apply place o rs))
  formula_fault slots s u Resolved.Stuck = None

  pub formula_faults : List Slot → List Value → List Value → Operands → Option (FaultRule × Place)
  formula_faults slots s u Operands.End = None
  formula_faults slots s u (Operands.With r rs) = option_or (formula_fault slots s u r) (formula_faults slots s u rs)
