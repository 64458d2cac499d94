-- How a program is refused for an item that faults.
use Rattle.std.specs.Prelude.{◌≡◌, true, List, Option, Some, option_map}
use Rattle.smv_tree.specs.declared.place.Place.{Place}
use Rattle.smv_tree.specs.declared.refusal.Refusal.{Refusal}
use Rattle.smv_tree.specs.declared.refusal.Rule.{Rule}
use Rattle.smv_tree.specs.declared.refusal.Rule.TheVariants as rule
use Rattle.smv_tree.specs.declared.tree.Program.{Program}
use Rattle.smv_value.specs.declared.value.FaultRule.{FaultRule}
use Rattle.smv_value.specs.declared.value.FaultRule.TheVariants as fault
use Rattle.smv_value.specs.declared.value.Value.{Value}
use Rattle.smv_resolve.specs.Items.{ResolvedItem}
use Rattle.smv_slots.specs.Slots.{slots_of, types_of}
use Rattle.smv_meaning.specs.Faults.{item_fault}
use Rattle.smv_meaning.specs.Runs.{are_inputs, is_state}
use Rattle.fault_texts.specs.Valuations.{valuation_text}

-- the rule that a program breaks where an item faults so
abbrev pub rule_of : FaultRule → Rule
rule_of fault.CaseOpen = rule.CaseOpen
rule_of fault.OutOfRange = rule.OutOfRange
rule_of fault.IndexOutside = rule.IndexOutside
rule_of fault.DivisorZero = rule.DivisorZero
rule_of fault.ShiftTooFar = rule.ShiftTooFar

-- The refusal of an item that faults so in the state s, with the inputs u and the next state t: its detail tells the
-- slots that occur in the item, of an assignment in its right side.
abbrev pub refusal_of : Program → List Value → List Value → List Value → ResolvedItem → FaultRule × Place → Refusal
refusal_of p s u t x f = record { rule = rule_of f.0; place = f.1; detail = valuation_text p s u t x.value }

-- the refusal of an item at a valuation, if it faults there
abbrev pub refusal_at : Program → List Value → List Value → List Value → ResolvedItem → Option Refusal
refusal_at p s u t x = option_map (refusal_of p s u t x) (item_fault (types_of p) (slots_of p) s u t x)

-- the refusal tells a fault of the item, at some state, inputs and next state of the declared types
pub record TellsFault (p : Program) (x : ResolvedItem) (r : Refusal) : Type 0 where
  pub s : List Value
  pub u : List Value
  pub t : List Value
  pub state : is_state p s ≡ true
  pub inputs : are_inputs p u ≡ true
  pub next : is_state p t ≡ true
  pub told : refusal_at p s u t x ≡ Some r
