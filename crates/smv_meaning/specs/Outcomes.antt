-- Outcomes, and what operators give of those of their operands (NuSMV 2.6 User Manual, 2.2, Expressions).
use Rattle.std.specs.Prelude.{Bool, true, false, List, [], ◌∷◌, ◌++◌, Option, None, Some, Result, Ok, Err, option_and_then}
use Rattle.std.specs.List.{list_any}
use Rattle.smv_value.specs.declared.operator.Operator.{Operator}
use Rattle.smv_value.specs.declared.operator.Operator.TheVariants as operator
use Rattle.smv_tree.specs.declared.place.Place.{Place}
use Rattle.smv_value.specs.declared.value.Value.{Value}
use Rattle.smv_value.specs.declared.value.Value.TheVariants as value
use Rattle.smv_value.specs.declared.value.FaultRule.{FaultRule}
use Rattle.smv_value.specs.declared.value.FaultRule.TheVariants as fault
use Rattle.smv_value.specs.Results.{result_of, same}
use Rattle.value_sets.specs.Members.{only, run}
use Rattle.smv_meaning.specs.declared.outcome.Evaluation.{Evaluation}
use Rattle.smv_meaning.specs.declared.outcome.Evaluation.TheVariants.{Fault, Nothing, Values}

-- a single value
abbrev pub one : Value → Evaluation
one v = Values (v ∷ [])

-- the value, if it is there
abbrev pub valued : Option Value → Evaluation
valued (Some v) = one v
valued None = Nothing

-- what an operator gives of single values, at this place
abbrev pub given : Place → Result (Option Value) FaultRule → Evaluation
given place (Ok v) = valued v
given place (Err rule) = Fault rule place

-- the one value, and all values, of what does not fault
abbrev pub value_in : Evaluation → Option Value
value_in (Values vs) = only vs
value_in other = None

abbrev pub values_in : Evaluation → Option (List Value)
values_in (Values vs) = Some vs
values_in other = None

-- TRUE or FALSE, of a value
abbrev pub truth_of : Value → Option Bool
truth_of (value.Bool b) = Some b
truth_of other = None

-- TRUE or FALSE
abbrev pub truth : Evaluation → Option Bool
truth o = option_and_then truth_of (value_in o)

-- the fault, or nothing
abbrev pub failed : Evaluation → Evaluation
failed (Fault rule place) = Fault rule place
failed other = Nothing

-- what comes of what is wanted of an operand, if it is there; else its fault, or nothing
abbrev pub over : {A : Type 0} → Evaluation → Option A → (A → Evaluation) → Evaluation
over o (Some a) go = go a
over o None go = failed o

-- what comes of operands that have one value each, where vs are those of the operands so far; or the first fault
abbrev pub operated : (List Value → Evaluation) → List Value → List Evaluation → Evaluation
operated f vs [] = f vs
operated f vs (o ∷ os) = over o (value_in o) (λ v. operated f (vs ++ v ∷ []) os)

-- the values of all operands, behind those of the operands so far; or the first fault (manual 2.2.3, Set Expressions)
abbrev pub united : List Value → List Evaluation → Evaluation
united vs [] = Values vs
united vs (o ∷ os) = over o (values_in o) (λ ws. united (vs ++ ws) os)

-- an operator over two operands; of more or fewer it gives nothing
abbrev pub two : (Evaluation → Evaluation → Evaluation) → List Evaluation → Evaluation
two f (a ∷ b ∷ []) = f a b
two f other = Nothing

-- the integers between two (manual 2.2.3, Integer Range Expressions)
abbrev pub integers_between : Value → Value → Evaluation
integers_between (value.Int a) (value.Int b) = Values (run a b)
integers_between v w = Nothing

-- the integers between the values of two operands, or the first fault
abbrev pub ranged : Evaluation → Evaluation → Evaluation
ranged a b = over a (value_in a) (λ v. over b (value_in b) (λ w. integers_between v w))

-- whether a value is one of these (manual 2.2.3, Inclusion Operator)
abbrev pub included : Evaluation → Evaluation → Evaluation
included a b = over a (value_in a) (λ v. over b (values_in b) (λ ws. one (value.Bool (list_any (same v) ws))))

-- the branch that is taken by the truth of the condition, if it has one (manual 2.2.3, If-Then-Else expressions)
abbrev pub taken : Option Bool → Evaluation → Evaluation → Evaluation → Evaluation
taken (Some true) c a b = a
taken (Some false) c a b = b
taken None c a b = failed c

-- Conditions and branches by turns, and perhaps a last branch without a condition; none of the rest is looked at. Where
-- no condition is TRUE it is a fault by this rule (manual 2.2.3, Case expressions).
abbrev pub choice : FaultRule → Place → List Evaluation → Evaluation
choice rule place [] = Fault rule place
choice rule place (a ∷ []) = a
choice rule place (c ∷ a ∷ rest) = taken (truth c) c a (choice rule place rest)

-- The table: an operator at this place over the outcomes of its operands.
abbrev pub applied : Operator → Place → List Evaluation → Evaluation
applied (operator.Choice rule) place os = choice rule place os
applied operator.Members place os = united [] os
applied operator.Union place os = united [] os
applied operator.Range place os = two ranged os
applied operator.In place os = two included os
applied o place os = operated (λ vs. given place (result_of o vs)) [] os
