-- The rows are a lasso that violates the specification.
use Rattle.std.proofs.Common.{◌≡◌, ◌∙◌, ℕ, Bool, List, map, ap, sym, subst}
use Rattle.clause_core.specs.Assignments.{assignment_of}
use Rattle.smv_value.specs.declared.value.Value.{Value}
use Rattle.smv_meaning.specs.Lassos.{Lasso, Violates}
use Rattle.value_types.specs.declared.value_type.ValueType.{ValueType}
use Rattle.bit_states.specs.Coding.{decoded}
use Rattle.bit_states.specs.Layouts.{BitLayout}
use Rattle.bit_formula.specs.Standing.{FormulaSystem}
use Rattle.bit_lassos.specs.Claims.{lasso_in}
use Rattle.bit_runs.proofs.lassos.lasso_of.Goals as goal

-- the states and the inputs of the rows, by the layout of a system
same_lasso : (rows : List (List Bool)) (start from : ℕ) (states inputs : List (List Value)) (of_state of_inputs : List ValueType) (held given : List ℕ) (y : BitLayout) (r : FormulaSystem) → from ≡ start
    → of_state ≡ y.state_types → held ≡ y.state → of_inputs ≡ y.input_types → given ≡ y.inputs → r.layout ≡ y
    → states ≡ map (λ (row : List Bool). decoded of_state held (assignment_of row)) rows → inputs ≡ map (λ (row : List Bool). decoded of_inputs given (assignment_of row)) rows
    → (let w : Lasso = record { states = states; inputs = inputs; start = from } in w) ≡ lasso_in r rows start
same_lasso rows start from states inputs of_state of_inputs held given y r begins state_typed state_places input_typed input_places layout s u =
    let rows_in : List ValueType → List ℕ → List (List Value) = λ types places. map (λ (row : List Bool). decoded types places (assignment_of row)) rows in
    let made : List (List Value) → List (List Value) → ℕ → Lasso = λ a b n. record { states = a; inputs = b; start = n } in
    let states_are : states ≡ rows_in r.layout.state_types r.layout.state =
    s ∙ (λ i. rows_in (state_typed i) (state_places i)) ∙ ap (λ (l : BitLayout). rows_in l.state_types l.state) (sym layout) in
    let inputs_are : inputs ≡ rows_in r.layout.input_types r.layout.inputs =
    u ∙ (λ i. rows_in (input_typed i) (input_places i)) ∙ ap (λ (l : BitLayout). rows_in l.input_types l.inputs) (sym layout) in
    λ i. made (states_are i) (inputs_are i) (begins i)

pub returns-clause-same : goal.returns-clause-same
returns-clause-same c =
    let told = c.args.lasso.now in
    same_lasso told.rows told.start c.start.result c.in_ok-states.states c.in_ok-inputs.inputs c.state_types.result.now c.input_types.result.now c.state.result.now c.inputs.result.now
    c.layout-layout.result.now c.args.system.now
    c.start.ensures c.state_types.ensures.types c.state.ensures c.input_types.ensures.types c.inputs.ensures (sym c.layout-layout.ensures) c.in_ok-states.ensures c.in_ok-inputs.ensures

pub returns-clause-violates : goal.returns-clause-violates
returns-clause-violates c = λ p spec stands over.
    let told = c.args.lasso.now in
    subst (λ (w : Lasso). Violates p spec w)
    (sym (same_lasso told.rows told.start c.start.result c.in_ok-states.states c.in_ok-inputs.inputs c.state_types.result.now c.input_types.result.now c.state.result.now c.inputs.result.now
    c.layout-layout.result.now c.args.system.now
    c.start.ensures c.state_types.ensures.types c.state.ensures c.input_types.ensures.types c.inputs.ensures (sym c.layout-layout.ensures) c.in_ok-states.ensures c.in_ok-inputs.ensures))
    (c.what_violates_over_bits.ensures p spec c.args.system.now told.rows told.start stands over)
