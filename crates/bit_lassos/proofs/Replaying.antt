-- Rows of bits that violate the formula are a lasso of the program that violates the specification.
use Rattle.std.proofs.Common.{inl, inr, ◌≡◌, ◌∙◌, ℕ, ◌+◌, ◌-◌, ◌<◌, ◌≤◌, Bool, true, ◌&&◌, List, [], length, sym, ap, subst, arith}
use Rattle.std.specs.List.{list_all}
use Rattle.std.proofs.lemmas.Bool.{and_parts, cases_lt}
use Rattle.std.proofs.lemmas.Bool.Decides.{nat_tests}
use Rattle.std.proofs.lemmas.List.{get_or-map, length-map}
use Rattle.clause_core.specs.Assignments.{assignment_of}
use Rattle.clause_core.specs.Systems.{NextIs}
use Rattle.ltl_meaning.specs.Unfolded.{unfolded}
use Rattle.ltl_monitor.specs.FairLasso.{Violates as ViolatesOver}
use Rattle.ltl_monitor.specs.Lassos.{word_of}
use Rattle.ltl_monitor.specs.States.{Extends, justice_of}
use Rattle.smv_tree.specs.declared.tree.Program.{Program}
use Rattle.smv_value.specs.declared.value.Value.{Value}
use Rattle.smv_resolve.specs.Items.{ResolvedItem}
use Rattle.smv_layout.specs.Layout.{items_of}
use Rattle.smv_slots.specs.Slots.{slots_of}
use Rattle.smv_meaning.specs.Lassos.{IsLasso, Lasso, Violates}
use Rattle.smv_meaning.specs.Runs.{IsStep, allows_step, are_inputs, at_time, is_first_state, is_state, is_step, keeps_frozen, meets_invariants}
use Rattle.bit_states.specs.Coding.{decoded}
use Rattle.bit_states.specs.Layouts.{BitLayout, state_types, state_width}
use Rattle.bit_system.proofs.Frames.{decoded_moved, plain}
use Rattle.bit_formula.specs.Agreeing.{AreAllRead, FormulaAgrees, IsJointCoding}
use Rattle.bit_formula.specs.Coding.{inputs_in, joint_width, next_in, read_inputs, state_in}
use Rattle.bit_formula.specs.Reading.{AgreeOn}
use Rattle.bit_formula.specs.Standing.{FormulaSystem, StandsForFormula}
use Rattle.ltl_lassos.specs.Violating.{AreViolating, row_after, row_at}
use Rattle.bit_lassos.specs.Claims.{lasso_in}
use Rattle.bit_lassos.proofs.Matching.{Matches, holds_same, is_met}

-- the state and the inputs of a step
pub step_parts : (p : Program) (s u t : List Value) → is_step p s u t ≡ true → (is_state p s ≡ true) × (are_inputs p u ≡ true)
step_parts p s u t h =
    let kept = keeps_frozen (slots_of p) s t in
    let allowed = list_all (allows_step (slots_of p) s u t) (items_of p) in
    let invariants = meets_invariants p s && meets_invariants p t in
    let typed = is_state p s && are_inputs p u && is_state p t in
    let all : typed ≡ true = (and_parts typed kept (and_parts (typed && kept) allowed (and_parts ((typed && kept) && allowed) invariants h).0).0).0 in
    and_parts (is_state p s) (are_inputs p u) (and_parts (is_state p s && are_inputs p u) (is_state p t) all).0

pub agree_back : (reads : List ℕ) (u v : List Value) → AgreeOn reads u v → AgreeOn reads v u
agree_back reads u v h i lt = sym (h i lt)

module _ (rows : List (List Bool)) (start : ℕ) where
  after_is : (i : ℕ) → i + 1 < length rows → row_after rows start i ≡ i + 1
  after_is i lt = grind (arith, nat_tests)

  after_last : (i : ℕ) → length rows ≤ i + 1 → row_after rows start i ≡ start
  after_last i le = grind (arith, nat_tests)

  after_inside : start < length rows → (i : ℕ) → row_after rows start i < length rows
  after_inside inside i = elim (cases_lt (i + 1) (length rows)) [
    | inl lt ↦ let e = after_is i lt in omega (arith, e)
    | inr le ↦ let e = after_last i le in omega (arith, e)
  ]

module _ (p : Program) (spec : ResolvedItem) (r : FormulaSystem) (stands : StandsForFormula p spec r) (agrees : FormulaAgrees p r stands.parts)
    (coding : IsJointCoding p r.reads) (all_read : AreAllRead p stands.parts)
    (rows : List (List Bool)) (start : ℕ) (h : AreViolating r.system (unfolded r.formula) r.atoms rows start) where
  abbrev w : Lasso
  w = lasso_in r rows start

  abbrev xs : ℕ → ℕ → Bool
  xs i = row_at rows i

  long_states : length w.states ≡ length rows
  long_states = length-map rows (λ (row : List Bool). decoded r.layout.state_types r.layout.state (assignment_of row))

  long_inputs : length w.inputs ≡ length rows
  long_inputs = length-map rows (λ (row : List Bool). decoded r.layout.input_types r.layout.inputs (assignment_of row))

  in_rows : (i : ℕ) → i < length w.states → i < length rows
  in_rows i lt = subst (λ n. i < n) long_states lt

  state_of_row : (i : ℕ) → i < length rows → at_time w.states i ≡ state_in p r.reads (xs i)
  state_of_row i lt =
      get_or-map (λ (row : List Bool). decoded r.layout.state_types r.layout.state (assignment_of row)) rows i [] [] lt
      ∙ ap (λ (y : BitLayout). decoded y.state_types y.state (xs i)) stands.layout

  inputs_of_row : (i : ℕ) → i < length rows → at_time w.inputs i ≡ inputs_in p r.reads (xs i)
  inputs_of_row i lt =
      get_or-map (λ (row : List Bool). decoded r.layout.input_types r.layout.inputs (assignment_of row)) rows i [] [] lt
      ∙ ap (λ (y : BitLayout). decoded y.input_types y.inputs (xs i)) stands.layout

  next_of_row : (i : ℕ) → i < length rows → next_in p r.reads (xs i) ≡ state_in p r.reads (xs (row_after rows start i))
  next_of_row i lt =
      let k = state_width p in
      let y = xs (row_after rows start i) in
      let link : NextIs (joint_width p r.reads) (xs i) y = subst (λ n. NextIs n (xs i) y) stands.bits (h.next i lt) in
      decoded_moved (state_types p) (xs i) y k (joint_width p r.reads) 0 (λ j below. link j (omega (arith, below)) ∙ ap y (sym (plain j)))

  step_of_row : (i : ℕ) → i < length rows → IsStep p (at_time w.states i) (at_time w.inputs i) (at_time w.states (row_after rows start i))
  step_of_row i lt =
      let j = row_after rows start i in
      let there : j < length rows = after_inside rows start h.inside i in
      let by : IsStep p (state_in p r.reads (xs i)) (inputs_in p r.reads (xs i)) (next_in p r.reads (xs i)) = agrees.inputs (xs i) (h.steps i lt) in
      let to : IsStep p (state_in p r.reads (xs i)) (inputs_in p r.reads (xs i)) (at_time w.states j) =
      subst (λ (t : List Value). IsStep p (state_in p r.reads (xs i)) (inputs_in p r.reads (xs i)) t) (next_of_row i lt ∙ sym (state_of_row j there)) by in
      let with : IsStep p (state_in p r.reads (xs i)) (at_time w.inputs i) (at_time w.states j) =
      subst (λ (u : List Value). IsStep p (state_in p r.reads (xs i)) u (at_time w.states j)) (sym (inputs_of_row i lt)) to in
      subst (λ (s : List Value). IsStep p s (at_time w.inputs i) (at_time w.states j)) (sym (state_of_row i lt)) with

  matches : Matches p r w xs
  matches = record {
    long = long_states ∙ sym long_inputs;
    inside = subst (λ n. start < n) (sym long_states) h.inside;
    states = λ i lt. sym (state_of_row i (in_rows i lt));
    typed = λ i lt. (step_parts p (at_time w.states i) (at_time w.inputs i) (at_time w.states (row_after rows start i)) (step_of_row i (in_rows i lt))).0;
    inputs = λ i lt. (step_parts p (at_time w.states i) (at_time w.inputs i) (at_time w.states (row_after rows start i)) (step_of_row i (in_rows i lt))).1;
    reads = λ i lt.
        subst (λ (u : List Value). AgreeOn r.reads (read_inputs p r.reads (xs i)) u) (sym (inputs_of_row i (in_rows i lt)))
        (agree_back r.reads (inputs_in p r.reads (xs i)) (read_inputs p r.reads (xs i)) (agrees.read (xs i)));
  }

  values : ℕ → ℕ → Bool
  values i = (agrees.extends (xs i)).0

  extends : (i : ℕ) → Extends r.system (xs i) (values i)
  unfolding values
  extends i = (agrees.extends (xs i)).1

  over : ViolatesOver (justice_of r.system r.atoms) (unfolded r.formula) (word_of r.system r.atoms values (length w.states) start) (length w.states) start
  over = subst (λ n. ViolatesOver (justice_of r.system r.atoms) (unfolded r.formula) (word_of r.system r.atoms values n start) n start) (sym long_states) (h.violates values extends)

  is_lasso : IsLasso p w
  is_lasso = record {
    long = matches.long;
    inside = matches.inside;
    first = subst (λ (s : List Value). is_first_state p s ≡ true) (sym (state_of_row 0 (let i = h.inside in omega (arith, i)))) ((agrees.first (xs 0)).0 h.first).0;
    steps = λ i lt.
        let below : i + 1 < length rows = subst (λ n. i + 1 < n) long_states lt in
        subst (λ j. IsStep p (at_time w.states i) (at_time w.inputs i) (at_time w.states j)) (after_is rows start i below) (step_of_row i (omega (arith, below)));
    back =
        let i = length w.states - 1 in
        let inside = h.inside in
        let below : i < length rows = omega (arith, long_states, inside) in
        let last : length rows ≤ i + 1 = omega (arith, long_states, inside) in
        subst (λ j. IsStep p (at_time w.states i) (at_time w.inputs i) (at_time w.states j)) (after_last rows start i last) (step_of_row i below);
  }

  pub violates : Violates p spec w
  violates = record {
    lasso = record { lasso = is_lasso; fair = is_met p spec r stands agrees coding all_read w xs matches values extends over.fair };
    false = λ holds. over.false ((holds_same p spec r stands agrees coding all_read w xs matches values extends).1 holds);
  }
