-- The bits of the states of a lasso that violates the specification are a lasso over bits that violates the formula.
use Rattle.std.proofs.Common.{inl, inr, ◌≡◌, ℕ, ◌+◌, ◌-◌, ◌<◌, Bool, true, List, length, sym, subst, arith}
use Rattle.std.proofs.lemmas.Bool.{cases_lt}
use Rattle.ltl_meaning.specs.Unfolded.{unfolded}
use Rattle.ltl_monitor.specs.Lassos.{IsLasso as IsBitLasso}
use Rattle.clause_core.specs.Systems.{StepBits}
use Rattle.smv_tree.specs.declared.tree.Program.{Program}
use Rattle.smv_value.specs.declared.value.Value.{Value}
use Rattle.smv_resolve.specs.Items.{ResolvedItem}
use Rattle.smv_meaning.specs.Lassos.{Lasso, Violates}
use Rattle.smv_meaning.specs.Runs.{are_inputs, at_time, is_first_state, is_state, is_step}
use Rattle.bit_formula.specs.Agreeing.{AreAllRead, FormulaAgrees, IsJointCoding}
use Rattle.bit_formula.specs.Coding.{joint_code, read_inputs, state_in}
use Rattle.bit_formula.specs.Standing.{FormulaSystem, StandsForFormula}
use Rattle.ltl_lassos.specs.Violating.{IsViolating, NeverViolated, NeverViolatedWithin}
use Rattle.bit_lassos.specs.Claims.{IsUnviolated, IsUnviolatedWithin}
use Rattle.bit_lassos.proofs.Matching.{Matches, holds_same, is_on_word}
use Rattle.bit_lassos.proofs.Replaying.{agree_back, step_parts}

module _ (p : Program) (spec : ResolvedItem) (r : FormulaSystem) (stands : StandsForFormula p spec r) (agrees : FormulaAgrees p r stands.parts)
    (coding : IsJointCoding p r.reads) (all_read : AreAllRead p stands.parts) where
  module _ (w : Lasso) (v : Violates p spec w) where
    abbrev xs : ℕ → ℕ → Bool
    xs i = joint_code p r.reads (at_time w.states i) (at_time w.inputs i)

    -- each state has its type, and the inputs of the step from it
    typed : (i : ℕ) → i < length w.states → (is_state p (at_time w.states i) ≡ true) × (are_inputs p (at_time w.inputs i) ≡ true)
    typed i lt = elim (cases_lt (i + 1) (length w.states)) [
      | inl more ↦ step_parts p (at_time w.states i) (at_time w.inputs i) (at_time w.states (i + 1)) (v.lasso.lasso.steps i more)
      | inr last ↦
          let e : length w.states - 1 ≡ i = omega (arith, lt, last) in
          step_parts p (at_time w.states i) (at_time w.inputs i) (at_time w.states w.start)
          (subst (λ j. is_step p (at_time w.states j) (at_time w.inputs j) (at_time w.states w.start) ≡ true) e v.lasso.lasso.back)
    ]

    state_back : (i : ℕ) → i < length w.states → state_in p r.reads (xs i) ≡ at_time w.states i
    state_back i lt = coding.state (at_time w.states i) (at_time w.inputs i) (typed i lt).0

    matches : Matches p r w xs
    matches = record {
      long = v.lasso.lasso.long;
      inside = v.lasso.lasso.inside;
      states = state_back;
      typed = λ i lt. (typed i lt).0;
      inputs = λ i lt. (typed i lt).1;
      reads = λ i lt. coding.read (at_time w.states i) (at_time w.inputs i) (typed i lt).0 (typed i lt).1;
    }

    read_typed : (i : ℕ) → i < length w.states → are_inputs p (read_inputs p r.reads (xs i)) ≡ true
    read_typed i lt = coding.typed (xs i) (at_time w.inputs i) (typed i lt).1 (matches.reads i lt)

    step_bits : (i j : ℕ) → i < length w.states → j < length w.states → is_step p (at_time w.states i) (at_time w.inputs i) (at_time w.states j) ≡ true
        → StepBits r.system (xs i) (xs j)
    step_bits i j at to step =
        let from : is_step p (state_in p r.reads (xs i)) (at_time w.inputs i) (at_time w.states j) ≡ true =
        subst (λ (s : List Value). is_step p s (at_time w.inputs i) (at_time w.states j) ≡ true) (sym (state_back i at)) step in
        let both : is_step p (state_in p r.reads (xs i)) (at_time w.inputs i) (state_in p r.reads (xs j)) ≡ true =
        subst (λ (t : List Value). is_step p (state_in p r.reads (xs i)) (at_time w.inputs i) t ≡ true) (sym (state_back j to)) from in
        (agrees.step (xs i) (xs j)).1
        (at_time w.inputs i, both, agree_back r.reads (read_inputs p r.reads (xs i)) (at_time w.inputs i) (matches.reads i at), read_typed j to)

    is_lasso : IsBitLasso r.system xs (length w.states) w.start
    is_lasso =
        let inside = v.lasso.lasso.inside in
        record {
          inside = inside;
          first =
              let some : 0 < length w.states = omega (arith, inside) in
              (agrees.first (xs 0)).1
              (subst (λ (s : List Value). is_first_state p s ≡ true) (sym (state_back 0 some)) v.lasso.lasso.first, read_typed 0 some);
          steps = λ i lt. step_bits i (i + 1) (omega (arith, lt)) lt (v.lasso.lasso.steps i lt);
          back = step_bits (length w.states - 1) w.start (omega (arith, inside)) inside v.lasso.lasso.back;
        }

    is_violating : IsViolating r.system (unfolded r.formula) r.atoms xs (length w.states) w.start
    is_violating = record {
      lasso = is_lasso;
      violates = λ values extends. record {
        fair = is_on_word p spec r stands agrees coding all_read w xs matches values extends v.lasso.fair;
        false = λ holds. v.false ((holds_same p spec r stands agrees coding all_read w xs matches values extends).0 holds);
      };
    }

  pub unviolated : NeverViolated r.system (unfolded r.formula) r.atoms → IsUnviolated p spec
  unviolated never w v = never (xs w v) (length w.states) w.start (is_violating w v)

  pub unviolated_within : (h bound : ℕ) → NeverViolatedWithin r.system (unfolded r.formula) r.atoms h bound → IsUnviolatedWithin p spec h bound
  unviolated_within h bound never w few v = never (xs w v) (length w.states) w.start few (is_violating w v)
