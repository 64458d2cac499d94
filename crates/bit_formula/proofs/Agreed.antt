-- A system that stands for a program and a formula has its initial states and steps, and tells JUSTICE and the atoms.
use Rattle.std.proofs.Common.{◌≡◌, ◌∙◌, ℕ, ◌+◌, ◌-◌, ◌<◌, ◌≤◌, Bool, true, false, cond, List, [], ◌∷◌, map, ◌↔◌, refl, sym, ap, subst, arith, All}
use Rattle.std.specs.Prelude.{nat_lt, slice_get, slice_index_or}
use Rattle.std.specs.Bool.{beq}
use Rattle.std.proofs.lemmas.Bool.{and_from, and_parts, le-ltb, lt-ltb}
use Rattle.std.proofs.lemmas.Simd.{map-map}
use Rattle.clause_core.specs.Assignments.{Agrees, ClauseTrue}
use Rattle.clause_core.specs.Systems.{FirstBits, StepBits, Meets, NextIs}
use Rattle.clause_core.specs.declared.literal.Lit.{Lit}
use Rattle.ltl_monitor.specs.Monitor.{same}
use Rattle.ltl_monitor.specs.States.{value}
use Rattle.smv_tree.specs.declared.tree.Program.{Program}
use Rattle.smv_value.specs.declared.value.Value.{Value}
use Rattle.smv_value.specs.declared.value.Value.TheVariants as value
use Rattle.smv_resolve.specs.Items.{ResolvedItem}
use Rattle.smv_meaning.specs.Runs.{are_inputs, is_first_state, is_step}
use Rattle.bit_clauses.specs.Gated.{DefinesAll}
use Rattle.bit_states.specs.Layouts.{input_types, state_types, state_width}
use Rattle.bit_states.specs.Values.{decoded_all, encoded_all}
use Rattle.bit_conditions.specs.Asked.{is_just_in, justices_of}
use Rattle.bit_system.proofs.Agreeing as agreeing
use Rattle.bit_formula.specs.Agreeing.{FormulaAgrees}
use Rattle.bit_formula.specs.Coding.{input_count, inputs_in, joint_width, next_in, others, read_inputs, read_next, state_in, type_at}
use Rattle.bit_formula.specs.Reading.{AgreeOn}
use Rattle.bit_formula.specs.Standing.{FormulaSystem, StandsForFormula, is_step_at, is_true_at}
use Rattle.bit_formula.proofs.Chunks.{moved_map}
use Rattle.bit_formula.proofs.Joint.{inputs_given, plain, read_agrees, read_same, state_same}

same_beq : (b c : Bool) → same b c ≡ beq c b
same_beq true true = refl
same_beq true false = refl
same_beq false true = refl
same_beq false false = refl

-- literals that clauses define have the values of the functions
module _ (m : ℕ) (cs : List (List Lit)) (x a : ℕ → Bool) (agrees : Agrees m a x) (met : All (ClauseTrue a) cs) where
  pub values_told : (ls : List Lit) (fs : List ((ℕ → Bool) → Bool)) → DefinesAll m cs ls fs → map (value a) ls ≡ map (λ (f : (ℕ → Bool) → Bool). f x) fs
  unfolding DefinesAll
  values_told [] [] all = refl
  values_told [] (f ∷ fs) all = absurd all
  values_told (l ∷ ls) [] all = absurd all
  values_told (l ∷ ls) (f ∷ fs) all =
      ap (λ (b : Bool). b ∷ map (value a) ls) (same_beq l.positive (a l.var) ∙ all.0.gives x a agrees met)
      ∙ ap (λ (bs : List Bool). f x ∷ bs) (values_told ls fs all.1)

-- the bits of a step: of its first state, of its second, and of the inputs that are not read
module _ (w : ℕ) (x y z : ℕ → Bool) where
  bits : ℕ → Bool
  bits i = cond (nat_lt i w) (x i) (cond (nat_lt i (w + w)) (y (i - w)) (z (i - (w + w))))

  first_bits : (i : ℕ) → i < w → bits i ≡ x i
  unfolding bits
  first_bits i lt = rw (lt-ltb i w lt) refl

  second_bits : (i : ℕ) → i < w → bits (w + i) ≡ y i
  unfolding bits
  second_bits i lt =
      let past : w ≤ w + i = omega arith in
      let inside : w + i < w + w = omega (arith, lt) in
      let back : (w + i) - w ≡ i = omega arith in
      rw (le-ltb (w + i) w past, lt-ltb (w + i) (w + w) inside) (ap y back)

  other_bits : (i : ℕ) → bits ((w + w) + i) ≡ z i
  unfolding bits
  other_bits i =
      let past : w ≤ (w + w) + i = omega arith in
      let past_both : w + w ≤ (w + w) + i = omega arith in
      let back : ((w + w) + i) - (w + w) ≡ i = omega arith in
      rw (le-ltb ((w + w) + i) w past, le-ltb ((w + w) + i) (w + w) past_both) (ap z back)

module _ (p : Program) (spec : ResolvedItem) (r : FormulaSystem) (stands : StandsForFormula p spec r) where
  abbrev reads : List ℕ
  reads = r.reads

  abbrev width : ℕ
  width = joint_width p reads

  -- a step, and the inputs that are read in the state to which it leads
  abbrev IsStepAt : (ℕ → Bool) → Type 0
  IsStepAt a = (is_step p (state_in p reads a) (inputs_in p reads a) (next_in p reads a) ≡ true) × (are_inputs p (read_next p reads a) ≡ true)

  step_at : (a : ℕ → Bool) → All (ClauseTrue a) r.system.step → IsStepAt a
  step_at a met =
      and_parts (is_step p (state_in p reads a) (inputs_in p reads a) (next_in p reads a)) (are_inputs p (read_next p reads a)) ((stands.step.meets a).0 (a, (λ k lt. refl), met))

  abbrev Step : (ℕ → Bool) → (ℕ → Bool) → Type 0
  Step x y =
      (u : List Value) × (is_step p (state_in p reads x) u (state_in p reads y) ≡ true) × AgreeOn reads u (read_inputs p reads x) × (are_inputs p (read_inputs p reads y) ≡ true)

  -- the next state, as bits
  next_is : (a y : ℕ → Bool) → ((k : ℕ) → k < width → a (width + k) ≡ y k) → next_in p reads a ≡ state_in p reads y
  next_is a y next = ap (decoded_all (state_types p)) (moved_map a y width 0 (state_width p) (λ i lt. next i (omega (arith, lt)) ∙ ap y (sym (plain i))))

  step_to : (x y : ℕ → Bool) → StepBits r.system x y → Step x y
  step_to x y (a, agrees, next, met) =
      let own : Agrees width a x = subst (λ n. Agrees n a x) stands.bits agrees in
      let behind : NextIs width a y = subst (λ n. NextIs n a y) stands.bits next in
      let first : state_in p reads a ≡ state_in p reads x = state_same p reads a x own in
      let second : next_in p reads a ≡ state_in p reads y = next_is a y behind in
      let read : read_next p reads a ≡ read_inputs p reads y = read_same p reads (λ k. a (width + k)) y behind in
      let both = step_at a met in (
        inputs_in p reads a,
        ap (λ s. is_step p s (inputs_in p reads a) (state_in p reads y)) (sym first) ∙ ap (is_step p (state_in p reads a) (inputs_in p reads a)) (sym second) ∙ both.0,
        (λ i lt. read_agrees p reads a i lt ∙ ap (λ (us : List Value). slice_get us (slice_index_or reads i 0)) (read_same p reads a x own)),
        ap (are_inputs p) (sym read) ∙ both.1,
      )

  step_from : (x y : ℕ → Bool) → Step x y → StepBits r.system x y
  step_from x y (u, step, agree, typed) =
      let fit : are_inputs p u ≡ true = agreeing.inputs_fit p (state_in p reads x) u (state_in p reads y) step in
      let T = input_types p in
      let os = others (input_count p) reads in
      let z : ℕ → Bool = λ i. slice_index_or (encoded_all (map (type_at T) os) (map (λ k. slice_index_or u k (value.Bool false)) os)) i false in
      let a : ℕ → Bool = bits width x y z in
      let first : state_in p reads a ≡ state_in p reads x = state_same p reads a x (first_bits width x y z) in
      let second : next_in p reads a ≡ state_in p reads y = next_is a y (second_bits width x y z) in
      let read : read_next p reads a ≡ read_inputs p reads y = read_same p reads (λ k. a (width + k)) y (second_bits width x y z) in
      let inputs : inputs_in p reads a ≡ u =
      inputs_given p reads stands.types a x u fit (λ i lt. sym (agree i lt)) (first_bits width x y z) (other_bits width x y z) in
      let here : is_step p (state_in p reads a) (inputs_in p reads a) (next_in p reads a) ≡ true = (λ i. is_step p (first i) (inputs i) (second i)) ∙ step in
      let holds : is_step_at p reads a ≡ true =
      and_from (is_step p (state_in p reads a) (inputs_in p reads a) (next_in p reads a)) (are_inputs p (read_next p reads a)) here (ap (are_inputs p) read ∙ typed) in
      let found = (stands.step.meets a).1 holds in
      let b = found.0 in
      let agrees : Agrees width b x = λ k lt. found.1 k (omega (arith, lt)) ∙ first_bits width x y z k lt in
      let next : NextIs width b y = λ k lt. found.1 (width + k) (omega (arith, lt)) ∙ second_bits width x y z k lt in
      (b, subst (λ n. Agrees n b x) (sym stands.bits) agrees, subst (λ n. NextIs n b y) (sym stands.bits) next, found.2)

  abbrev First : (ℕ → Bool) → Type 0
  First x = (is_first_state p (state_in p reads x) ≡ true) × (are_inputs p (read_inputs p reads x) ≡ true)

  first_is : (x : ℕ → Bool) → FirstBits r.system x ↔ First x
  first_is x = (
    λ h.
        and_parts (is_first_state p (state_in p reads x)) (are_inputs p (read_inputs p reads x)) ((stands.first.meets x).0 (subst (λ n. Meets n x r.system.init) stands.bits h)),
    λ on.
        subst (λ n. Meets n x r.system.init) (sym stands.bits)
        ((stands.first.meets x).1 (and_from (is_first_state p (state_in p reads x)) (are_inputs p (read_inputs p reads x)) on.0 on.1)),
  )

  pub formula_agrees : FormulaAgrees p r stands.parts
  formula_agrees = record {
    first = first_is;
    step = λ x y. (step_to x y, step_from x y);
    inputs = λ a met. (step_at a met).0;
    read = λ a. read_agrees p reads a;
    fair = λ x a extends.
        values_told width r.system.defs x a (subst (λ n. Agrees n a x) stands.bits extends.0) extends.1 r.system.fair _ stands.fair
        ∙ map-map (λ (f : (ℕ → Bool) → Bool). f x) (λ (e : ResolvedItem). λ (b : ℕ → Bool). is_just_in p (state_in p reads b) e) (justices_of p);
    atoms = λ x a extends.
        values_told width r.system.defs x a (subst (λ n. Agrees n a x) stands.bits extends.0) extends.1 r.atoms _ stands.atoms
        ∙ map-map (λ (f : (ℕ → Bool) → Bool). f x) (is_true_at p reads) stands.parts;
    extends = λ x.
        let ext = stands.defs.extends x in
        (ext.0, (subst (λ n. Agrees n ext.0 x) (sym stands.bits) ext.1, ext.2));
  }
