-- A system that stands for a program has its initial states, steps, bad and good states.
use Rattle.std.proofs.Common.{◌≡◌, ◌∙◌, ℕ, ◌+◌, ◌-◌, ◌<◌, ◌≤◌, Bool, true, false, ◌&&◌, cond, List, [], ◌∷◌, map, ◌↔◌, refl, sym, ap, subst, arith, All}
use Rattle.std.specs.Prelude.{nat_lt, slice_index_or}
use Rattle.std.specs.Bool.{beq}
use Rattle.std.specs.List.{list_all, range_with_len}
use Rattle.std.proofs.lemmas.Bool.{lt-ltb, le-ltb}
use Rattle.clause_core.specs.Assignments.{Agrees, ClauseTrue}
use Rattle.clause_core.specs.Systems.{TransitionSystem, StepBits, DefinedTrue, Meets, NextIs}
use Rattle.clause_core.specs.declared.literal.Lit.{Lit}
use Rattle.smv_tree.specs.declared.tree.Program.{Program}
use Rattle.smv_value.specs.declared.value.Value.{Value}
use Rattle.smv_resolve.specs.Items.{ResolvedItem}
use Rattle.smv_layout.specs.Layout.{items_of}
use Rattle.smv_slots.specs.Slots.{slots_of}
use Rattle.smv_meaning.specs.Runs.{allows_step, are_inputs, is_state, is_step, keeps_frozen, meets_invariants}
use Rattle.bit_clauses.specs.Deciding.{Decides, Defines}
use Rattle.bit_clauses.specs.Gated.{DefinesAll}
use Rattle.bit_states.specs.Coding.{HoldsAt, inputs_of, next_of, state_of}
use Rattle.bit_states.specs.Layouts.{HasTypes, input_types, input_width, layout_of, state_types, state_width}
use Rattle.bit_states.specs.Values.{encoded_all}
use Rattle.bit_states.proofs.Codes.{coding, codes_at, long_code, of_inputs}
use Rattle.bit_conditions.specs.Asked.{is_just_in, justices_of}
use Rattle.bit_system.specs.Standing.{AgreesWith, AreTrueWhere, StandsFor}
use Rattle.bit_system.proofs.Frames.{decoded_moved, map_moved, plain}
use Rattle.bit_system.proofs.OfSides.{state_same}

pub and_left : (a b : Bool) → (a && b) ≡ true → a ≡ true
and_left true b h = refl
and_left false b h = cc

pub and_right : (a b : Bool) → (a && b) ≡ true → b ≡ true
and_right true b h = h
and_right false b h = cc

pub inputs_fit : (p : Program) (s u t : List Value) → is_step p s u t ≡ true → are_inputs p u ≡ true
inputs_fit p s u t h =
    let kept = keeps_frozen (slots_of p) s t in
    let allowed = list_all (allows_step (slots_of p) s u t) (items_of p) in
    let invariants = meets_invariants p s && meets_invariants p t in
    let typed = is_state p s && are_inputs p u && is_state p t in
    let one : typed ≡ true = and_left typed kept (and_left (typed && kept) allowed (and_left ((typed && kept) && allowed) invariants h)) in
    and_right (is_state p s) (are_inputs p u) (and_left (is_state p s && are_inputs p u) (is_state p t) one)

-- the bits of a step: of its first state, of its second, and of its inputs
module _ (w : ℕ) (x y z : ℕ → Bool) where
  bits : ℕ → Bool
  bits i = cond (nat_lt i w) (x i) (cond (nat_lt i (w + w)) (y (i - w)) (z (i - (w + w))))

  first_bits : (i : ℕ) → i < w → bits i ≡ x i
  unfolding bits
  first_bits i lt = rw (lt-ltb i w lt) refl

  second_bits : (i : ℕ) → i < w → bits (w + i) ≡ y i
  unfolding bits
  second_bits i lt =
      let past : w ≤ w + i = omega arith in
      let inside : w + i < w + w = omega (arith, lt) in
      let back : (w + i) - w ≡ i = omega arith in
      rw (le-ltb (w + i) w past, lt-ltb (w + i) (w + w) inside) (ap y back)

  input_bits : (i : ℕ) → bits ((w + w) + i) ≡ z i
  unfolding bits
  input_bits i =
      let past : w ≤ (w + w) + i = omega arith in
      let past_both : w + w ≤ (w + w) + i = omega arith in
      let back : ((w + w) + i) - (w + w) ≡ i = omega arith in
      rw (le-ltb ((w + w) + i) w past, le-ltb ((w + w) + i) (w + w) past_both) (ap z back)

-- the bits of inputs, false for all others
abbrev pub code_of_inputs : Program → List Value → ℕ → Bool
code_of_inputs p u k = slice_index_or (encoded_all (input_types p) u) k false

-- where bits from a number on are the code of inputs, they hold them
pub inputs_at : (p : Program) → HasTypes p → (u : List Value) (start : ℕ) (a : ℕ → Bool) → are_inputs p u ≡ true → ((k : ℕ) → a (start + k) ≡ code_of_inputs p u k)
    → HoldsAt (input_types p) (range_with_len start (input_width p)) a u
inputs_at p types u start a fit at =
    map_moved a (code_of_inputs p u) (input_width p) start 0 (λ i lt. at i ∙ ap (code_of_inputs p u) (sym (plain i)))
    ∙ codes_at (encoded_all (input_types p) u) (input_width p) (long_code p types of_inputs u fit)

module _ (p : Program) (spec : ResolvedItem) (sys : TransitionSystem) (stands : StandsFor p spec sys) where
  abbrev w : ℕ
  w = state_width p

  step_inputs : (a : ℕ → Bool) → All (ClauseTrue a) sys.step → is_step p (state_of p a) (inputs_of p a) (next_of p a) ≡ true
  step_inputs a met = (stands.step.meets a).0 (a, (λ k lt. refl), met)

  step_to : (x y : ℕ → Bool) → StepBits sys x y → (u : List Value) × (is_step p (state_of p x) u (state_of p y) ≡ true)
  step_to x y (a, agrees, next, met) =
      let first : state_of p a ≡ state_of p x = state_same p a x (subst (λ n. Agrees n a x) stands.bits agrees) in
      let second : next_of p a ≡ state_of p y = decoded_moved (state_types p) a y w w 0 (λ i lt. subst (λ n. NextIs n a y) stands.bits next i lt ∙ ap y (sym (plain i))) in
      (inputs_of p a, ap (λ s. is_step p s (inputs_of p a) (state_of p y)) (sym first) ∙ ap (is_step p (state_of p a) (inputs_of p a)) (sym second) ∙ step_inputs a met)

  step_from : (x y : ℕ → Bool) → (u : List Value) × (is_step p (state_of p x) u (state_of p y) ≡ true) → StepBits sys x y
  step_from x y (u, step) =
      let a = bits w x y (code_of_inputs p u) in
      let first : state_of p a ≡ state_of p x = state_same p a x (first_bits w x y (code_of_inputs p u)) in
      let second : next_of p a ≡ state_of p y = decoded_moved (state_types p) a y w w 0 (λ i lt. second_bits w x y (code_of_inputs p u) i lt ∙ ap y (sym (plain i))) in
      let fit : are_inputs p u ≡ true = inputs_fit p (state_of p x) u (state_of p y) step in
      let at : HoldsAt (input_types p) (layout_of p).inputs a u = inputs_at p stands.types u (w + w) a fit (input_bits w x y (code_of_inputs p u)) in
      let given : inputs_of p a ≡ u = (coding p stands.types).given u a fit at in
      let holds : is_step p (state_of p a) (inputs_of p a) (next_of p a) ≡ true =
      ap (λ s. is_step p s (inputs_of p a) (next_of p a)) first ∙ ap (λ v. is_step p (state_of p x) v (next_of p a)) given ∙ ap (is_step p (state_of p x) u) second ∙ step in
      let found = (stands.step.meets a).1 holds in
      let b = found.0 in
      let agrees : Agrees w b x = λ k lt. found.1 k (omega (arith, lt)) ∙ first_bits w x y (code_of_inputs p u) k lt in
      let next : NextIs w b y = λ k lt. found.1 (w + k) (omega (arith, lt)) ∙ second_bits w x y (code_of_inputs p u) k lt in
      (b, subst (λ n. Agrees n b x) (sym stands.bits) agrees, subst (λ n. NextIs n b y) (sym stands.bits) next, found.2)

  pub beq_true : (a b : Bool) → beq a b ≡ true → a ≡ b
  beq_true true true h = refl
  beq_true false false h = refl
  beq_true true false h = cc
  beq_true false true h = cc

  beq_same : (a b : Bool) → a ≡ b → beq a b ≡ true
  beq_same true true h = refl
  beq_same false false h = refl
  beq_same true false h = cc
  beq_same false true h = cc

  -- a literal that the definitions define is true where its value is
  one_true : (x : ℕ → Bool) (l : Lit) (f : (ℕ → Bool) → Bool) → Defines w sys.defs l f → DefinedTrue sys x l ↔ (f x ≡ true)
  one_true x l f defines = (
    λ (a, agrees, met, on). sym (defines.gives x a (subst (λ n. Agrees n a x) stands.bits agrees) met) ∙ beq_same (a l.var) l.positive on,
    λ on. (let ext = stands.defs.extends x in
        (ext.0, subst (λ n. Agrees n ext.0 x) (sym stands.bits) ext.1, ext.2, beq_true (ext.0 l.var) l.positive (defines.gives x ext.0 ext.1 ext.2 ∙ on))),
  )

  fair_true : (x : ℕ → Bool) (ls : List Lit) (es : List ResolvedItem) → DefinesAll w sys.defs ls (map (λ (e : ResolvedItem). λ (b : ℕ → Bool). is_just_in p (state_of p b) e) es) → AreTrueWhere p sys x ls es
  unfolding DefinesAll AreTrueWhere
  fair_true x [] [] all = tt
  fair_true x [] (e ∷ es) all = all
  fair_true x (l ∷ ls) [] all = all
  fair_true x (l ∷ ls) (e ∷ es) all = (one_true x l (λ b. is_just_in p (state_of p b) e) all.0, fair_true x ls es all.1)

  -- what clauses over the state's bits decide
  met_where : (cs : List (List Lit)) (f : (ℕ → Bool) → Bool) → Decides w cs f → (x : ℕ → Bool) → Meets sys.state_bits x cs ↔ (f x ≡ true)
  met_where cs f decides x = (
    λ h. (decides.meets x).0 (subst (λ n. Meets n x cs) stands.bits h),
    λ on. subst (λ n. Meets n x cs) (sym stands.bits) ((decides.meets x).1 on),
  )

  pub agreeing : AgreesWith p spec sys
  agreeing = record {
    first = met_where sys.init _ stands.first;
    bad = met_where sys.bad _ stands.bad;
    good = met_where sys.good _ stands.good;
    step = λ x y. (step_to x y, step_from x y);
    fair = λ x. fair_true x sys.fair (justices_of p) stands.fair;
    inputs = λ a met. step_inputs a met;
  }
