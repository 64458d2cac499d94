-- What is told of the states and inputs whose bits are inputs of a graph.
use Rattle.std.proofs.Common.{◌≡◌, ◌∙◌, ℕ, zero, suc, ◌+◌, ◌<◌, ◌≤◌, Bool, true, false, List, [], length, get_or, map, refl, sym, ap, subst, arith, if◌then◌else◌}
use Rattle.std.specs.Prelude.{All}
use Rattle.std.specs.List.{range_with_len}
use Rattle.std.proofs.lemmas.List.Elements.{All-map}
use Rattle.std.proofs.lemmas.List.FromFn.{length-range_with_len}
use Rattle.std.proofs.lemmas.Simd.{map-map}
use Rattle.bit_arith.specs.Number.{AllStand, values_of}
use Rattle.bit_arith.proofs.Numbers.{AllStand-extends}
use Rattle.bit_graph.specs.declared.edge.Edge.{Edge}
use Rattle.bit_graph.specs.declared.edge.GraphNode.{GraphNode as Gate}
use Rattle.bit_graph.specs.Growth.{Extends}
use Rattle.bit_graph.specs.Meaning.{Consistent, Stands, edge_value}
use Rattle.smv_tree.specs.declared.tree.Program.{Program}
use Rattle.smv_value.specs.declared.value.Value.{Value}
use Rattle.smv_slots.specs.Slots.{slots_of}
use Rattle.smv_meaning.specs.declared.typed.Typed.{Typed}
use Rattle.smv_resolve.specs.declared.item.ItemKind.{ItemKind}
use Rattle.smv_resolve.specs.Resolved.{part_of}
use Rattle.smv_meaning.specs.Runs.{are_inputs, is_state, item_outcome, speaks_of_step}
use Rattle.smv_meaning.specs.Tables.{outcomes_of}
use Rattle.bit_states.specs.Coding.{inputs_of, next_of, state_of}
use Rattle.bit_states.specs.Layouts.{BitLayout, input_types, layout_of, state_types}
use Rattle.bit_states.specs.Values.{decoded_all}
use Rattle.bit_outcomes.specs.declared.told.Told.{Told}
use Rattle.bit_outcomes.specs.Telling.{Tells, TellsAll, ToldStands}
use Rattle.bit_outcomes.proofs.OfNodes.{tells_node}
use Rattle.bit_conditions.specs.Told.{TellsMoment, TellsStep, inputs_under, state_under}
use Rattle.bit_conditions.proofs.Kept.{tells_inputs_kept, tells_state_kept, tells_step_kept}
use Rattle.bit_faults.specs.declared.valuation.Sides.{Sides}
use Rattle.bit_faults.specs.declared.valuation.Valuation.{Valuation}
use Rattle.bit_faults.specs.Valuations.{TellsDomains, TellsSides, TellsValuation, edges_of, input}
use Rattle.bit_faults.proofs.OfFormulas.{all_kept}
use Rattle.bit_faults.proofs.OfItems.{OfTypes, outcome_of_state, outcome_of_step}

-- edges of inputs

range_below : (k start end : ℕ) → start + k ≤ end → All (λ i. i < end) (range_with_len start k)
range_below zero start end h j d lt = absurd (let none : ⊥ = omega (arith, lt) in none)
range_below (suc k) start end h zero d lt = omega (arith, h)
range_below (suc k) start end h (suc j) d lt = range_below k (start + 1) end (omega (arith, h)) j d (omega (arith, lt))

pub edges_stand : (g : List Gate) (bits : List ℕ) (start k : ℕ) → bits ≡ range_with_len start k → start + k ≤ length g → AllStand g (edges_of bits)
edges_stand g bits start k is h = subst (λ (ns : List ℕ). AllStand g (edges_of ns)) (sym is) (All-map (Stands g) input (range_with_len start k) (range_below k start (length g) h))

pub long_range : (bits : List ℕ) (start k : ℕ) → bits ≡ range_with_len start k → length bits ≡ k
long_range bits start k is = ap length is ∙ length-range_with_len start k

pub edge_values : (v : ℕ → Bool) (bits : List ℕ) → values_of v (edges_of bits) ≡ map v bits
edge_values v bits = map-map (edge_value v) input bits

pub state_is : (p : Program) (v : ℕ → Bool) (edges : List Edge) (bits : List ℕ) → edges ≡ edges_of bits → state_under p v edges ≡ decoded_all (state_types p) (map v bits)
state_is p v edges bits is = ap (λ (es : List Edge). decoded_all (state_types p) (values_of v es)) is ∙ ap (decoded_all (state_types p)) (edge_values v bits)

pub inputs_are : (p : Program) (v : ℕ → Bool) (edges : List Edge) (bits : List ℕ) → edges ≡ edges_of bits → inputs_under p v edges ≡ decoded_all (input_types p) (map v bits)
inputs_are p v edges bits is = ap (λ (es : List Edge). decoded_all (input_types p) (values_of v es)) is ∙ ap (decoded_all (input_types p)) (edge_values v bits)

-- the bits of a layout

abbrev pub state_bits : BitLayout → List ℕ
state_bits layout = layout.state

abbrev pub next_bits : BitLayout → List ℕ
next_bits layout = layout.next

abbrev pub input_bits : BitLayout → List ℕ
input_bits layout = layout.inputs

module _ (g : List Gate) (typed : Typed) (x : Sides) (tells : TellsSides g typed x) where
  abbrev p : Program
  p = typed.scope.program

  module _ (v : ℕ → Bool) where
    from_is : state_under p v x.from.bits ≡ state_of p v
    from_is = state_is p v x.from.bits (layout_of p).state tells.from_bits

    to_is : state_under p v x.to.bits ≡ next_of p v
    to_is = state_is p v x.to.bits (layout_of p).next tells.to_bits

    given_is : inputs_under p v x.inputs.bits ≡ inputs_of p v
    given_is = inputs_are p v x.inputs.bits (layout_of p).inputs tells.input_bits

    -- the outcomes of nodes there

    pub from_told : Consistent v g → is_state p (state_of p v) ≡ true → TellsAll v x.from.told (outcomes_of (slots_of p) (state_of p v) [] [] typed.nodes)
    from_told consistent from =
        subst (λ (s : List Value). is_state p s ≡ true → TellsAll v x.from.told (outcomes_of (slots_of p) s [] [] typed.nodes)) from_is (tells.from.told v consistent) from

    pub step_told : (told : List Told) → TellsStep g typed x.from x.inputs x.to told → Consistent v g → is_state p (state_of p v) ≡ true → are_inputs p (inputs_of p v) ≡ true →
        is_state p (next_of p v) ≡ true → TellsAll v told (outcomes_of (slots_of p) (state_of p v) (inputs_of p v) (next_of p v) typed.nodes)
    step_told told step consistent from given to =
        let first = ap (is_state p) from_is ∙ from in
        let between = ap (are_inputs p) given_is ∙ given in
        let second = ap (is_state p) to_is ∙ to in
        subst (λ (s : List Value). TellsAll v told (outcomes_of (slots_of p) s (inputs_of p v) (next_of p v) typed.nodes)) from_is
        (subst (λ (u : List Value). TellsAll v told (outcomes_of (slots_of p) (state_under p v x.from.bits) u (next_of p v) typed.nodes)) given_is
        (subst (λ (t : List Value). TellsAll v told (outcomes_of (slots_of p) (state_under p v x.from.bits) (inputs_under p v x.inputs.bits) t typed.nodes)) to_is
        (step.told v consistent first between second)))

    pub moment_told : (told : List Told) → TellsMoment g typed x.from x.inputs told → Consistent v g → is_state p (state_of p v) ≡ true → are_inputs p (inputs_of p v) ≡ true →
        TellsAll v told (outcomes_of (slots_of p) (state_of p v) (inputs_of p v) [] typed.nodes)
    moment_told told moment consistent from given =
        let first = ap (is_state p) from_is ∙ from in
        let between = ap (are_inputs p) given_is ∙ given in
        subst (λ (s : List Value). TellsAll v told (outcomes_of (slots_of p) s (inputs_of p v) [] typed.nodes)) from_is
        (subst (λ (u : List Value). TellsAll v told (outcomes_of (slots_of p) (state_under p v x.from.bits) u [] typed.nodes)) given_is
        (moment.told v consistent first between))

-- what is told holds on as the graph grows

module _ (g h : List Gate) (extends : Extends g h) (typed : Typed) where
  pub sides_kept : (x : Sides) → TellsSides g typed x → TellsSides h typed x
  sides_kept x tells = record {
    from_bits = tells.from_bits;
    input_bits = tells.input_bits;
    to_bits = tells.to_bits;
    from = tells_state_kept g h extends typed x.from tells.from;
    inputs = tells_inputs_kept g h extends typed x.inputs tells.inputs;
    to = tells_state_kept g h extends typed x.to tells.to;
  }

  pub domains_kept : (domains : List Edge) → TellsDomains g typed.scope.program domains → TellsDomains h typed.scope.program domains
  domains_kept domains tells = record {
    stand = AllStand-extends g h domains extends tells.stand;
    told = λ v consistent. tells.told v (extends.kept v consistent);
    states = tells.states;
    inputs = tells.inputs;
  }

  pub valuation_kept : (x : Valuation) → TellsValuation g typed x → TellsValuation h typed x
  valuation_kept x tells = record {
    sides = sides_kept x.sides tells.sides;
    step = tells_step_kept g h extends typed x.sides.from x.sides.inputs x.sides.to x.step tells.step;
    formulas_stand = all_kept g h extends x.formulas tells.formulas_stand;
    formulas = λ v consistent from given. tells.formulas v (extends.kept v consistent) from given;
  }

-- the value of an item, in the table of its kind
module _ (g : List Gate) (typed : Typed) (x : Valuation) (tells : TellsValuation g typed x) (k : ℕ) (kind : ItemKind) (t : Told) where
  abbrev program : Program
  program = typed.scope.program

  stands_by : (b : Bool) → k < length (if b then x.step else x.sides.from.told) → t ≡ get_or (if b then x.step else x.sides.from.told) k t → ToldStands g t
  stands_by true lt is = subst (ToldStands g) (sym is) (tells.step.stand k t lt)
  stands_by false lt is = subst (ToldStands g) (sym is) (tells.sides.from.told_stand k t lt)

  told_by : (b : Bool) → speaks_of_step kind ≡ b → k < length (if b then x.step else x.sides.from.told) → t ≡ get_or (if b then x.step else x.sides.from.told) k t → (v : ℕ → Bool) →
      Consistent v g → OfTypes program v → Tells v t (item_outcome (slots_of program) (state_of program v) (inputs_of program v) (next_of program v) (part_of typed.nodes k) kind)
  told_by true on lt is v consistent all =
      let s = state_of program v in
      let u = inputs_of program v in
      let n = next_of program v in
      subst (Tells v t) (outcome_of_step (slots_of program) s u n typed.nodes k kind on)
      (tells_node v x.step (outcomes_of (slots_of program) s u n typed.nodes) k t lt is (step_told g typed x.sides tells.sides v x.step tells.step consistent all.from all.inputs all.to))
  told_by false off lt is v consistent all =
      let s = state_of program v in
      subst (Tells v t) (outcome_of_state (slots_of program) s (inputs_of program v) (next_of program v) typed.nodes k kind off)
      (tells_node v x.sides.from.told (outcomes_of (slots_of program) s [] [] typed.nodes) k t lt is (from_told g typed x.sides tells.sides v consistent all.from))

  module _ (table : List Told) (table_is : table ≡ (if speaks_of_step kind then x.step else x.sides.from.told)) (lt : k < length table) (is : t ≡ get_or table k t) where
    here : k < length (if speaks_of_step kind then x.step else x.sides.from.told)
    here = subst (λ (ts : List Told). k < length ts) table_is lt

    there : t ≡ get_or (if speaks_of_step kind then x.step else x.sides.from.told) k t
    there = is ∙ ap (λ (ts : List Told). get_or ts k t) table_is

    pub value_stands : ToldStands g t
    value_stands = stands_by (speaks_of_step kind) here there

    pub value_told : (v : ℕ → Bool) → Consistent v g → OfTypes program v →
        Tells v t (item_outcome (slots_of program) (state_of program v) (inputs_of program v) (next_of program v) (part_of typed.nodes k) kind)
    value_told v consistent all = told_by (speaks_of_step kind) refl here there v consistent all
