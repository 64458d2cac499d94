-- What conditions tell of states and steps.
use Rattle.std.proofs.Common.{◌≡◌, ◌∙◌, ℕ, Bool, true, false, ◌&&◌, List, [], length, map, refl, ap}
use Rattle.std.specs.List.{list_all}
use Rattle.std.proofs.lemmas.List.{length-map}
use Rattle.smv_tree.specs.declared.tree.Program.{Program}
use Rattle.smv_value.specs.declared.value.Value.{Value}
use Rattle.smv_resolve.specs.declared.item.Item.{Item}
use Rattle.smv_resolve.specs.Items.{item_by}
use Rattle.smv_layout.specs.Layout.{items_of}
use Rattle.smv_slots.specs.Slots.{slots_of}
use Rattle.smv_meaning.specs.declared.typed.Typed.{Typed}
use Rattle.smv_meaning.specs.declared.outcome.Evaluation.{Evaluation}
use Rattle.smv_meaning.specs.Runs.{allows_always, allows_first, allows_step, are_inputs, is_known_item, is_state, meets_invariants}
use Rattle.smv_meaning.specs.Tables.{outcomes_of}
use Rattle.smv_meaning.proofs.Items.{always_asked, first_asked, step_asked}
use Rattle.bit_graph.specs.declared.edge.Edge.{Edge}
use Rattle.bit_graph.specs.Meaning.{edge_value}
use Rattle.bit_arith.specs.Number.{values_of}
use Rattle.bit_outcomes.specs.declared.told.Told.{Told}
use Rattle.bit_outcomes.specs.Telling.{TellsAll}
use Rattle.bit_states.specs.Values.{are_codes}
use Rattle.bit_states.specs.Layouts.{HasTypes, input_types, input_width, state_types, state_width}
use Rattle.bit_states.proofs.Codes.{fitting, of_inputs, of_states}
use Rattle.bit_conditions.specs.declared.demands.When.TheVariants.{First, Always, Step}
use Rattle.bit_conditions.specs.Demands.{all_clear, all_met}
use Rattle.bit_conditions.specs.Told.{inputs_under, state_under}
use Rattle.bit_conditions.proofs.Demanding.{all_always_clear, all_first_clear, all_step_clear, always_met, first_met, step_met}

-- edges are those of a state, or of inputs, just where their values are codes

pub state_codes : (p : Program) → HasTypes p → (v : ℕ → Bool) (bits : List Edge) → length bits ≡ state_width p → is_state p (state_under p v bits) ≡ are_codes (state_types p) (values_of v bits)
state_codes p has v bits long = fitting p has of_states (values_of v bits) (length-map bits (edge_value v) ∙ long)

pub input_codes : (p : Program) → HasTypes p → (v : ℕ → Bool) (bits : List Edge) → length bits ≡ input_width p → are_inputs p (inputs_under p v bits) ≡ are_codes (input_types p) (values_of v bits)
input_codes p has v bits long = fitting p has of_inputs (values_of v bits) (length-map bits (edge_value v) ∙ long)

module _ (typed : Typed) where
  abbrev program : Program
  program = typed.scope.program

  -- what the program's items have is known in each state and step
  pub known : (s u t : List Value) → is_state program s ≡ true → are_inputs program u ≡ true → is_state program t ≡ true →
      list_all (is_known_item (slots_of program) s u t) (map (item_by typed.nodes) typed.items) ≡ true
  known s u t a b c = ap (list_all (is_known_item (slots_of program) s u t)) typed.resolved ∙ typed.known s u t a b c

  module _ (v : ℕ → Bool) (here : List Told) (items : List Item) (items_is : items ≡ typed.items) (old new : Bool) where
    -- an initial state
    pub first_told : (s u : List Value) → is_state program s ≡ true → are_inputs program u ≡ true → TellsAll v here (outcomes_of (slots_of program) s [] [] typed.nodes) →
        ((ps os : List Evaluation) → TellsAll v here ps → TellsAll v here os → all_clear First ps os items ≡ true → new ≡ (old && all_met First ps os items)) →
        new ≡ (old && list_all (allows_first (slots_of program) s) (items_of program))
    first_told s u a b tells asked =
        let os = outcomes_of (slots_of program) s [] [] typed.nodes in
        asked os os tells tells (ap (all_clear First os os) items_is ∙ all_first_clear (slots_of program) typed.nodes s u s typed.items (known s u s a b a))
        ∙ ap (λ (b : Bool). old && b)
        (ap (all_met First os os) items_is ∙ first_met os typed.items ∙ first_asked (slots_of program) typed.nodes s typed.items ∙ ap (list_all (allows_first (slots_of program) s)) typed.resolved)

    -- each state of a step
    pub always_told : (s u : List Value) → is_state program s ≡ true → are_inputs program u ≡ true → TellsAll v here (outcomes_of (slots_of program) s [] [] typed.nodes) →
        ((ps os : List Evaluation) → TellsAll v here ps → TellsAll v here os → all_clear Always ps os items ≡ true → new ≡ (old && all_met Always ps os items)) →
        new ≡ (old && meets_invariants program s)
    always_told s u a b tells asked =
        let os = outcomes_of (slots_of program) s [] [] typed.nodes in
        asked os os tells tells (ap (all_clear Always os os) items_is ∙ all_always_clear (slots_of program) typed.nodes s u s typed.items (known s u s a b a))
        ∙ ap (λ (b : Bool). old && b)
        (ap (all_met Always os os) items_is ∙ always_met os typed.items ∙ always_asked (slots_of program) typed.nodes s typed.items ∙ ap (list_all (allows_always (slots_of program) s)) typed.resolved)

    -- a step
    pub step_told : (there : List Told) (s u t : List Value) → is_state program s ≡ true → are_inputs program u ≡ true → is_state program t ≡ true →
        TellsAll v there (outcomes_of (slots_of program) t [] [] typed.nodes) → TellsAll v here (outcomes_of (slots_of program) s u t typed.nodes) →
        ((ps os : List Evaluation) → TellsAll v there ps → TellsAll v here os → all_clear Step ps os items ≡ true → new ≡ (old && all_met Step ps os items)) →
        new ≡ (old && list_all (allows_step (slots_of program) s u t) (items_of program))
    step_told there s u t a b c later tells asked =
        let ps = outcomes_of (slots_of program) t [] [] typed.nodes in
        let os = outcomes_of (slots_of program) s u t typed.nodes in
        asked ps os later tells (ap (all_clear Step ps os) items_is ∙ all_step_clear (slots_of program) typed.nodes s u t typed.items (known t u t c b c) (known s u t a b c))
        ∙ ap (λ (b : Bool). old && b)
        (ap (all_met Step ps os) items_is ∙ step_met ps os typed.items ∙ step_asked (slots_of program) typed.nodes s u t typed.items ∙ ap (list_all (allows_step (slots_of program) s u t)) typed.resolved)

-- conditions that hold as told where all bits are codes, and the domains beside them

and_true : (b : Bool) → (b && true) ≡ b
and_true true = refl
and_true false = refl

and_false : (b : Bool) → (b && false) ≡ false
and_false true = refl
and_false false = refl

pub first_is : (valid state old made allowed : Bool) → old ≡ true → valid ≡ state → (state ≡ true → made ≡ (old && allowed)) → (made && valid) ≡ (state && allowed)
first_is valid true old made allowed e is h = ap (λ (b : Bool). made && b) is ∙ and_true made ∙ h refl ∙ ap (λ (b : Bool). b && allowed) e
first_is valid false old made allowed e is h = ap (λ (b : Bool). made && b) is ∙ and_false made

pub where_valid : (valid state one other : Bool) → valid ≡ state → (state ≡ true → one ≡ other) → (valid && one) ≡ (state && other)
where_valid valid true one other is h = λ i. is i && h refl i
where_valid valid false one other is h = ap (λ (b : Bool). b && one) is

step_all : (a b c made kept allowed before after : Bool) → (a ≡ true → b ≡ true → c ≡ true → made ≡ ((((true && kept) && allowed) && before) && after)) →
    (((made && a) && b) && c) ≡ ((((a && b && c) && kept) && allowed) && (before && after))
step_all true true true made kept allowed before after h =
    ap (λ (b : Bool). ((b && true) && true) && true) (h refl refl refl ∙ and_over kept allowed before after)
    ∙ and_true (((((true && kept) && allowed) && (before && after)) && true) && true) ∙ and_true ((((true && kept) && allowed) && (before && after)) && true)
    ∙ and_true (((true && kept) && allowed) && (before && after))
  where
    and_over : (x y p q : Bool) → ((((true && x) && y) && p) && q) ≡ (((true && x) && y) && (p && q))
    and_over true true p q = refl
    and_over true false p q = refl
    and_over false y p q = refl
step_all true true false made kept allowed before after h = and_false ((made && true) && true)
step_all true false c made kept allowed before after h = ap (λ (b : Bool). b && c) (and_false (made && true))
step_all false b c made kept allowed before after h = ap (λ (x : Bool). (x && b) && c) (and_false made)

pub step_is : (old a b c x y z made kept allowed before after : Bool) → old ≡ true → x ≡ a → y ≡ b → z ≡ c →
    (a ≡ true → b ≡ true → c ≡ true → made ≡ ((((old && kept) && allowed) && before) && after)) →
    (((made && x) && y) && z) ≡ ((((a && b && c) && kept) && allowed) && (before && after))
step_is old a b c x y z made kept allowed before after e p q r h =
    (λ i. ((made && p i) && q i) && r i)
    ∙ step_all a b c made kept allowed before after (λ k l m. h k l m ∙ ap (λ (o : Bool). (((o && kept) && allowed) && before) && after) e)
