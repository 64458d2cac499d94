-- What items demand is what they ask, and in states and steps it is clear.
use Rattle.std.proofs.Common.{◌≡◌, ◌∙◌, ℕ, Bool, true, ◌&&◌, List, [], ◌∷◌, map, Option, None, Some, refl}
use Rattle.std.specs.List.{list_all}
use Rattle.std.proofs.lemmas.Bool.{and_parts}
use Rattle.smv_tree.specs.declared.tree.AssignmentKind.TheVariants as side
use Rattle.smv_tree.specs.declared.tree.ConstraintKind.TheVariants as asked
use Rattle.smv_value.specs.declared.value.Value.{Value}
use Rattle.smv_resolve.specs.declared.item.Item.{Item}
use Rattle.smv_resolve.specs.declared.item.ItemKind.{ItemKind}
use Rattle.smv_resolve.specs.declared.item.ItemKind.TheVariants as item
use Rattle.smv_resolve.specs.declared.node.ExprNode.{ExprNode}
use Rattle.smv_slots.specs.declared.slot.Slot.{Slot}
use Rattle.smv_resolve.specs.Items.{ResolvedItem, item_by, target_by}
use Rattle.smv_resolve.specs.Resolved.{Resolved, part_of, parts_of}
use Rattle.value_types.proofs.Elements.{both_true}
use Rattle.smv_meaning.specs.declared.outcome.Evaluation.{Evaluation}
use Rattle.smv_meaning.specs.declared.outcome.Evaluation.TheVariants.{Fault, Nothing, Values}
use Rattle.smv_meaning.specs.Formulas.{is_known}
use Rattle.smv_meaning.specs.Runs.{asks_always, asks_first, asks_step, is_given, is_known_by, is_known_item, is_single, outcome_of_target}
use Rattle.smv_meaning.specs.Tables.{always_allowed, first_allowed, outcome_at, outcomes_of, step_allowed, target_at}
use Rattle.smv_meaning.specs.Values.{outcome, outcome_in}
use Rattle.smv_meaning.proofs.Tables.{outcome_at-map}
use Rattle.bit_conditions.specs.declared.demands.Demand.{Demand}
use Rattle.bit_conditions.specs.declared.demands.When.{When}
use Rattle.bit_conditions.specs.declared.demands.When.TheVariants.{First, Always, Step}
use Rattle.bit_conditions.specs.Demands.{all_clear, all_met, always_demand, demand_of, first_demand, is_clear, is_met, step_demand}

-- what is demanded is what is asked

same_all : {A : Type 0} (f g : A → Bool) (xs : List A) → ((x : A) → f x ≡ g x) → list_all f xs ≡ list_all g xs
same_all f g [] same = refl
same_all f g (x ∷ xs) same = λ i. same x i && same_all f g xs same i

first_one : (x e : Evaluation) (kind : ItemKind) → is_met (first_demand kind) x e ≡ asks_first x e kind
first_one x e (item.Assignment side.Init) = refl
first_one x e (item.Assignment side.Current) = refl
first_one x e (item.Assignment side.Next) = refl
first_one x e (item.Constraint asked.Init) = refl
first_one x e (item.Constraint asked.Invar) = refl
first_one x e (item.Constraint asked.Trans) = refl
first_one x e (item.Constraint asked.Justice) = refl
first_one x e (item.Specification kind) = refl

always_one : (x e : Evaluation) (kind : ItemKind) → is_met (always_demand kind) x e ≡ asks_always x e kind
always_one x e (item.Assignment side.Init) = refl
always_one x e (item.Assignment side.Current) = refl
always_one x e (item.Assignment side.Next) = refl
always_one x e (item.Constraint asked.Init) = refl
always_one x e (item.Constraint asked.Invar) = refl
always_one x e (item.Constraint asked.Trans) = refl
always_one x e (item.Constraint asked.Justice) = refl
always_one x e (item.Specification kind) = refl

step_one : (x e : Evaluation) (kind : ItemKind) → is_met (step_demand kind) x e ≡ asks_step x e kind
step_one x e (item.Assignment side.Init) = refl
step_one x e (item.Assignment side.Current) = refl
step_one x e (item.Assignment side.Next) = refl
step_one x e (item.Constraint asked.Init) = refl
step_one x e (item.Constraint asked.Invar) = refl
step_one x e (item.Constraint asked.Trans) = refl
step_one x e (item.Constraint asked.Justice) = refl
step_one x e (item.Specification kind) = refl

pub first_met : (os : List Evaluation) (items : List Item) → all_met First os os items ≡ first_allowed os items
first_met os items =
    same_all (λ (x : Item). is_met (first_demand x.kind) (target_at os x.target) (outcome_at os x.value)) (λ (x : Item). asks_first (target_at os x.target) (outcome_at os x.value) x.kind) items
    (λ x. first_one (target_at os x.target) (outcome_at os x.value) x.kind)

pub always_met : (os : List Evaluation) (items : List Item) → all_met Always os os items ≡ always_allowed os items
always_met os items =
    same_all (λ (x : Item). is_met (always_demand x.kind) (target_at os x.target) (outcome_at os x.value)) (λ (x : Item). asks_always (target_at os x.target) (outcome_at os x.value) x.kind) items
    (λ x. always_one (target_at os x.target) (outcome_at os x.value) x.kind)

pub step_met : (ps os : List Evaluation) (items : List Item) → all_met Step ps os items ≡ step_allowed os ps items
step_met ps os items =
    same_all (λ (x : Item). is_met (step_demand x.kind) (target_at ps x.target) (outcome_at os x.value)) (λ (x : Item). asks_step (target_at ps x.target) (outcome_at os x.value) x.kind) items
    (λ x. step_one (target_at ps x.target) (outcome_at os x.value) x.kind)

-- what is known is given

single_given : (o : Evaluation) → is_single o ≡ true → is_given o ≡ true
single_given Nothing h = absurd cc
single_given (Values vs) h = refl
single_given (Fault rule place) h = refl

pub known_given : (o : Evaluation) → is_known o ≡ true → is_given o ≡ true
known_given Nothing h = absurd cc
known_given (Values vs) h = refl
known_given (Fault rule place) h = refl

both_given : (x e : Evaluation) → (is_single x && is_given e) ≡ true → (is_given x && is_given e) ≡ true
both_given x e h =
    let both = and_parts (is_single x) (is_given e) h in
    both_true (is_given x) (is_given e) (single_given x both.0) both.1

module _ (slots : List Slot) (s u t : List Value) (target : Option Resolved) (e : Resolved) where
  first_clear : (kind : ItemKind) → is_known_by slots s u t target e kind ≡ true → is_clear (first_demand kind) (outcome_of_target slots s target) (outcome_in slots s e) ≡ true
  first_clear (item.Assignment side.Init) h = both_given (outcome_of_target slots s target) (outcome_in slots s e) h
  first_clear (item.Assignment side.Current) h = both_given (outcome_of_target slots s target) (outcome_in slots s e) h
  first_clear (item.Assignment side.Next) h = refl
  first_clear (item.Constraint asked.Init) h = known_given (outcome_in slots s e) h
  first_clear (item.Constraint asked.Invar) h = known_given (outcome_in slots s e) h
  first_clear (item.Constraint asked.Trans) h = refl
  first_clear (item.Constraint asked.Justice) h = refl
  first_clear (item.Specification kind) h = refl

  always_clear : (kind : ItemKind) → is_known_by slots s u t target e kind ≡ true → is_clear (always_demand kind) (outcome_of_target slots s target) (outcome_in slots s e) ≡ true
  always_clear (item.Assignment side.Init) h = refl
  always_clear (item.Assignment side.Current) h = both_given (outcome_of_target slots s target) (outcome_in slots s e) h
  always_clear (item.Assignment side.Next) h = refl
  always_clear (item.Constraint asked.Init) h = refl
  always_clear (item.Constraint asked.Invar) h = known_given (outcome_in slots s e) h
  always_clear (item.Constraint asked.Trans) h = refl
  always_clear (item.Constraint asked.Justice) h = refl
  always_clear (item.Specification kind) h = refl

  -- what is assigned is known of the next state, from which any step may go
  step_clear : (kind : ItemKind) → is_known_by slots t u t target e kind ≡ true → is_known_by slots s u t target e kind ≡ true →
      is_clear (step_demand kind) (outcome_of_target slots t target) (outcome slots s u t e) ≡ true
  step_clear (item.Assignment side.Init) there here = refl
  step_clear (item.Assignment side.Current) there here = refl
  step_clear (item.Assignment side.Next) there here =
      let after = and_parts (is_single (outcome_of_target slots t target)) (is_given (outcome slots t u t e)) there in
      let before = and_parts (is_single (outcome_of_target slots s target)) (is_given (outcome slots s u t e)) here in
      both_true (is_given (outcome_of_target slots t target)) (is_given (outcome slots s u t e)) (single_given (outcome_of_target slots t target) after.0) before.1
  step_clear (item.Constraint asked.Init) there here = refl
  step_clear (item.Constraint asked.Invar) there here = refl
  step_clear (item.Constraint asked.Trans) there here = known_given (outcome slots s u t e) here
  step_clear (item.Constraint asked.Justice) there here = refl
  step_clear (item.Specification kind) there here = refl

module _ (slots : List Slot) (nodes : List ExprNode) where
  target_at-map : (w : List Value) (target : Option ℕ) → target_at (outcomes_of slots w [] [] nodes) target ≡ outcome_of_target slots w (target_by nodes target)
  target_at-map w None = refl
  target_at-map w (Some k) = outcome_at-map slots w [] [] (parts_of nodes) k

  clear_at : (d : Demand) (w s u t : List Value) (x : Item) → is_clear d (target_at (outcomes_of slots w [] [] nodes) x.target) (outcome_at (outcomes_of slots s u t nodes) x.value)
      ≡ is_clear d (outcome_of_target slots w (target_by nodes x.target)) (outcome slots s u t (part_of nodes x.value))
  clear_at d w s u t x = λ i. is_clear d (target_at-map w x.target i) (outcome_at-map slots s u t (parts_of nodes) x.value i)

  clear_by : (when : When) (w s u t : List Value) (known there : ResolvedItem → Bool) →
      ((x : Item) → there (item_by nodes x) ≡ true → known (item_by nodes x) ≡ true →
      is_clear (demand_of when x.kind) (outcome_of_target slots w (target_by nodes x.target)) (outcome slots s u t (part_of nodes x.value)) ≡ true) →
      (items : List Item) → list_all there (map (item_by nodes) items) ≡ true → list_all known (map (item_by nodes) items) ≡ true →
      all_clear when (outcomes_of slots w [] [] nodes) (outcomes_of slots s u t nodes) items ≡ true
  clear_by when w s u t known there each [] h k = refl
  clear_by when w s u t known there each (x ∷ items) h k =
      let after = and_parts (there (item_by nodes x)) (list_all there (map (item_by nodes) items)) h in
      let before = and_parts (known (item_by nodes x)) (list_all known (map (item_by nodes) items)) k in
      both_true (is_clear (demand_of when x.kind) (target_at (outcomes_of slots w [] [] nodes) x.target) (outcome_at (outcomes_of slots s u t nodes) x.value))
      (all_clear when (outcomes_of slots w [] [] nodes) (outcomes_of slots s u t nodes) items)
      (clear_at (demand_of when x.kind) w s u t x ∙ each x after.0 before.0) (clear_by when w s u t known there each items after.1 before.1)

  -- initial states, both states of a step, and steps

  pub all_first_clear : (s u t : List Value) (items : List Item) → list_all (is_known_item slots s u t) (map (item_by nodes) items) ≡ true →
      all_clear First (outcomes_of slots s [] [] nodes) (outcomes_of slots s [] [] nodes) items ≡ true
  all_first_clear s u t items h =
      clear_by First s s [] [] (is_known_item slots s u t) (is_known_item slots s u t) (λ x there here. first_clear slots s u t (target_by nodes x.target) (part_of nodes x.value) x.kind here) items h h

  pub all_always_clear : (s u t : List Value) (items : List Item) → list_all (is_known_item slots s u t) (map (item_by nodes) items) ≡ true →
      all_clear Always (outcomes_of slots s [] [] nodes) (outcomes_of slots s [] [] nodes) items ≡ true
  all_always_clear s u t items h =
      clear_by Always s s [] [] (is_known_item slots s u t) (is_known_item slots s u t) (λ x there here. always_clear slots s u t (target_by nodes x.target) (part_of nodes x.value) x.kind here) items h h

  pub all_step_clear : (s u t : List Value) (items : List Item) → list_all (is_known_item slots t u t) (map (item_by nodes) items) ≡ true →
      list_all (is_known_item slots s u t) (map (item_by nodes) items) ≡ true → all_clear Step (outcomes_of slots t [] [] nodes) (outcomes_of slots s u t nodes) items ≡ true
  all_step_clear s u t items h k =
      clear_by Step t s u t (is_known_item slots s u t) (is_known_item slots t u t)
      (λ x there here. step_clear slots s u t (target_by nodes x.target) (part_of nodes x.value) x.kind there here) items h k
