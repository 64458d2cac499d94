-- What conditions and edges tell of items, one by one and in all.
use Rattle.std.proofs.Common.{◌≡◌, ◌∙◌, ℕ, zero, suc, ◌+◌, ◌<◌, ◌≤◌, Bool, true, false, cond, ◌&&◌, List, [], ◌∷◌, ◌++◌, Option, None, Some, length, get_or, map, take, refl, sym, ap, arith}
use Rattle.std.specs.List.{Contains, filter, list_all}
use Rattle.std.proofs.lemmas.Bool.{and_parts}
use Rattle.std.proofs.lemmas.List.Elements.{All-contains}
use Rattle.std.proofs.lemmas.List.{map-append, take_more}
use Rattle.std.proofs.lemmas.List.Folds.{list_all-append}
use Rattle.smv_tree.specs.declared.tree.ConstraintKind.TheVariants as asked
use Rattle.smv_tree.specs.declared.tree.SpecificationKind.TheVariants as claim
use Rattle.smv_value.specs.declared.value.Value.{Value}
use Rattle.smv_resolve.specs.declared.item.Item.{Item}
use Rattle.smv_resolve.specs.declared.item.ItemKind.{ItemKind}
use Rattle.smv_resolve.specs.declared.item.ItemKind.TheVariants as item
use Rattle.smv_resolve.specs.declared.node.ExprNode.{ExprNode}
use Rattle.smv_resolve.specs.Items.{ResolvedItem, item_by, target_by}
use Rattle.smv_layout.specs.Layout.{items_of}
use Rattle.smv_resolve.specs.Resolved.{Resolved, part_of, parts_of}
use Rattle.smv_slots.specs.declared.slot.Slot.{Slot}
use Rattle.smv_slots.specs.Slots.{slots_of}
use Rattle.smv_meaning.specs.declared.typed.Typed.{Typed}
use Rattle.smv_meaning.specs.declared.outcome.Evaluation.{Evaluation}
use Rattle.smv_meaning.specs.declared.outcome.Evaluation.TheVariants.{Nothing}
use Rattle.smv_meaning.specs.Runs.{are_inputs, is_among, is_claim, is_given, is_known_by, is_known_item, is_state, is_true, specifications_of}
use Rattle.smv_meaning.specs.Tables.{outcome_at, outcomes_of}
use Rattle.smv_meaning.specs.Values.{outcome_in}
use Rattle.smv_meaning.proofs.Tables.{outcome_at-map}
use Rattle.bit_outcomes.specs.Asked.{is_false}
use Rattle.bit_conditions.specs.Asked.{is_invariant, is_just_in, is_justice, justices_of}
use Rattle.bit_conditions.proofs.Demanding.{known_given}
use Rattle.bit_conditions.proofs.OfStates.{known}

and_true : (b : Bool) → (b && true) ≡ b
and_true true = refl
and_true false = refl

pub and_true_is : (b : Bool) → b ≡ (b && true)
and_true_is true = refl
and_true_is false = refl

and_assoc : (a b c : Bool) → ((a && b) && c) ≡ (a && (b && c))
and_assoc true b c = refl
and_assoc false b c = refl

-- what is so of all is so of each
pub each_of : {A : Type 0} (test : A → Bool) (xs : List A) (i : ℕ) (d : A) → i < length xs → list_all test xs ≡ true → test (get_or xs i d) ≡ true
each_of test [] i d lt h = absurd (let no : ⊥ = omega (arith, lt) in no)
each_of test (x ∷ xs) zero d lt h = (and_parts (test x) (list_all test xs) h).0
each_of test (x ∷ xs) (suc i) d lt h = each_of test xs i d (omega (arith, lt)) (and_parts (test x) (list_all test xs) h).1

-- one test more
pub all_more : {A : Type 0} (test : A → Bool) (xs : List A) (i : ℕ) (d : A) (old now new : Bool) → i < length xs → now ≡ (old && list_all test (take i xs)) →
    new ≡ (now && test (get_or xs i d)) → new ≡ (old && list_all test (take (i + 1) xs))
all_more test xs i d old now new lt before is =
    is ∙ ap (λ (b : Bool). b && test (get_or xs i d)) before ∙ and_assoc old (list_all test (take i xs)) (test (get_or xs i d))
    ∙ ap (λ (b : Bool). old && (list_all test (take i xs) && b)) (sym (and_true (test (get_or xs i d))))
    ∙ ap (λ (b : Bool). old && b) (sym (list_all-append test (take i xs) (get_or xs i d ∷ [])) ∙ ap (list_all test) (sym (take_more xs i d lt)))

-- one edge more
pub map_more : {A B : Type 0} (f : A → B) (xs : List A) (made : List B) (i : ℕ) (d : A) → i < length xs → made ≡ map f (take i xs) → made ++ f (get_or xs i d) ∷ [] ≡ map f (take (i + 1) xs)
map_more f xs made i d lt before =
    ap (λ l. l ++ f (get_or xs i d) ∷ []) before ∙ sym (map-append f (take i xs) (get_or xs i d ∷ [])) ∙ ap (map f) (sym (take_more xs i d lt))

-- the formulas of JUSTICE, by nodes and as they are resolved

module _ (slots : List Slot) (nodes : List ExprNode) (s u t : List Value) where
  just_given : (target : Option Resolved) (e : Resolved) (kind : ItemKind) → is_justice kind ≡ true → is_known_by slots s u t target e kind ≡ true → is_given (outcome_in slots s e) ≡ true
  just_given target e (item.Constraint asked.Justice) j h = known_given (outcome_in slots s e) h
  just_given target e (item.Constraint asked.Init) j h = absurd cc
  just_given target e (item.Constraint asked.Invar) j h = absurd cc
  just_given target e (item.Constraint asked.Trans) j h = absurd cc
  just_given target e (item.Assignment which) j h = absurd cc
  just_given target e (item.Specification kind) j h = absurd cc

  abbrev os : List Evaluation
  os = outcomes_of slots s [] [] nodes

  abbrev given : Item → Bool
  given x = is_given (outcome_at os x.value)

  kept : (x : Item) (rest : List Item) (b : Bool) → (b ≡ true → given x ≡ true) → list_all given rest ≡ true → list_all given (cond b (x ∷ rest) rest) ≡ true
  kept x rest true one all = rw (one refl) all
  kept x rest false one all = all

  pub all_just_given : (items : List Item) → list_all (is_known_item slots s u t) (map (item_by nodes) items) ≡ true → list_all given (filter (λ (x : Item). is_justice x.kind) items) ≡ true
  all_just_given [] h = refl
  all_just_given (x ∷ items) h =
      let both = and_parts (is_known_item slots s u t (item_by nodes x)) (list_all (is_known_item slots s u t) (map (item_by nodes) items)) h in
      kept x (filter (λ (x : Item). is_justice x.kind) items) (is_justice x.kind)
      (λ j. ap is_given (outcome_at-map slots s [] [] (parts_of nodes) x.value) ∙ just_given (target_by nodes x.target) (part_of nodes x.value) x.kind j both.0)
      (all_just_given items both.1)

  module _ (valid : Bool) where
    abbrev by_node : Item → Bool
    by_node x = valid && is_true (outcome_at os x.value)

    abbrev by_value : ResolvedItem → Bool
    by_value x = valid && is_true (outcome_in slots s x.value)

    just_one : (x : Item) (items : List Item) (rest : List ResolvedItem) → map by_node items ≡ map by_value rest
        → (b : Bool) → map by_node (cond b (x ∷ items) items) ≡ map by_value (cond b (item_by nodes x ∷ rest) rest)
    just_one x items rest same true =
        ap (λ (o : Evaluation). (valid && is_true o) ∷ map by_node items) (outcome_at-map slots s [] [] (parts_of nodes) x.value)
        ∙ ap (λ (bs : List Bool). by_value (item_by nodes x) ∷ bs) same
    just_one x items rest same false = same

    pub just_all : (items : List Item) → map by_node (filter (λ (x : Item). is_justice x.kind) items) ≡ map by_value (filter (λ (x : ResolvedItem). is_justice x.kind) (map (item_by nodes) items))
    just_all [] = refl
    just_all (x ∷ items) =
        just_one x (filter (λ (x : Item). is_justice x.kind) items) (filter (λ (x : ResolvedItem). is_justice x.kind) (map (item_by nodes) items)) (just_all items) (is_justice x.kind)

pub just_told : (typed : Typed) (s : List Value) (valid : Bool) → valid ≡ is_state typed.scope.program s →
    map (λ (x : Item). valid && is_true (outcome_at (outcomes_of (slots_of typed.scope.program) s [] [] typed.nodes) x.value)) (filter (λ (x : Item). is_justice x.kind) typed.items)
    ≡ map (is_just_in typed.scope.program s) (justices_of typed.scope.program)
just_told typed s valid is =
    let slots = slots_of typed.scope.program in
    just_all slots typed.nodes s [] [] valid typed.items
    ∙ ap (λ (xs : List ResolvedItem). map (λ (x : ResolvedItem). valid && is_true (outcome_in slots s x.value)) (filter (λ (x : ResolvedItem). is_justice x.kind) xs)) typed.resolved
    ∙ ap (λ (b : Bool). map (λ (x : ResolvedItem). b && is_true (outcome_in slots s x.value)) (justices_of typed.scope.program)) is

pub justs_given : (typed : Typed) (s u : List Value) → is_state typed.scope.program s ≡ true → are_inputs typed.scope.program u ≡ true →
    list_all (λ (x : Item). is_given (outcome_at (outcomes_of (slots_of typed.scope.program) s [] [] typed.nodes) x.value)) (filter (λ (x : Item). is_justice x.kind) typed.items) ≡ true
justs_given typed s u a b = all_just_given (slots_of typed.scope.program) typed.nodes s u s typed.items (known typed s u s a b a)

-- a specification that claims an invariant

claim_given : (slots : List Slot) (s u t : List Value) (target : Option Resolved) (e : Resolved) (kind : ItemKind) → is_invariant kind ≡ true → is_known_by slots s u t target e kind ≡ true →
    is_given (outcome_in slots s e) ≡ true
claim_given slots s u t target e (item.Specification claim.Invariant) j h = known_given (outcome_in slots s e) h
claim_given slots s u t target e (item.Specification claim.Temporal) j h = absurd cc
claim_given slots s u t target e (item.Constraint which) j h = absurd cc
claim_given slots s u t target e (item.Assignment which) j h = absurd cc

some_of : {A : Type 0} (test keep : A → Bool) (xs : List A) → list_all test xs ≡ true → list_all test (filter keep xs) ≡ true
some_of test keep [] h = refl
some_of test keep (x ∷ xs) h =
    let both = and_parts (test x) (list_all test xs) h in
    one test x (filter keep xs) (keep x) both.0 (some_of test keep xs both.1)
  where
    one : {A : Type 0} (test : A → Bool) (x : A) (rest : List A) (b : Bool) → test x ≡ true → list_all test rest ≡ true → list_all test (cond b (x ∷ rest) rest) ≡ true
    one test x rest true h all = rw h all
    one test x rest false h all = all

pub spec_given : (typed : Typed) (s u : List Value) (spec : Item) → Contains (specifications_of typed.scope.program) (item_by typed.nodes spec) → is_invariant spec.kind ≡ true →
    is_state typed.scope.program s ≡ true → are_inputs typed.scope.program u ≡ true → is_given (outcome_at (outcomes_of (slots_of typed.scope.program) s [] [] typed.nodes) spec.value) ≡ true
spec_given typed s u spec among invariant a b =
    let p = typed.scope.program in
    let slots = slots_of p in
    let test : ResolvedItem → Bool = is_known_item slots s u s in
    let all : list_all test (specifications_of p) ≡ true = some_of test (λ (x : ResolvedItem). is_claim x.kind) (items_of p) (typed.known s u s a b a) in
    let found : test (item_by typed.nodes spec) ≡ true =
    All-contains (λ (x : ResolvedItem). test x ≡ true) (specifications_of p) (item_by typed.nodes spec) (λ i d lt. each_of test (specifications_of p) i d lt all) among in
    ap is_given (outcome_at-map slots s [] [] (parts_of typed.nodes) spec.value)
    ∙ claim_given slots s u s (target_by typed.nodes spec.target) (part_of typed.nodes spec.value) spec.kind invariant found

pub spec_value : (typed : Typed) (s : List Value) (spec : Item) →
    is_false (outcome_at (outcomes_of (slots_of typed.scope.program) s [] [] typed.nodes) spec.value) ≡ is_false (outcome_in (slots_of typed.scope.program) s (item_by typed.nodes spec).value)
spec_value typed s spec = ap is_false (outcome_at-map (slots_of typed.scope.program) s [] [] (parts_of typed.nodes) spec.value)

-- a node that is not there gives nothing
pub nothing_past : (os : List Evaluation) (k : ℕ) → length os ≤ k → outcome_at os k ≡ Nothing
nothing_past [] k past = refl
nothing_past (o ∷ os) zero past = absurd (let no : ⊥ = omega (arith, past) in no)
nothing_past (o ∷ os) (suc k) past = nothing_past os k (omega (arith, past))

-- and no value is among those of nothing
pub none_among : (o : Option Value) → is_among o Nothing ≡ false
none_among None = refl
none_among (Some w) = refl
