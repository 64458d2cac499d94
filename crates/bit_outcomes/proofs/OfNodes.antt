-- What is told of lists of outcomes, and of one node more.
use Rattle.std.proofs.Common.{◌≡◌, ◌∙◌, ℕ, zero, suc, ◌+◌, ◌-◌, ◌<◌, ◌≤◌, Bool, false, List, [], ◌∷◌, ◌++◌, length, get_or, take, drop, refl, sym, ap, subst, arith, length-append}
use Rattle.std.specs.Prelude.{All, slice_get}
use Rattle.std.proofs.lemmas.List.{get_or-drop, length-drop, length-map}
use Rattle.bit_graph.specs.declared.edge.Edge.{Edge}
use Rattle.bit_graph.specs.declared.edge.GraphNode.{GraphNode as Gate}
use Rattle.bit_graph.specs.Meaning.{edge_value}
use Rattle.smv_value.specs.declared.value.Value.{Value}
use Rattle.smv_resolve.specs.declared.node.ExprNode.{ExprNode}
use Rattle.smv_resolve.specs.Resolved.{last_of, parts_of}
use Rattle.smv_resolve.proofs.Parts.{length-parts}
use Rattle.smv_slots.specs.declared.slot.Slot.{Slot}
use Rattle.smv_meaning.specs.declared.outcome.Evaluation.{Evaluation}
use Rattle.smv_meaning.specs.declared.outcome.Evaluation.TheVariants.{Nothing}
use Rattle.smv_meaning.specs.Outcomes.{two, valued}
use Rattle.smv_meaning.specs.Tables.{outcome_at, outcome_by, outcomes_of, seen}
use Rattle.smv_meaning.specs.Values.{outcome}
use Rattle.smv_meaning.proofs.Tables.{outcomes_next, outcomes_none, outcomes_of-take}
use Rattle.bit_operators.specs.declared.symbolic.Symbolic.{Symbolic}
use Rattle.bit_operators.specs.Denoting.{denoted}
use Rattle.bit_numbers.specs.Counts.{AreDenoted}
use Rattle.bit_outcomes.specs.declared.told.Told.{Told}
use Rattle.bit_outcomes.specs.declared.told.Told.TheVariants as told
use Rattle.bit_outcomes.specs.Telling.{AllTold, Tells, TellsAll, TellsOne, ToldStands}

module _ (v : ℕ → Bool) where
  abbrev At : List Told → List Evaluation → ℕ → Type 0
  At ts os k = Tells v (get_or ts k told.Untold) (get_or os k Nothing)

  -- one more

  at_push : (ts : List Told) (os : List Evaluation) (t : Told) (o : Evaluation) → length ts ≡ length os → ((k : ℕ) → At ts os k) → Tells v t o → (k : ℕ) → At (ts ++ t ∷ []) (os ++ o ∷ []) k
  at_push [] [] t o long each h zero = h
  at_push [] [] t o long each h (suc k) = tt
  at_push [] (p ∷ os) t o long each h k = absurd (let no : ⊥ = omega (arith, long) in no)
  at_push (x ∷ ts) [] t o long each h k = absurd (let no : ⊥ = omega (arith, long) in no)
  at_push (x ∷ ts) (p ∷ os) t o long each h zero = each 0
  at_push (x ∷ ts) (p ∷ os) t o long each h (suc k) = at_push ts os t o (omega (arith, long)) (λ j. each (suc j)) h k

  pub tells_push : (ts : List Told) (os : List Evaluation) (t : Told) (o : Evaluation) → TellsAll v ts os → Tells v t o → TellsAll v (ts ++ t ∷ []) (os ++ o ∷ [])
  tells_push ts os t o all h = record {
    long = omega (arith, all.long, length-append ts (t ∷ []), length-append os (o ∷ []));
    each = at_push ts os t o all.long all.each h;
  }

  -- the first ones, and the last

  at_take : (i : ℕ) (ts : List Told) (os : List Evaluation) → length ts ≡ length os → ((k : ℕ) → At ts os k) → (k : ℕ) → At (take i ts) (take i os) k
  at_take zero ts os long each k = tt
  at_take (suc i) [] os long each k = tt
  at_take (suc i) (t ∷ ts) [] long each k = absurd (let no : ⊥ = omega (arith, long) in no)
  at_take (suc i) (t ∷ ts) (o ∷ os) long each zero = each 0
  at_take (suc i) (t ∷ ts) (o ∷ os) long each (suc k) = at_take i ts os (omega (arith, long)) (λ j. each (suc j)) k

  long_take : (i : ℕ) (ts : List Told) (os : List Evaluation) → length ts ≡ length os → length (take i ts) ≡ length (take i os)
  long_take zero ts os long = refl
  long_take (suc i) [] [] long = refl
  long_take (suc i) [] (o ∷ os) long = absurd (let no : ⊥ = omega (arith, long) in no)
  long_take (suc i) (t ∷ ts) [] long = absurd (let no : ⊥ = omega (arith, long) in no)
  long_take (suc i) (t ∷ ts) (o ∷ os) long = omega (arith, long_take i ts os (omega (arith, long)))

  pub tells_take : (i : ℕ) (ts : List Told) (os : List Evaluation) → TellsAll v ts os → TellsAll v (take i ts) (take i os)
  tells_take i ts os all = record { long = long_take i ts os all.long; each = at_take i ts os all.long all.each }

  pub tells_drop : (n : ℕ) (ts : List Told) (os : List Evaluation) → TellsAll v ts os → TellsAll v (drop n ts) (drop n os)
  tells_drop zero ts os all = all
  tells_drop (suc n) [] [] all = all
  tells_drop (suc n) [] (o ∷ os) all = absurd (let no : ⊥ = omega (arith, all.long) in no)
  tells_drop (suc n) (t ∷ ts) [] all = absurd (let no : ⊥ = omega (arith, all.long) in no)
  tells_drop (suc n) (t ∷ ts) (o ∷ os) all = tells_drop n ts os (record { long = omega (arith, all.long); each = λ j. all.each (suc j) })

  pub tells_last : (count : ℕ) (ts : List Told) (os : List Evaluation) → TellsAll v ts os → TellsAll v (last_of count ts) (last_of count os)
  tells_last count ts os all =
      subst (λ (n : ℕ). TellsAll v (last_of count ts) (drop (n - count) os)) all.long (tells_drop (length ts - count) ts os all)

  -- the one of a number

  seen_or : (os : List Evaluation) (k : ℕ) → get_or os k Nothing ≡ seen (slice_get os k)
  seen_or [] k = refl
  seen_or (o ∷ os) zero = refl
  seen_or (o ∷ os) (suc k) = seen_or os k

  default_at : (ts : List Told) (k : ℕ) (d : Told) → k < length ts → get_or ts k told.Untold ≡ get_or ts k d
  default_at [] k d lt = absurd (let no : ⊥ = omega (arith, lt) in no)
  default_at (t ∷ ts) zero d lt = refl
  default_at (t ∷ ts) (suc k) d lt = default_at ts k d (omega (arith, lt))

  pub tells_at : (ts : List Told) (os : List Evaluation) (k : ℕ) (t : Told) → k < length ts → t ≡ get_or ts k t → TellsAll v ts os → Tells v t (get_or os k Nothing)
  tells_at ts os k t lt is all = subst (λ (x : Told). Tells v x (get_or os k Nothing)) (default_at ts k t lt ∙ sym is) (all.each k)

  pub tells_node : (ts : List Told) (os : List Evaluation) (k : ℕ) (t : Told) → k < length ts → t ≡ get_or ts k t → TellsAll v ts os → Tells v t (outcome_at os k)
  tells_node ts os k t lt is all = subst (λ (o : Evaluation). Tells v t o) (seen_or os k) (tells_at ts os k t lt is all)

  pub tells_two : (s t : Told) (o p : Evaluation) → Tells v s o → Tells v t p → TellsAll v (s ∷ t ∷ []) (o ∷ p ∷ [])
  tells_two s t o p a b = record { long = refl; each = each }
    where
      each : (k : ℕ) → At (s ∷ t ∷ []) (o ∷ p ∷ []) k
      each zero = a
      each (suc zero) = b
      each (suc (suc k)) = tt

  at_none : (ts : List Told) (os : List Evaluation) → All (λ (t : Told). t ≡ told.Untold) ts → (k : ℕ) → At ts os k
  at_none [] os h k = tt
  at_none (t ∷ ts) os h zero = subst (λ (x : Told). Tells v x (get_or os 0 Nothing)) (sym (h 0 t (omega arith))) tt
  at_none (t ∷ ts) [] h (suc k) = at_none ts [] (λ j d lt. h (suc j) d (omega (arith, lt))) k
  at_none (t ∷ ts) (o ∷ os) h (suc k) = at_none ts os (λ j d lt. h (suc j) d (omega (arith, lt))) k

  pub tells_none : (ts : List Told) (os : List Evaluation) → length ts ≡ length os → All (λ (t : Told). t ≡ told.Untold) ts → TellsAll v ts os
  tells_none ts os long h = record { long = long; each = at_none ts os h }

  -- the value at a place

  pub value_told : (f : Edge) → edge_value v f ≡ false → (ss : List Symbolic) (xs : List Value) (i : ℕ) (s : Symbolic) → AreDenoted v ss xs → i < length ss → s ≡ get_or ss i s →
      TellsOne v f s (valued (slice_get xs i))
  value_told f h [] xs i s d lt is = absurd (let no : ⊥ = omega (arith, lt) in no)
  value_told f h (t ∷ ss) [] i s d lt is = absurd d
  value_told f h (t ∷ ss) (x ∷ xs) zero s d lt is = (h, record { value = x; only = refl; denotes = ap (denoted v) is ∙ d.0 })
  value_told f h (t ∷ ss) (x ∷ xs) (suc i) s d lt is = value_told f h ss xs i s d.1 (omega (arith, lt)) is

  -- one node more

  pub table_more : (slots : List Slot) (nodes : List ExprNode) (s u t : List Value) (made later first : List Told) (i : ℕ) (n : ExprNode) (x : Told) → i < length nodes → first ≡ take i later →
      TellsAll v made (outcomes_of slots s u t (take i nodes)) → TellsAll v later (outcomes_of slots t [] [] nodes) →
      ((os ps : List Evaluation) → TellsAll v made os → TellsAll v first ps → Tells v x (outcome_by slots s u os ps (get_or nodes i n))) →
      TellsAll v (made ++ x ∷ []) (outcomes_of slots s u t (take (i + 1) nodes))
  table_more slots nodes s u t made later first i n x lt is so_far next tells =
      let os : List Evaluation = outcomes_of slots s u t (take i nodes) in
      let ps : List Evaluation = outcomes_of slots t [] [] (take i nodes) in
      let before : TellsAll v first (outcomes_of slots t [] [] (take i nodes)) =
      subst (λ (ts : List Told). TellsAll v ts (outcomes_of slots t [] [] (take i nodes))) (sym is)
      (subst (λ (qs : List Evaluation). TellsAll v (take i later) qs) (outcomes_of-take slots t [] [] nodes i (omega (arith, lt))) (tells_take i later (outcomes_of slots t [] [] nodes) next)) in
      subst (λ (qs : List Evaluation). TellsAll v (made ++ x ∷ []) qs)
      (outcomes_next slots s u t nodes os ps i n (outcome_by slots s u os ps (get_or nodes i n)) lt refl refl refl)
      (tells_push made os x (outcome_by slots s u os ps (get_or nodes i n)) so_far (tells os ps so_far before))

  pub table_none : (slots : List Slot) (s u t : List Value) → TellsAll v [] (outcomes_of slots s u t [])
  table_none slots s u t = subst (λ (os : List Evaluation). TellsAll v [] os) (outcomes_none slots s u t) (record { long = refl; each = λ k. tt })

-- what leads to nodes in all leads there in the last
pub last_stand : (g : List Gate) (count : ℕ) (ts : List Told) → AllTold g ts → AllTold g (last_of count ts)
last_stand g count ts stand i d lt =
    let n = length ts - count in
    let size = length-drop n ts in
    let same : get_or (drop n ts) i d ≡ get_or ts (n + i) d = get_or-drop n ts i d in
    subst (ToldStands g) (sym same) (stand (n + i) d (omega (arith, lt, size)))

pub none_stand : (g : List Gate) (ts : List Told) → All (λ (t : Told). t ≡ told.Untold) ts → AllTold g ts
none_stand g ts h i d lt = subst (ToldStands g) (sym (h i d lt)) tt

-- one operand, and two

pub single_is : {A : Type 0} (xs : List A) (a : A) → 1 ≤ length xs → length xs < 2 → a ≡ get_or xs 0 a → xs ≡ a ∷ []
single_is [] a least below is = absurd (let no : ⊥ = omega (arith, least) in no)
single_is (x ∷ []) a least below is = ap (λ y. y ∷ []) (sym is)
single_is (x ∷ y ∷ xs) a least below is = absurd (let no : ⊥ = omega (arith, below) in no)

pub pair_is : {A : Type 0} (xs : List A) (a b : A) → 2 ≤ length xs → length xs < 3 → a ≡ get_or xs 0 a → b ≡ get_or xs 1 b → xs ≡ a ∷ b ∷ []
pair_is [] a b least below is at = absurd (let no : ⊥ = omega (arith, least) in no)
pair_is (x ∷ []) a b least below is at = absurd (let no : ⊥ = omega (arith, least) in no)
pair_is (x ∷ y ∷ []) a b least below is at = (λ i. sym is i ∷ sym at i ∷ [])
pair_is (x ∷ y ∷ z ∷ xs) a b least below is at = absurd (let no : ⊥ = omega (arith, below) in no)

pub of_two : (v : ℕ → Bool) (t a b : Told) (f : Evaluation → Evaluation → Evaluation) → ((p q : Evaluation) → Tells v a p → Tells v b q → Tells v t (f p q)) → (os : List Evaluation) →
    TellsAll v (a ∷ b ∷ []) os → Tells v t (two f os)
of_two v t a b f h [] all = absurd (let no : ⊥ = omega (arith, all.long) in no)
of_two v t a b f h (p ∷ []) all = absurd (let no : ⊥ = omega (arith, all.long) in no)
of_two v t a b f h (p ∷ q ∷ []) all = h p q (all.each 0) (all.each 1)
of_two v t a b f h (p ∷ q ∷ r ∷ os) all = absurd (let no : ⊥ = omega (arith, all.long) in no)

pub one_by : (v : ℕ → Bool) (t a : Told) (f : List Evaluation → Evaluation) → ((p : Evaluation) → Tells v a p → Tells v t (f (p ∷ []))) → (os : List Evaluation) → TellsAll v (a ∷ []) os →
    Tells v t (f os)
one_by v t a f h [] all = absurd (let no : ⊥ = omega (arith, all.long) in no)
one_by v t a f h (p ∷ []) all = h p (all.each 0)
one_by v t a f h (p ∷ q ∷ os) all = absurd (let no : ⊥ = omega (arith, all.long) in no)

pub two_by : (v : ℕ → Bool) (t a b : Told) (f : List Evaluation → Evaluation) → ((p q : Evaluation) → Tells v a p → Tells v b q → Tells v t (f (p ∷ q ∷ []))) → (os : List Evaluation) →
    TellsAll v (a ∷ b ∷ []) os → Tells v t (f os)
two_by v t a b f h [] all = absurd (let no : ⊥ = omega (arith, all.long) in no)
two_by v t a b f h (p ∷ []) all = absurd (let no : ⊥ = omega (arith, all.long) in no)
two_by v t a b f h (p ∷ q ∷ []) all = h p q (all.each 0) (all.each 1)
two_by v t a b f h (p ∷ q ∷ r ∷ os) all = absurd (let no : ⊥ = omega (arith, all.long) in no)

-- as many outcomes as nodes
pub outcomes_long : (slots : List Slot) (s u t : List Value) (nodes : List ExprNode) → length (outcomes_of slots s u t nodes) ≡ length nodes
outcomes_long slots s u t nodes = length-map (parts_of nodes) (outcome slots s u t) ∙ length-parts nodes
