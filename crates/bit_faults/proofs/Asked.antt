-- From what is asked of a graph to the question of an item.
use Rattle.std.proofs.Common.{◌≡◌, ◌∙◌, ℕ, ◌<◌, Bool, true, false, ◌&&◌, List, [], ◌∷◌, length, get_or, map, refl, sym, ap, subst, arith}
use Rattle.std.specs.Prelude.{All, slice_index_or}
use Rattle.std.specs.List.{list_all}
use Rattle.std.specs.Option.{is_some}
use Rattle.std.proofs.lemmas.Bool.{and_parts}
use Rattle.std.proofs.lemmas.List.{get_or-map, length-map}
use Rattle.std.proofs.lemmas.List.Elements.{All-cons, All-head, All-nil, All-tail}
use Rattle.clause_core.specs.Assignments.{Agrees}
use Rattle.bit_graph.specs.declared.edge.Edge.{Edge}
use Rattle.bit_graph.specs.declared.edge.GraphNode.{GraphNode as Gate}
use Rattle.bit_graph.specs.Meaning.{Consistent, HasInputs, Stands, edge_value, exclusive_or}
use Rattle.bit_graph.specs.Values.{OneWay, value_under, values}
use Rattle.bit_clauses.specs.declared.deciding.Decided.{Decided}
use Rattle.bit_clauses.specs.Deciding.{Decides}
use Rattle.smv_tree.specs.declared.tree.Program.{Program}
use Rattle.smv_value.specs.declared.value.Value.{Value}
use Rattle.smv_resolve.specs.Items.{ResolvedItem}
use Rattle.smv_meaning.specs.declared.typed.Typed.{Typed}
use Rattle.smv_meaning.specs.Runs.{are_inputs, is_state}
use Rattle.bit_states.specs.Layouts.{named_width}
use Rattle.bit_faults.specs.Cones.{AgreeOn}
use Rattle.bit_faults.specs.Mending.{is_coded, mended, step_coded}
use Rattle.bit_faults.specs.Questions.{IsAsked, TellsFault, are_of_types, fault_of_bits, faults_at}
use Rattle.bit_faults.specs.Valuations.{TellsDomains, TellsItem}
use Rattle.bit_faults.proofs.Bits.{faults_same, valuation_same}
use Rattle.bit_faults.proofs.Coded.{all_coded, both, coded_same, length-step_coded, mended_valid}

-- tests of all numbers of a list

pub all_within : (f : ℕ → Bool) (ks : List ℕ) (n : ℕ) → All (λ k. k < n) ks → ((k : ℕ) → k < n → f k ≡ true) → list_all f ks ≡ true
all_within f [] n below each = refl
all_within f (k ∷ ks) n below each =
    both (f k) (list_all f ks) (each k (All-head (λ (i : ℕ). i < n) k ks below)) (all_within f ks n (All-tail (λ (i : ℕ). i < n) k ks below) each)

pub same_tests : (f h : ℕ → Bool) (ks : List ℕ) (n : ℕ) → All (λ k. k < n) ks → ((k : ℕ) → k < n → f k ≡ h k) → list_all f ks ≡ list_all h ks
same_tests f h [] n below each = refl
same_tests f h (k ∷ ks) n below each = λ i.
    each k (All-head (λ (j : ℕ). j < n) k ks below) i && same_tests f h ks n (All-tail (λ (j : ℕ). j < n) k ks below) each i

each_of : (f : ℕ → Bool) (ks : List ℕ) → list_all f ks ≡ true → All (λ k. f k ≡ true) ks
each_of f [] h = All-nil (λ (k : ℕ). f k ≡ true)
each_of f (k ∷ ks) h =
    let parts = and_parts (f k) (list_all f ks) h in
    All-cons (λ (j : ℕ). f j ≡ true) k ks parts.0 (each_of f ks parts.1)

-- values under assignments that are the same on the inputs
module _ (n : ℕ) (g : List Gate) (law : OneWay g) (inputs : HasInputs n g) where
  pub inputs_kept : (a : ℕ → Bool) (k : ℕ) → k < n → values a g k ≡ a k
  inputs_kept a k lt = let at = inputs.at k lt in (law.some a).1 k at.0 at.1

  pub under_same : (a b : ℕ → Bool) (e : Edge) → Stands g e → ((k : ℕ) → k < n → a k ≡ b k) → value_under a g e ≡ value_under b g e
  under_same a b e stands same =
      ap (exclusive_or e.negated) (law.only b (values a g) (law.some a).0 (λ j at is. (law.some a).1 j at is ∙ same j (inputs.only j at is)) e.node stands)

-- edges that tell of the slots of bits
module _ (g : List Gate) (p : Program) (domains : List Edge) (law : OneWay g) (told : (v : ℕ → Bool) → Consistent v g → map (edge_value v) domains ≡ step_coded p v) where
  pub length-told : length domains ≡ named_width p
  length-told =
      let v : ℕ → Bool = values (λ k. false) g in
      sym (length-map domains (edge_value v)) ∙ ap length (told v (law.some (λ k. false)).0) ∙ length-step_coded p v

  pub told_at : (y : ℕ → Bool) (k : ℕ) (d : Edge) → k < named_width p → value_under y g (get_or domains k d) ≡ is_coded p (values y g) k
  told_at y k d lt =
      let v = values y g in
      sym (get_or-map (edge_value v) domains k d false (omega (arith, lt, length-told))) ∙ ap (λ (l : List Bool). get_or l k false) (told v (law.some y).0)

pub length-domains : (g : List Gate) (p : Program) (domains : List Edge) → OneWay g → TellsDomains g p domains → length domains ≡ named_width p
length-domains g p domains law tells = length-told g p domains law tells.told

module _ (n : ℕ) (g : List Gate) (typed : Typed) (domains : List Edge) (item : ResolvedItem) (e : Edge) (c : Decided) (n_is : n ≡ named_width typed.scope.program) (inputs : HasInputs n g)
    (law : OneWay g) (tells : TellsDomains g typed.scope.program domains) (told : TellsItem g typed.scope.program item e) (asked : IsAsked n g domains e c) where
  abbrev p : Program
  p = typed.scope.program

  agree : (y : ℕ → Bool) → Agrees (named_width p) (values y g) y
  agree y = λ k lt. inputs_kept n g law inputs y k (omega (arith, lt, n_is))

  types_same : (a b : ℕ → Bool) → Agrees (named_width p) a b → are_of_types p a ≡ are_of_types p b
  types_same a b same = valuation_same p a b same (λ (s u t : List Value). is_state p s && are_inputs p u && is_state p t)

  abbrev domain : (ℕ → Bool) → ℕ → Bool
  domain y k = value_under y g (slice_index_or domains k e)

  abbrev test : (ℕ → Bool) → Bool
  test y = list_all (domain y) asked.read && value_under y g e

  domain_is : (y : ℕ → Bool) (k : ℕ) → k < n → domain y k ≡ is_coded p (values y g) k
  domain_is y k lt = told_at g p domains law tells.told y k e (omega (arith, lt, n_is))

  coded_at : (y : ℕ → Bool) (k : ℕ) → is_coded p (values y g) k ≡ is_coded p y k
  coded_at y k = ap (λ (l : List Bool). get_or l k false) (coded_same p (values y g) y (agree y))

  -- a valuation at which the item faults passes
  met : (b : ℕ → Bool) → faults_at p item b ≡ true → test b ≡ true
  met b h =
      let v = values b g in
      let parts = and_parts (are_of_types p v) (is_some (fault_of_bits p item v)) (faults_same p item v b (agree b) ∙ h) in
      both (list_all (domain b) asked.read) (value_under b g e)
      (all_within (domain b) asked.read n asked.within_inputs (λ k lt. domain_is b k lt ∙ all_coded p v typed.right_types parts.0 k (omega (arith, lt, n_is))))
      (told v (law.some b).0 parts.0 ∙ parts.1)

  -- where bits pass, the item faults at the mended ones
  faulty : (b : ℕ → Bool) → test b ≡ true → faults_at p item (mended p b) ≡ true
  faulty b h =
      let parts = and_parts (list_all (domain b) asked.read) (value_under b g e) h in
      let m = mended p b in
      let w = values m g in
      let kept : AgreeOn asked.read m b = λ k d lt.
      let i = get_or asked.read k d in
      let is : is_coded p b i ≡ true = sym (coded_at b i) ∙ sym (domain_is b i (asked.within_inputs k d lt)) ∙ each_of (domain b) asked.read parts.0 k d lt in
      ap (λ (x : Bool). x && b i) is in
      let valid : are_of_types p w ≡ true = types_same w m (agree m) ∙ mended_valid p b typed.right_types tells.states tells.inputs in
      let fault : is_some (fault_of_bits p item w) ≡ true = sym (told w (law.some m).0 valid) ∙ asked.reads m b kept ∙ parts.1 in
      sym (faults_same p item w m (agree m)) ∙ both (are_of_types p w) (is_some (fault_of_bits p item w)) valid fault

  -- the clauses are a question of the item
  pub asked_tells : TellsFault p item c
  asked_tells = record {
    test = test;
    decides = subst (λ (k : ℕ). Decides k c.clauses test) n_is asked.decides;
    within = asked.within;
    room = (let room = asked.room in omega (arith, room, n_is));
    met = met;
    faulty = faulty;
  }
