-- From what edges tell to what bits tell.
use Rattle.std.proofs.Common.{◌≡◌, ◌∙◌, ℕ, suc, ◌+◌, ◌≤◌, Bool, true, false, not, ◌&&◌, List, [], ◌∷◌, All, get_or, drop, map, ap, sym, subst, arith, length}
use Rattle.smv_resolve.specs.Items.{ResolvedItem}
use Rattle.clause_core.specs.Assignments.{Agrees}
use Rattle.clause_core.specs.Literals.{Within}
use Rattle.bit_graph.specs.declared.edge.Edge.{Edge}
use Rattle.bit_graph.specs.declared.edge.GraphNode.{GraphNode}
use Rattle.bit_graph.specs.Growth.{Extends}
use Rattle.bit_graph.specs.Meaning.{Consistent, Denotes, HasInputs, Stands}
use Rattle.bit_graph.specs.Values.{OneWay, value_under, values}
use Rattle.clause_core.specs.declared.literal.Lit.{Lit}
use Rattle.smv_tree.specs.declared.tree.Program.{Program}
use Rattle.smv_value.specs.declared.value.Value.{Value}
use Rattle.smv_meaning.specs.Runs.{is_step}
use Rattle.bit_clauses.specs.declared.either.Either.{Either}
use Rattle.bit_clauses.specs.Asserted.{all_hold}
use Rattle.bit_clauses.specs.Deciding.{Decides, Defines, signed}
use Rattle.bit_clauses.specs.Gated.{DecidesGroup, DefinesAll, DefinesEdges}
use Rattle.bit_clauses.proofs.Deciders.{decides_as}
use Rattle.bit_states.specs.Coding.{inputs_of, next_of, state_of}
use Rattle.bit_states.specs.Layouts.{input_types, input_width, named_width, state_types, state_width}
use Rattle.bit_outcomes.proofs.Kept.{edge_kept}
use Rattle.bit_conditions.specs.Asked.{is_broken_in, is_invariant, is_just_in, justices_of}
use Rattle.bit_conditions.specs.Told.{Tells, TellsJust}
use Rattle.bit_system.specs.declared.sides.Claim.{Claim}
use Rattle.bit_system.specs.Conditions.{TellsBad, is_bad_in}
use Rattle.bit_system.specs.Sharing.{DecidesEdge, IsClaim}
use Rattle.bit_system.specs.Standing.{just_values}
use Rattle.bit_system.proofs.Frames.{decoded_same}

pub tells_as : (g : List GraphNode) (es : List Either) (f h : (ℕ → Bool) → Bool) → ((v : ℕ → Bool) → f v ≡ h v) → Tells g es f → Tells g es h
tells_as g es f h same tells = record { stand = tells.stand; holds = λ v c. tells.holds v c ∙ same v }

-- conditions that tell a test of the inputs
pub decides_told : (n : ℕ) (g : List GraphNode) (es : List Either) (cs : List (List Lit)) (f : (ℕ → Bool) → Bool) → HasInputs n g → OneWay g
    → ((v : ℕ → Bool) → Consistent v g → all_hold v es ≡ f v) → ((a b : ℕ → Bool) → Agrees n a b → f a ≡ f b) → DecidesGroup n g es cs → Decides n cs f
decides_told n g es cs f inputs law holds only decides =
    decides_as n cs (λ x. all_hold (values x g) es) f (λ x. holds (values x g) (law.some x).0 ∙ only (values x g) x (λ k lt. let at = inputs.at k lt in (law.some x).1 k at.0 at.1)) decides

module _ (n : ℕ) (cs : List (List Lit)) where
  -- a literal defined by one of two equal functions is by the other
  pub one_as : (l : Lit) (f h : (ℕ → Bool) → Bool) → ((x : ℕ → Bool) → f x ≡ h x) → Defines n cs l f → Defines n cs l h
  one_as l f h same defines = record {
    gives = λ x a agrees met. defines.gives x a agrees met ∙ same x;
    sets = λ x t sets closed. subst (λ (b : Bool). t (signed l b) ≡ true) (same x) (defines.sets x t sets closed);
  }

  none : {Y : Type 0} (h : Y → Bool) (y : Y) (ys : List Y) → [] ≡ map h (y ∷ ys) → ⊥
  none h y ys e = let l : 0 ≡ suc (length (map h ys)) = ap length e in omega (arith, l)

  pub defines_as : {X Y : Type 0} (f : X → (ℕ → Bool) → Bool) (h : Y → (ℕ → Bool) → Bool) (xs : List X) (ys : List Y) (lits : List Lit)
      → ((a : ℕ → Bool) → map (λ x. f x a) xs ≡ map (λ y. h y a) ys) → DefinesAll n cs lits (map f xs) → DefinesAll n cs lits (map h ys)
  unfolding DefinesAll
  defines_as f h [] [] lits same defines = defines
  defines_as f h [] (y ∷ ys) lits same defines = absurd (none (λ y. h y (λ v. false)) y ys (same (λ v. false)))
  defines_as f h (x ∷ xs) [] lits same defines = absurd (none (λ x. f x (λ v. false)) x xs (sym (same (λ v. false))))
  defines_as f h (x ∷ xs) (y ∷ ys) [] same defines = defines
  defines_as f h (x ∷ xs) (y ∷ ys) (l ∷ lits) same defines = (
    one_as l (f x) (h y) (λ a. ap (λ (bs : List Bool). get_or bs 0 false) (same a)) defines.0,
    defines_as f h xs ys lits (λ a. ap (λ (bs : List Bool). drop 1 bs) (same a)) defines.1,
  )

module _ (p : Program) where
  -- the same bits, the same states
  pub state_same : (a b : ℕ → Bool) → Agrees (state_width p) a b → state_of p a ≡ state_of p b
  state_same a b agrees = decoded_same (state_types p) a b 0 (state_width p) (λ i lt. agrees i (omega (arith, lt)))

  step_same : (a b : ℕ → Bool) → Agrees (named_width p) a b
      → is_step p (state_of p a) (inputs_of p a) (next_of p a) ≡ is_step p (state_of p b) (inputs_of p b) (next_of p b)
  step_same a b agrees =
      let w = state_width p in
      let first : state_of p a ≡ state_of p b = decoded_same (state_types p) a b 0 w (λ i lt. agrees i (omega (arith, lt))) in
      let inputs : inputs_of p a ≡ inputs_of p b = decoded_same (input_types p) a b (w + w) (input_width p) (λ i lt. agrees i (omega (arith, lt))) in
      let second : next_of p a ≡ next_of p b = decoded_same (state_types p) a b w w (λ i lt. agrees i (omega (arith, lt))) in
      ap (λ s. is_step p s (inputs_of p a) (next_of p a)) first ∙ ap (λ u. is_step p (state_of p b) u (next_of p a)) inputs ∙ ap (is_step p (state_of p b) (inputs_of p b)) second

  -- what conditions tell of states, their clauses decide
  pub states_decide : (n : ℕ) (g : List GraphNode) (es : List Either) (cs : List (List Lit)) (test : List Value → Bool) → n ≡ state_width p → HasInputs (state_width p) g → OneWay g
      → Tells g es (λ v. test (state_of p v)) → DecidesGroup n g es cs → Decides (state_width p) cs (λ x. test (state_of p x))
  states_decide n g es cs test n_is inputs law tells decides =
      decides_told (state_width p) g es cs (λ x. test (state_of p x)) inputs law tells.holds (λ a b agrees. ap test (state_same a b agrees))
      (subst (λ k. DecidesGroup k g es cs) n_is decides)

  pub steps_decide : (n : ℕ) (g : List GraphNode) (es : List Either) (cs : List (List Lit)) → n ≡ named_width p → HasInputs (named_width p) g → OneWay g
      → Tells g es (λ v. is_step p (state_of p v) (inputs_of p v) (next_of p v)) → DecidesGroup n g es cs
      → Decides (named_width p) cs (λ x. is_step p (state_of p x) (inputs_of p x) (next_of p x))
  steps_decide n g es cs n_is inputs law tells decides =
      decides_told (named_width p) g es cs (λ x. is_step p (state_of p x) (inputs_of p x) (next_of p x)) inputs law tells.holds step_same
      (subst (λ k. DecidesGroup k g es cs) n_is decides)

  -- the literals of the edges are those of the formulas of JUSTICE
  pub justs_define : (n : ℕ) (g : List GraphNode) (edges : List Edge) (cs : List (List Lit)) (lits : List Lit) → n ≡ state_width p → HasInputs (state_width p) g → OneWay g
      → TellsJust g p (state_of p) edges → DefinesEdges n g edges cs lits → DefinesAll (state_width p) cs lits (just_values p)
  justs_define n g edges cs lits n_is inputs law tells defines =
      let same : (x : ℕ → Bool) → map (λ (e : Edge). value_under x g e) edges ≡ map (λ (y : ResolvedItem). is_just_in p (state_of p x) y) (justices_of p) =
      λ x.
      tells.told (values x g) (law.some x).0
      ∙ ap (λ s. map (is_just_in p s) (justices_of p)) (state_same (values x g) x (λ k lt. let at = inputs.at k lt in (law.some x).1 k at.0 at.1)) in
      defines_as (state_width p) cs (λ (e : Edge) (x : ℕ → Bool). value_under x g e) (λ (y : ResolvedItem) (x : ℕ → Bool). is_just_in p (state_of p x) y) edges (justices_of p) lits same
      (subst (λ k. DefinesEdges k g edges cs lits) n_is defines)

  -- clauses that decide an edge that is true in bad states decide these
  pub bad_decided : (n : ℕ) (g : List GraphNode) (spec : ResolvedItem) (e : Edge) (r : Claim) → n ≡ state_width p → HasInputs (state_width p) g → OneWay g
      → TellsBad g p (state_of p) spec e → DecidesEdge n g e r → IsClaim p spec r
  bad_decided n g spec e r n_is inputs law tells decides =
      let same : (x : ℕ → Bool) → value_under x g e ≡ is_bad_in p spec (state_of p x) =
      λ x.
      tells.value (values x g) (law.some x).0
      ∙ ap (is_bad_in p spec) (state_same (values x g) x (λ k lt. let at = inputs.at k lt in (law.some x).1 k at.0 at.1)) in
      let own : DecidesEdge (state_width p) g e r = subst (λ k. DecidesEdge k g e r) n_is decides in
      record {
        bad = decides_as (state_width p) r.bad (λ x. value_under x g e) (λ x. is_bad_in p spec (state_of p x)) same own.bad;
        good = decides_as (state_width p) r.good (λ x. not (value_under x g e)) (λ x. not (is_bad_in p spec (state_of p x))) (λ x. ap not (same x)) own.good;
        bad_within = own.bad_within;
        good_within = own.good_within;
      }

-- the edge of an invariant that is FALSE, and a constant where none is claimed
pub bad_where : (g : List GraphNode) (p : Program) (state : (ℕ → Bool) → List Value) (spec : ResolvedItem) (e : Edge) → is_invariant spec.kind ≡ true → Stands g e
    → Denotes g e (λ v. is_broken_in p spec (state v)) → TellsBad g p state spec e
bad_where g p state spec e invariant stands value = record {
  stands = stands;
  value = λ v c. value v c ∙ sym (ap (λ (b : Bool). b && is_broken_in p spec (state v)) invariant);
}

pub bad_nowhere : (g : List GraphNode) (p : Program) (state : (ℕ → Bool) → List Value) (spec : ResolvedItem) (e : Edge) → is_invariant spec.kind ≡ false → Stands g e
    → Denotes g e (λ v. false) → TellsBad g p state spec e
bad_nowhere g p state spec e other stands value = record {
  stands = stands;
  value = λ v c. value v c ∙ sym (ap (λ (b : Bool). b && is_broken_in p spec (state v)) other);
}

-- an edge that is true in bad states is so in a graph that grew
pub bad_kept : (g h : List GraphNode) → Extends g h → (p : Program) (state : (ℕ → Bool) → List Value) (spec : ResolvedItem) (e : Edge) → TellsBad g p state spec e → TellsBad h p state spec e
bad_kept g h extends p state spec e tells = record { stands = edge_kept g h extends e tells.stands; value = λ v c. tells.value v (extends.kept v c) }

-- and so where the state is told in another way
pub bad_as : (g : List GraphNode) (p : Program) (one other : (ℕ → Bool) → List Value) (spec : ResolvedItem) (e : Edge) → ((v : ℕ → Bool) → one v ≡ other v) → TellsBad g p one spec e → TellsBad g p other spec e
bad_as g p one other spec e same tells = record { stands = tells.stands; value = λ v c. tells.value v c ∙ ap (is_bad_in p spec) (same v) }

-- the same of the formulas of JUSTICE
pub just_as : (g : List GraphNode) (p : Program) (one other : (ℕ → Bool) → List Value) (es : List Edge) → ((v : ℕ → Bool) → one v ≡ other v) → TellsJust g p one es → TellsJust g p other es
just_as g p one other es same tells = record { stand = tells.stand; told = λ v c. tells.told v c ∙ ap (λ s. map (is_just_in p s) (justices_of p)) (same v) }

-- literals that are within a number are within a greater one
pub within_more : (k m : ℕ) (c : List Lit) → k ≤ m → Within k c → Within m c
within_more k m c le within = λ i d lt. omega (arith, within i d lt, le)

pub all_within_more : (k m : ℕ) (cs : List (List Lit)) → k ≤ m → All (Within k) cs → All (Within m) cs
all_within_more k m cs le within = λ i d lt. within_more k m (get_or cs i d) le (within i d lt)
