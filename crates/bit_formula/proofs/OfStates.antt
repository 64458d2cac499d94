-- What is defined of a state with inputs.
use Rattle.std.proofs.Common.{◌≡◌, ◌∙◌, ℕ, zero, suc, ◌<◌, ◌+◌, Bool, true, false, ◌&&◌, List, [], ◌∷◌, ◌++◌, map, length, get_or, take, refl, sym, ap, subst, arith}
use Rattle.std.specs.List.{Contains, list_all}
use Rattle.std.proofs.lemmas.Bool.{and_parts}
use Rattle.std.proofs.lemmas.List.{map-append, take_more}
use Rattle.std.proofs.lemmas.List.Elements.{All-contains_itself, All-filter}
use Rattle.std.proofs.lemmas.List.Folds.{list_all-map}
use Rattle.std.proofs.lemmas.Simd.{map-map}
use Rattle.smv_tree.specs.declared.tree.Program.{Program}
use Rattle.smv_tree.specs.declared.tree.SpecificationKind.TheVariants as claim
use Rattle.smv_value.specs.declared.value.Value.{Value}
use Rattle.smv_slots.specs.declared.slot.Slot.{Slot}
use Rattle.smv_slots.specs.Slots.{slots_of}
use Rattle.smv_resolve.specs.declared.node.ExprNode.{ExprNode}
use Rattle.smv_resolve.specs.declared.item.ItemKind.{ItemKind}
use Rattle.smv_resolve.specs.declared.item.ItemKind.TheVariants as item
use Rattle.smv_resolve.specs.Items.{ResolvedItem}
use Rattle.smv_layout.specs.Layout.{items_of}
use Rattle.smv_resolve.specs.Resolved.{Resolved, part_of, parts_of}
use Rattle.smv_meaning.specs.declared.outcome.Evaluation.{Evaluation}
use Rattle.smv_meaning.specs.declared.outcome.Evaluation.TheVariants.{Fault, Nothing, Values}
use Rattle.smv_meaning.specs.Formulas.{is_known, is_known_formula}
use Rattle.smv_meaning.specs.Runs.{AllKnown, are_inputs, is_claim, is_given, is_known_by, is_known_item, is_state, specifications_of}
use Rattle.smv_meaning.specs.Tables.{outcome_at, outcomes_of}
use Rattle.smv_meaning.specs.Values.{outcome}
use Rattle.smv_meaning.proofs.Tables.{outcome_at-map}
use Rattle.smv_formulas.specs.Known.{AreKnownWith}
use Rattle.smv_formulas.specs.Says.{atom_parts}
use Rattle.bit_conditions.specs.Asked.{is_just_in, justices_of}
use Rattle.bit_formula.specs.Coding.{state_in}
use Rattle.bit_formula.specs.Conditions.{AreGiven, defined_values, truths_in}
use Rattle.bit_formula.specs.Standing.{atom_values, is_true_at, joint_just_values}

-- what is known is given
given_of : (o : Evaluation) → is_known o ≡ true → is_given o ≡ true
given_of (Fault rule place) h = refl
given_of (Values vs) h = refl
given_of Nothing h = absurd (let no : ⊥ = cc in no)

all_given : (slots : List Slot) (s u : List Value) (parts : List Resolved) → list_all (λ (e : Resolved). is_known (outcome slots s u [] e)) parts ≡ true
    → list_all (λ (e : Resolved). is_given (outcome slots s u [] e)) parts ≡ true
all_given slots s u [] h = refl
all_given slots s u (e ∷ parts) h =
    let both = and_parts (is_known (outcome slots s u [] e)) (list_all (λ (e : Resolved). is_known (outcome slots s u [] e)) parts) h in
    λ i. given_of (outcome slots s u [] e) both.0 i && all_given slots s u parts both.1 i

-- each element passes
passes : {A : Type 0} (test : A → Bool) (xs : List A) (k : ℕ) (x : A) → k < length xs → get_or xs k x ≡ x → list_all test xs ≡ true → test x ≡ true
passes test [] k x lt is h = absurd (let no : ⊥ = omega (arith, lt) in no)
passes test (y ∷ ys) zero x lt is h = ap test (sym is) ∙ (and_parts (test y) (list_all test ys) h).0
passes test (y ∷ ys) (suc k) x lt is h = passes test ys k x (omega (arith, lt)) is (and_parts (test y) (list_all test ys) h).1

-- of a specification's formula the atoms are given
module _ (p : Program) (known : AllKnown p) (spec : ResolvedItem) (among : Contains (specifications_of p) spec) (kind : spec.kind ≡ item.Specification claim.Temporal) where
  all_among : Contains (items_of p) spec
  all_among =
      subst (Contains (items_of p)) among.2
      (All-filter (λ (x : ResolvedItem). is_claim x.kind) (Contains (items_of p)) (items_of p) (All-contains_itself (items_of p)) among.0 spec among.1)

  known_formula : (s u : List Value) → is_state p s ≡ true → are_inputs p u ≡ true → is_known_formula (slots_of p) s u spec.value ≡ true
  known_formula s u is given =
      let item_known : is_known_item (slots_of p) s u s spec ≡ true =
      passes (is_known_item (slots_of p) s u s) (items_of p) all_among.0 spec all_among.1 all_among.2 (known s u s is given is) in
      subst (λ (k : ItemKind). is_known_by (slots_of p) s u s spec.target spec.value k ≡ true) kind item_known

  pub atoms_given : (parts : List Resolved) → AreKnownWith p spec.value parts → AreGiven p parts
  atoms_given parts of s u is given = all_given (slots_of p) s u parts (of s u (known_formula s u is given))

-- atoms by the outcomes of nodes, and by their parts

pub atoms_at : {A : Type 0} (f : Evaluation → A) (slots : List Slot) (s u : List Value) (nodes : List ExprNode) (atoms : List ℕ)
    → map (λ (a : ℕ). f (outcome_at (outcomes_of slots s u [] nodes) a)) atoms ≡ map (λ (e : Resolved). f (outcome slots s u [] e)) (atom_parts nodes atoms)
atoms_at f slots s u nodes [] = refl
atoms_at f slots s u nodes (a ∷ atoms) =
    let here : f (outcome_at (outcomes_of slots s u [] nodes) a) ≡ f (outcome slots s u [] (part_of nodes a)) = ap f (outcome_at-map slots s u [] (parts_of nodes) a) in
    let rest = atoms_at f slots s u nodes atoms in
    λ i. here i ∷ rest i

pub given_at : (slots : List Slot) (s u : List Value) (nodes : List ExprNode) (atoms : List ℕ) → list_all (λ (e : Resolved). is_given (outcome slots s u [] e)) (atom_parts nodes atoms) ≡ true
    → list_all (λ (a : ℕ). is_given (outcome_at (outcomes_of slots s u [] nodes) a)) atoms ≡ true
given_at slots s u nodes atoms h =
    let all : List Bool → Bool = list_all (λ (b : Bool). b) in
    sym (list_all-map (λ (b : Bool). b) (λ (a : ℕ). is_given (outcome_at (outcomes_of slots s u [] nodes) a)) atoms)
    ∙ ap all (atoms_at is_given slots s u nodes atoms)
    ∙ list_all-map (λ (b : Bool). b) (λ (e : Resolved). is_given (outcome slots s u [] e)) (atom_parts nodes atoms) ∙ h

-- the values of what is defined
pub defined_told : (p : Program) (reads : List ℕ) (parts : List Resolved) (v : ℕ → Bool)
    → map (is_just_in p (state_in p reads v)) (justices_of p) ++ map (λ (e : Resolved). is_true_at p reads e v) parts ≡ truths_in v (defined_values p reads parts)
defined_told p reads parts v =
    ap (λ (bs : List Bool). bs ++ map (λ (e : Resolved). is_true_at p reads e v) parts)
    (sym (map-map (λ (f : (ℕ → Bool) → Bool). f v) (λ (x : ResolvedItem). λ (b : ℕ → Bool). is_just_in p (state_in p reads b) x) (justices_of p)))
    ∙ ap (λ (bs : List Bool). truths_in v (joint_just_values p reads) ++ bs) (sym (map-map (λ (f : (ℕ → Bool) → Bool). f v) (is_true_at p reads) parts))
    ∙ sym (map-append (λ (f : (ℕ → Bool) → Bool). f v) (joint_just_values p reads) (atom_values p reads parts))

-- an atom is true where the state is one, and its outcome is TRUE
pub true_where : (valid one other : Bool) → (valid ≡ true → one ≡ other) → (valid && one) ≡ (valid && other)
true_where true one other same = same refl
true_where false one other same = refl

-- one edge more
pub truths_more : (f : ℕ → Bool) (atoms : List ℕ) (i d : ℕ) (made new : List Bool) (b : Bool) → i < length atoms
    → made ≡ map f (take i atoms) → new ≡ made ++ b ∷ [] → b ≡ f (get_or atoms i d) → new ≡ map f (take (i + 1) atoms)
truths_more f atoms i d made new b lt made_is new_is b_is =
    new_is ∙ ap (λ (bs : List Bool). bs ++ b ∷ []) made_is ∙ ap (λ (x : Bool). map f (take i atoms) ++ x ∷ []) b_is
    ∙ sym (map-append f (take i atoms) (get_or atoms i d ∷ [])) ∙ ap (map f) (sym (take_more atoms i d lt))
