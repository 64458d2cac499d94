-- The clauses of both sides as a system.
use Rattle.std.proofs.Common.{◌≡◌, ◌∙◌, ℕ, ◌<◌, ◌≤◌, ◌++◌, Bool, ◌&&◌, List, [], ◌∷◌, length, map, refl, sym, ap, subst, arith, inl}
use Rattle.std.specs.List.{All}
use Rattle.std.proofs.lemmas.List.{length-map, map-id}
use Rattle.std.proofs.lemmas.List.Elements.{All-nil, All-cons, All-head}
use Rattle.clause_core.specs.Assignments.{Agrees, ClauseTrue}
use Rattle.clause_core.specs.Literals.{Within}
use Rattle.clause_core.specs.Systems.{Gives, IsSystem, Opposed, TransitionSystem}
use Rattle.clause_core.specs.declared.literal.Lit.{Lit}
use Rattle.bit_graph.specs.declared.edge.Edge.{Edge}
use Rattle.bit_graph.specs.Values.{OneWay, value_under, values}
use Rattle.smv_tree.specs.declared.tree.Program.{Program}
use Rattle.smv_value.specs.declared.value.Value.{Value}
use Rattle.smv_slots.specs.Slots.{slots_of}
use Rattle.smv_resolve.specs.Items.{ResolvedItem}
use Rattle.smv_resolve.specs.Resolved.{Resolved}
use Rattle.smv_meaning.specs.Runs.{are_inputs, is_state, is_true}
use Rattle.smv_meaning.specs.Values.{outcome}
use Rattle.bit_clauses.specs.declared.deciding.Decided.{Decided}
use Rattle.bit_clauses.specs.Deciding.{Decides}
use Rattle.bit_clauses.specs.Gated.{DecidesGroup, DefinesAll, DefinesEdges}
use Rattle.bit_clauses.proofs.Deciders.{all_left, all_right}
use Rattle.bit_conditions.specs.Asked.{is_just_in, justices_of}
use Rattle.bit_system.proofs.OfSides.{all_within_more, decides_told, defines_as}
use Rattle.bit_formula.specs.declared.sides.JointSide.{JointSide}
use Rattle.bit_formula.specs.declared.states.JointConditions.{JointConditions}
use Rattle.bit_formula.specs.declared.joining.JointSystem.{JointSystem}
use Rattle.bit_formula.specs.Coding.{joint_named, joint_width, state_in}
use Rattle.bit_formula.specs.Conditions.{TellsJoint, defined_values, truths_in}
use Rattle.bit_formula.specs.Sides.{CanBeJoined, IsJointSide, IsJointStep, IsJointSystem, joined_system}
use Rattle.bit_formula.specs.Standing.{atom_values, is_first_at, is_step_at, joint_just_values}
use Rattle.bit_formula.proofs.Defining.{defines_split}
use Rattle.bit_formula.proofs.Joint.{first_same, read_same, state_same}
use Rattle.bit_formula.proofs.OfStates.{defined_told}

-- no state meets an empty clause
never_met : (a : ℕ → Bool) → All (ClauseTrue a) ([] ∷ []) → ⊥
never_met a all =
    let any = All-head (ClauseTrue a) [] [] all in
    let lt = any.2 in omega (arith, lt)

none_bad : (width : ℕ) → Opposed width [] ([] ∷ [])
none_bad width = record {
  either = λ x. inl (x, (λ v lt. refl), All-nil (ClauseTrue x));
  never_both = λ x good bad. never_met bad.0 bad.2;
}

gives_first : (n : ℕ) (ls ms : List Lit) (defs : List (List Lit)) → Gives n (ls ++ ms) defs → Gives n ls defs
gives_first n ls ms defs gives = record {
  extends = gives.extends;
  one_way = λ a b agrees here there.
      let both = gives.one_way a b agrees here there in
      (all_left (λ (l : Lit). a l.var ≡ b l.var) ls ms both.0, both.1);
}

pub is_system : (width : ℕ) (steps : Decided) (side : JointSide) → CanBeJoined width steps side → IsSystem (joined_system width steps side)
is_system width steps side can = record {
  room = let a = can.room in let b = can.above in omega (arith, a, b);
  init_in = can.init_within;
  step_in = all_within_more steps.vars side.vars steps.clauses can.above can.step_within;
  bad_in = All-cons (Within side.vars) [] [] (All-nil (λ (l : Lit). l.var < side.vars)) (All-nil (Within side.vars));
  good_in = All-nil (Within side.vars);
  opposed = none_bad width;
  fair_in = can.fair_within;
  defs_in = can.defs_within;
  gives = gives_first width side.fair side.atoms.items side.defs can.gives;
}

module _ (p : Program) (reads : List ℕ) (parts : List Resolved) where
  -- the same bits, the same values
  values_same : (v a : ℕ → Bool) → Agrees (joint_width p reads) v a → truths_in v (defined_values p reads parts) ≡ truths_in a (defined_values p reads parts)
  values_same v a agrees =
      let states = state_same p reads v a agrees in
      let inputs = read_same p reads v a agrees in
      let same : List Value → List Value → List Bool =
      λ s u. map (is_just_in p s) (justices_of p) ++ map (λ (e : Resolved). (is_state p s && are_inputs p u) && is_true (outcome (slots_of p) s u [] e)) parts in
      sym (defined_told p reads parts v) ∙ (λ i. same (states i) (inputs i)) ∙ defined_told p reads parts a

  module _ (c : JointConditions) (r : JointSide) (tells : TellsJoint p reads parts c) (law : OneWay c.graph) where
    abbrev j : ℕ
    j = joint_width p reads

    inputs_agree : (a : ℕ → Bool) → Agrees j (values a c.graph) a
    inputs_agree a k lt = let at = tells.inputs.at k lt in (law.some a).1 k at.0 at.1

    all_defined : DefinesEdges j c.graph c.defined.items r.defs (r.fair ++ r.atoms.items) → DefinesAll j r.defs (r.fair ++ r.atoms.items) (defined_values p reads parts)
    all_defined defines =
        let value_of : Edge → (ℕ → Bool) → Bool = λ e x. value_under x c.graph e in
        let told : ((ℕ → Bool) → Bool) → (ℕ → Bool) → Bool = λ f x. f x in
        let same : (a : ℕ → Bool) → map (λ (e : Edge). value_under a c.graph e) c.defined.items ≡ truths_in a (defined_values p reads parts) =
        λ a. tells.told (values a c.graph) (law.some a).0 ∙ values_same (values a c.graph) a (inputs_agree a) in
        subst (λ (fs : List ((ℕ → Bool) → Bool)). DefinesAll j r.defs (r.fair ++ r.atoms.items) fs) (map-id (defined_values p reads parts))
        (defines_as j r.defs value_of told c.defined.items (defined_values p reads parts) (r.fair ++ r.atoms.items) same defines)

    pub side_is : (n : ℕ) → n ≡ j → DecidesGroup n c.graph c.first.items r.init → Gives n (r.fair ++ r.atoms.items) r.defs
        → DefinesEdges n c.graph c.defined.items r.defs (r.fair ++ r.atoms.items) → length r.fair ≡ c.justices
        → All (Within r.vars) r.init → All (Within r.vars) r.defs → Within r.vars (r.fair ++ r.atoms.items) → IsJointSide p reads parts r
    side_is n n_is init gives defines justices init_within defs_within within =
        let long : length r.fair ≡ length (joint_just_values p reads) =
        justices ∙ tells.justices ∙ sym (length-map (justices_of p) (λ (x : ResolvedItem). λ (b : ℕ → Bool). is_just_in p (state_in p reads b) x)) in
        let split = defines_split j r.defs r.fair r.atoms.items (joint_just_values p reads) (atom_values p reads parts) long
        (all_defined (subst (λ k. DefinesEdges k c.graph c.defined.items r.defs (r.fair ++ r.atoms.items)) n_is defines)) in
        record {
          init = decides_told j c.graph c.first.items r.init (is_first_at p reads) tells.inputs law tells.first.holds
              (first_same p reads) (subst (λ k. DecidesGroup k c.graph c.first.items r.init) n_is init);
          defs = subst (λ k. Gives k (r.fair ++ r.atoms.items) r.defs) n_is gives;
          fair = split.0;
          atoms = split.1;
          init_within = init_within;
          defs_within = defs_within;
          fair_within = all_left (λ (l : Lit). l.var < r.vars) r.fair r.atoms.items within;
          atoms_within = all_right (λ (l : Lit). l.var < r.vars) r.fair r.atoms.items within;
        }

  -- both sides as a system
  pub can_be_joined : (n : ℕ) (steps : Decided) (side : JointSide) → n ≡ joint_width p reads → IsJointStep p reads steps → IsJointSide p reads parts side → steps.vars ≤ side.vars
      → CanBeJoined n steps side
  can_be_joined n steps side n_is is_steps is above = record {
    room = let room = is_steps.room in omega (arith, room, n_is);
    above = above;
    step_within = is_steps.within;
    init_within = is.init_within;
    defs_within = is.defs_within;
    fair_within = is.fair_within;
    gives = subst (λ k. Gives k (side.fair ++ side.atoms.items) side.defs) (sym n_is) is.defs;
  }

  pub joined_is : (n : ℕ) (steps : Decided) (side : JointSide) (r : JointSystem) → n ≡ joint_width p reads → IsJointStep p reads steps → IsJointSide p reads parts side → steps.vars ≤ side.vars
      → r.system ≡ joined_system n steps side → r.atoms.items ≡ side.atoms.items → IsJointSystem p reads parts r
  joined_is n steps side r n_is is_steps is above system_is atoms_are =
      let j = joint_width p reads in
      record {
        bits = ap (λ (s : TransitionSystem). s.state_bits) system_is ∙ n_is;
        room = subst (λ (s : TransitionSystem). joint_named p reads ≤ s.all_bits) (sym system_is) (let room = is_steps.room in omega (arith, room, above));
        first = subst (λ (s : TransitionSystem). Decides j s.init (is_first_at p reads)) (sym system_is) is.init;
        step = subst (λ (s : TransitionSystem). Decides (joint_named p reads) s.step (is_step_at p reads)) (sym system_is) is_steps.step;
        defs = subst (λ (s : TransitionSystem). Gives j (s.fair ++ r.atoms.items) s.defs) (sym system_is)
            (subst (λ (ls : List Lit). Gives j (side.fair ++ ls) side.defs) (sym atoms_are) is.defs);
        fair = subst (λ (s : TransitionSystem). DefinesAll j s.defs s.fair (joint_just_values p reads)) (sym system_is) is.fair;
        within = subst (λ (s : TransitionSystem). Within s.all_bits r.atoms.items) (sym system_is) (subst (λ (ls : List Lit). Within side.vars ls) (sym atoms_are) is.atoms_within);
        atoms = subst (λ (s : TransitionSystem). DefinesAll j s.defs r.atoms.items (atom_values p reads parts)) (sym system_is)
            (subst (λ (ls : List Lit). DefinesAll j side.defs ls (atom_values p reads parts)) (sym atoms_are) is.atoms);
      }
