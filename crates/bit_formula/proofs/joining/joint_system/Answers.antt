-- The sides of a program's system.
use Rattle.std.proofs.Common.{ℕ, Bool, false, length, ap, arith, subst, sym}
use Rattle.std.proofs.lemmas.List.{length-append, length-map}
use Rattle.bit_graph.specs.Meaning.{HasInputs, edge_value}
use Rattle.bit_graph.specs.Values.{values}
use Rattle.smv_formulas.specs.Says.{atom_parts}
use Rattle.smv_resolve.specs.Items.{ResolvedItem}
use Rattle.bit_conditions.specs.Asked.{is_just_in, justices_of}
use Rattle.bit_formula.specs.Coding.{state_in}
use Rattle.bit_formula.specs.Conditions.{defined_values}
use Rattle.bit_formula.specs.Standing.{atom_values, joint_just_values}
use Rattle.bit_formula.proofs.Systems.{can_be_joined, joined_is, side_is}
use Rattle.bit_formula.proofs.joining.joint_system.Goals as goal

pub overflow_sub-steps : goal.overflow_sub-steps
overflow_sub-steps c = omega (arith, c.requires.joint, c.in_ok-steps.ensures.room)

pub joint_side-requires-clause-inputs : goal.joint_side-requires-clause-inputs
joint_side-requires-clause-inputs c = subst (λ n. HasInputs n c.in_ok-parts.parts.graph) (sym c.requires.joint) c.in_ok-parts.ensures.inputs

pub joint_side-requires-clause-justices : goal.joint_side-requires-clause-justices
joint_side-requires-clause-justices c =
    let p = c.args.typed.now.scope.program in
    let reads = c.args.reads.now in
    let parts = c.in_ok-parts.parts in
    let atoms = atom_parts c.args.typed.now.nodes c.args.atoms.now in
    let v : ℕ → Bool = values (λ k. false) parts.graph in
    let just : ResolvedItem → (ℕ → Bool) → Bool = λ x b. is_just_in p (state_in p reads b) x in
    let told = ap length (c.in_ok-parts.ensures.told v (c.one_way.ensures.law.some (λ k. false)).0) in
    omega (
      arith,
      told,
      length-map parts.defined.items (edge_value v),
      length-map (defined_values p reads atoms) (λ (f : (ℕ → Bool) → Bool). f v),
      length-append (joint_just_values p reads) (atom_values p reads atoms),
      length-map (justices_of p) just,
      c.in_ok-parts.ensures.justices,
    )

pub joined-requires : goal.joined-requires
joined-requires c =
    let p = c.args.typed.now.scope.program in
    let reads = c.args.reads.now in
    let atoms = atom_parts c.args.typed.now.nodes c.args.atoms.now in
    let side = c.in_ok-side.side in
    let e = c.in_ok-side.ensures in
    let is = side_is p reads atoms c.in_ok-parts.parts side c.in_ok-parts.ensures c.one_way.ensures.law _ c.requires.joint e.init e.gives e.defines e.justices e.init_within e.defs_within
    e.literals_within in
    can_be_joined p reads atoms _ c.in_ok-steps.steps side c.requires.joint c.in_ok-steps.ensures is (omega (arith, c.requires.joint, e.room, c.in_ok-steps.ensures.room))

pub returns : goal.returns
returns c =
    let p = c.args.typed.now.scope.program in
    let reads = c.args.reads.now in
    let atoms = atom_parts c.args.typed.now.nodes c.args.atoms.now in
    let side = c.in_ok-side.side in
    let e = c.in_ok-side.ensures in
    let is = side_is p reads atoms c.in_ok-parts.parts side c.in_ok-parts.ensures c.one_way.ensures.law _ c.requires.joint e.init e.gives e.defines e.justices e.init_within e.defs_within
    e.literals_within in
    joined_is p reads atoms _ c.in_ok-steps.steps side c.in_ok-system.system c.requires.joint c.in_ok-steps.ensures is (omega (arith, c.requires.joint, e.room, c.in_ok-steps.ensures.room))
    c.in_ok-system.ensures.system c.in_ok-system.ensures.atoms
