-- What is built stands for the program and the formula.
use Rattle.std.proofs.Common.{rules, ◌≡◌, ◌∙◌, ℕ, List, length, ap, subst, sym}
use Rattle.clause_core.specs.declared.literal.Lit.{Lit}
use Rattle.ltl_meaning.specs.Temporal.{formula_of}
use Rattle.ltl_meaning.specs.Unfolded.{unfolded}
use Rattle.ltl_monitor.specs.States.{AtomsBelow}
use Rattle.smv_resolve.specs.Items.{item_by}
use Rattle.smv_formulas.specs.Known.{AreKnownWith}
use Rattle.smv_formulas.specs.Says.{Says, atom_parts}
use Rattle.bit_formula.specs.Coding.{input_count, joint_layout}
use Rattle.bit_formula.specs.Numbers.{AreInOrder}
use Rattle.bit_formula.specs.Reading.{is_read_in}
use Rattle.bit_formula.specs.Sides.{IsJointSystem}
use Rattle.bit_formula.specs.Standing as standing
use Rattle.bit_formula.proofs.Numbers.{in_order}
use Rattle.bit_formula.proofs.OfStates.{atoms_given}
use Rattle.bit_formula.proofs.formula_system.build_formula.Goals as goal

pub places_of-requires-clause-order : goal.places_of-requires-clause-order
places_of-requires-clause-order c =
    let p = c.args.flat.now.typed.scope.program in
    let parts = atom_parts c.args.flat.now.typed.nodes c.as_slice-atoms.result.now in
    subst (λ (rs : List ℕ). AreInOrder (input_count p) rs) (sym (c.deref.ensures.value ∙ c.in_ok-reads.ensures)) (in_order (is_read_in p parts) (input_count p))

pub joint_system-requires-clause-given : goal.joint_system-requires-clause-given
joint_system-requires-clause-given c =
    let typed = c.args.flat.now.typed in
    let p = typed.scope.program in
    let spec = item_by typed.nodes c.args.spec.now in
    let known : AreKnownWith p spec.value (atom_parts typed.nodes c.as_slice-atoms.result.now) =
    subst (λ (ks : List ℕ). AreKnownWith p spec.value (atom_parts typed.nodes ks)) (sym c.as_slice-atoms.ensures) c.in_ok-specified.ensures.known in
    atoms_given p typed.known spec c.requires.among c.requires.temporal (atom_parts typed.nodes c.as_slice-atoms.result.now) known

pub returns : goal.returns
returns c =
    let typed = c.args.flat.now.typed in
    let p = typed.scope.program in
    let spec = item_by typed.nodes c.args.spec.now in
    let atoms = c.as_slice-atoms.result.now in
    let parts = atom_parts typed.nodes atoms in
    let reads = c.in_ok-reads.reads.items in
    let joint = c.in_ok-joint.joint in
    let layout = c.in_ok-places.places.layout in
    let formula = formula_of c.in_ok-specified.specified.formula.root in
    let is : IsJointSystem p reads parts joint = subst (λ (rs : List ℕ). IsJointSystem p rs parts joint) c.deref-2.ensures.value c.in_ok-joint.ensures in
    let layout_is : layout ≡ joint_layout p reads = c.in_ok-places.ensures.layout ∙ ap (joint_layout p) c.deref.ensures.value in
    let below : AtomsBelow (length c.as_slice-2.result.now) (unfolded formula) = search rules in
    let stands : standing.StandsForFormula p spec record { reads = reads; layout = layout; system = joint.system; formula = formula; atoms = joint.atoms.items } = record {
      types = typed.right_types;
      parts = parts;
      reads = c.in_ok-reads.ensures;
      layout = layout_is;
      bits = is.bits;
      room = is.room;
      first = is.first;
      step = is.step;
      defs = is.defs;
      fair = is.fair;
      within = is.within;
      atoms = is.atoms;
      numbers = subst (λ (ls : List Lit). AtomsBelow (length ls) (unfolded formula)) c.as_slice-2.ensures.value below;
      says = subst (λ (ks : List ℕ). Says p (atom_parts typed.nodes ks) formula spec.value) (sym c.as_slice-atoms.ensures) c.in_ok-specified.ensures.says;
    } in
    subst (λ (r : standing.FormulaSystem). standing.StandsForFormula p spec r) (sym c.new.ensures) stands
