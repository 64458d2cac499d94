-- the truths of the atoms so far
use Rattle.std.proofs.Common.{◌≡◌, take}
use Rattle.smv_slots.specs.Slots.{slots_of}
use Rattle.smv_formulas.specs.Says.{atom_parts}
use Rattle.smv_formulas.specs.Words.{truths_at}
use Rattle.smv_formulas.proofs.words.atoms_at.Given as goal

abbrev pub invariant-loop-atom : goal.invariant-loop-atom
invariant-loop-atom l =
    l.truths.items ≡ truths_at (slots_of l.typed.scope.program) l.state l.inputs (atom_parts l.typed.nodes (take l.atom-index l.atoms))
