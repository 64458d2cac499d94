-- the times so far
use Rattle.std.proofs.Common.{◌≡◌, ◌<◌, ℕ, [], length, get_or}
use Rattle.smv_slots.specs.Slots.{slots_of}
use Rattle.smv_formulas.specs.Says.{atom_parts}
use Rattle.smv_formulas.specs.Words.{truths_at}
use Rattle.smv_formulas.proofs.words.word_of.Given as goal

abbrev pub invariant-loop-i : goal.invariant-loop-i
invariant-loop-i l = record {
  long : length l.times.items ≡ l.i;
  each : (k : ℕ) → k < l.i → get_or l.times.items k [] ≡ truths_at (slots_of l.typed.scope.program) (get_or l.states k []) (get_or l.inputs k []) (atom_parts l.typed.nodes l.atoms);
}
