use Rattle.std.proofs.Common.{◌≤◌, ◌+◌, length}
use Rattle.smv_text.proofs.Cuts.{AreCut}
use Rattle.smv_text.proofs.texts.tokens.Given as goal

abbrev pub invariant-loop-rest : goal.invariant-loop-rest
invariant-loop-rest l = record {
  inside : length l.rest ≤ length l.fn.text;
  line : l.place.line + length l.rest ≤ 1 + length l.fn.text;
  column : l.place.column + length l.rest ≤ 1 + length l.fn.text;
  cut : AreCut l.fn.text l.items.items l.place l.rest;
}

abbrev pub decreases-loop-rest : goal.decreases-loop-rest
decreases-loop-rest l = length l.rest
