use Rattle.std.proofs.Common.{◌≡◌, ◌≤◌, ◌+◌, drop}
use Rattle.smv_tree.specs.Places.{behind}
use Rattle.smv_text.proofs.texts.behind.Given as goal

abbrev pub invariant-loop-byte : goal.invariant-loop-byte
invariant-loop-byte l = record {
  line : l.line ≤ l.fn.place.line + l.byte-index;
  column : l.column ≤ l.fn.place.column + l.byte-index;
  moved : behind (record { line = l.line; column = l.column }) (drop l.byte-index l.text) ≡ behind l.fn.place l.text;
}
