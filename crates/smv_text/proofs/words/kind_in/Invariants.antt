use Rattle.std.proofs.Common.{◌≡◌, length}
use Rattle.smv_text.specs.Words.{kind_in}
use Rattle.smv_text.specs.Rows.{read_row}
use Rattle.smv_text.proofs.words.kind_in.Given as goal

abbrev pub invariant-loop-table : goal.invariant-loop-table
invariant-loop-table l = kind_in (read_row l.table) l.text ≡ kind_in (read_row l.initial.table) l.text

abbrev pub decreases-loop-table : goal.decreases-loop-table
decreases-loop-table l = length l.table
