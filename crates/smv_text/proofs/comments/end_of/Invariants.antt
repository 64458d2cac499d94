use Rattle.std.proofs.Common.{length, ◌-◌, ◌≡◌, ◌≤◌, drop}
use Rattle.smv_text.specs.Comments.{end_of}
use Rattle.smv_text.proofs.Ends.{shift}
use Rattle.smv_text.proofs.comments.end_of.Given as goal

abbrev pub invariant-loop-n : goal.invariant-loop-n
invariant-loop-n l = record { inside : l.n ≤ length l.bytes; rest : end_of l.bytes ≡ shift l.n (end_of (drop l.n l.bytes)) }

abbrev pub decreases-loop-n : goal.decreases-loop-n
decreases-loop-n l = length l.bytes - l.n
