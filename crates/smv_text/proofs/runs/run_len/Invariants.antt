use Rattle.std.proofs.Common.{length, ◌-◌, ◌≡◌, ◌≤◌, drop, ◌+◌}
use Rattle.std.specs.List.{prefix_len}
use Rattle.smv_text.specs.Runs.{in_run}
use Rattle.smv_text.proofs.runs.run_len.Given as goal

abbrev pub invariant-loop-n : goal.invariant-loop-n
invariant-loop-n l = record { inside : l.n ≤ length l.bytes; rest : l.n + prefix_len (in_run l.run) (drop l.n l.bytes) ≡ prefix_len (in_run l.run) l.bytes }

abbrev pub decreases-loop-n : goal.decreases-loop-n
decreases-loop-n l = length l.bytes - l.n
