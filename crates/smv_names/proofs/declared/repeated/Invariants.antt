-- The names so far are the set's, and what is left gives the refusal of all.
use Rattle.std.proofs.Common.{◌≡◌, ℕ, List, [], take, drop}
use Rattle.smv_names.specs.Lent.{knows, read_names}
use Rattle.smv_names.specs.Declarations.{has_name, repeated}
use Rattle.smv_names.proofs.declared.repeated.Given as goal

abbrev pub invariant-loop-named : goal.invariant-loop-named
invariant-loop-named l = record {
  seen : (name : List ℕ) → knows l.seen name ≡ has_name (read_names (take l.named-index l.names)) name;
  left : repeated l.rule (read_names (take l.named-index l.names)) (read_names (drop l.named-index l.names)) ≡ repeated l.rule [] (read_names l.names);
}
